-- How far an engine is stays so, however much more of the units is known.
use Rattle.std.proofs.Common.{◌≡◌, ◌⊎◌, inl, inr, ℕ, ◌<◌, ◌≤◌, false, List, length, take, sym, subst, ap, ◌∙◌, le_refl}
use Rattle.pblk_model.specs.Image.{Image}
use Rattle.pblk_world.specs.AtRest.{IsAtRest, IsResting, logs_at}
use Rattle.pblk_world.specs.Events.{Logged}
use Rattle.pblk_world.specs.Fronts.{synced, taken}
use Rattle.pblk_world.specs.Space.{is_due}
use Rattle.pblk_world.specs.World.{Logs}
use Rattle.world_laws.proofs.GrownLogs.{at_named}
use Rattle.world_laws.proofs.ToldTables.{due_told}
use Rattle.chronicle.specs.Prefixes.{AreLegalLogs, ArePrefixes, Prefixes, logs_of}
use Rattle.pblk_engine.specs.Settlings.{IsWorkedOff, IsWornAt}
use Rattle.pblk_engine.proofs.Knowledge.{grown_named, grown_told}

module _ (i : Image) (known more : Prefixes) (legal : AreLegalLogs i known) (keeps : ArePrefixes known more)
    (own : logs_of more 0 ≡ logs_of known 0) where
  -- the logs at the length of the engine's
  same_at : logs_at (length (logs_of more 0)) (logs_of more) ≡ logs_at (length (logs_of known 0)) (logs_of known)
  same_at = ap (λ (log : List Logged). logs_at (length log) (logs_of more)) own
      ∙ at_named (logs_of known) (logs_of more) (length (logs_of known 0)) (grown_named i known more legal keeps own)

  rest_later : (asked : ℕ) → IsAtRest i (logs_of known) asked (length (logs_of known 0)) → IsAtRest i (logs_of more) asked (length (logs_of more 0))
  rest_later asked is = record {
    has_begun = subst (λ (log : List Logged). 0 < length log) (sym own) is.has_begun;
    within = le_refl (length (logs_of more 0));
    resting = subst (λ (logs : Logs). IsResting i logs asked) (sym same_at) is.resting;
  }

  due_later : (is_due i (logs_of known) ≡ false) ⊎ IsAtRest i (logs_of known) 0 (length (logs_of known 0))
      → (is_due i (logs_of more) ≡ false) ⊎ IsAtRest i (logs_of more) 0 (length (logs_of more 0))
  due_later (inl none) = inl (due_told i (logs_of known) (logs_of more) (grown_told i known more legal keeps own) ∙ none)
  due_later (inr rest) = inr (rest_later 0 rest)

  pub off_later : (claimed : ℕ) → IsWorkedOff i (logs_of known) claimed → IsWorkedOff i (logs_of more) claimed
  off_later claimed is = record {
    all_taken = is.all_taken ∙ ap taken (sym own);
    on_drive = ap (synced i.shape) own ∙ is.on_drive ∙ ap taken (sym own);
    resting = due_later is.resting;
  }

  pub worn_later : (claimed have : ℕ) → IsWornAt i (logs_of known) claimed have → IsWornAt i (logs_of more) claimed have
  worn_later claimed have is = record {
    all_taken = is.all_taken ∙ ap taken (sym own);
    worn = record {
      at_rest = rest_later claimed is.worn.at_rest;
      above = is.worn.above;
      is_synced = is.worn.is_synced ∙ ap (λ (log : List Logged). synced i.shape (take (length log) log)) (sym own);
      all_taken = subst (λ (log : List Logged). claimed ≤ taken (take (length log) log)) (sym own) is.worn.all_taken;
    };
  }
