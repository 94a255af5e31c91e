-- What an author of the engine's log knows after one event more, or after it met what another knew.
use Rattle.std.proofs.Common.{◌≡◌, ℕ, ◌+◌, zero, suc, List, [], ◌∷◌, ◌++◌, length, map, refl, sym, subst, ap, ap₂, ◌∙◌, arith}
use Rattle.std.specs.List.{range_with_len}
use Rattle.pblk_model.specs.Accepted.{IsAccepted}
use Rattle.pblk_model.specs.Image.{Image, IsFit}
use Rattle.pblk_model.specs.Shape.{units}
use Rattle.pblk_world.specs.Events.{EngineEvent, Decides, Logged, Step}
use Rattle.pblk_world.specs.LegalMounts.{IsLegalMount}
use Rattle.pblk_world.specs.World.{Logs, log_of}
use Rattle.pblk_world.proofs.WorldLemmas.{log_elsewhere, log_here}
use Rattle.world_laws.specs.SameTold.{AreSameNamed, AreSameTold, UnitsWentOn}
use Rattle.world_laws.proofs.GrownLogs.{named_grown}
use Rattle.world_laws.proofs.ToldSince.{same_told}
use Rattle.step_laws.specs.Whole.{engine_step, knows_all}
use Rattle.chronicle.specs.Prefixes.{Prefixes, AreLegalLogs, ArePrefixes, logs_of, naming, with_event}
use Rattle.chronicle.proofs.PrefixLemmas.{begins_take, others_same, own_more}
use Rattle.pblk_model.proofs.Numbers.{fun_same}

-- the logs of a legal mount
pub mount_of : (i : Image) (known : Prefixes) (k : AreLegalLogs i known) → IsAccepted i.shape → IsFit i → IsLegalMount i k.world
mount_of i known k accepted fit = record { accepted = accepted; fit = fit; legal = k.legal }

-- ---- an event more

lengths_from : (f : ℕ → List Logged) (xs : Prefixes) (from : ℕ) → ((a : ℕ) → f (from + a) ≡ logs_of xs a)
    → map length xs ≡ map (λ a. length (f a)) (range_with_len from (length xs))
lengths_from f [] from at = refl
lengths_from f (x ∷ xs) from at =
    let zero_is : from + 0 ≡ from = omega arith in
    ap₂ (λ n (ns : List ℕ). n ∷ ns) (ap (λ (log : List Logged). length log) (sym (ap f (sym zero_is) ∙ at 0)))
    (lengths_from f xs (from + 1) (λ a. let next : from + 1 + a ≡ from + suc a = omega arith in ap f next ∙ at (suc a)))

module _ (i : Image) (known : Prefixes) (k : AreLegalLogs i known) (e : EngineEvent) where
  -- it names all that is known
  pub names_all : map length known ≡ knows_all i.shape k.world
  names_all =
      lengths_from (log_of k.world) known 0 (λ a. let at : 0 + a ≡ a = omega arith in ap (log_of k.world) at ∙ ap (λ (l : Logs). l a) k.logs)
      ∙ ap (λ n. map (λ a. length (log_of k.world a)) (range_with_len 0 n)) k.authors

  step_is : engine_step i.shape e k.world ≡ record { author = 0; logged = naming known (Decides e) }
  step_is = ap (λ (ns : List ℕ). record { author = 0; logged = record { event = Decides e; knows = ns } }) (sym names_all)

  pub known_next : logs_of (with_event known 0 (Decides e)) ≡ log_of (engine_step i.shape e k.world ∷ k.world)
  known_next = fun_same (logs_of (with_event known 0 (Decides e))) (log_of (engine_step i.shape e k.world ∷ k.world)) each
    where
      own : (author : ℕ) → logs_of known author ≡ log_of k.world author
      own author = ap (λ (l : Logs). l author) (sym k.logs)

      each : (author : ℕ) → logs_of (with_event known 0 (Decides e)) author ≡ log_of (engine_step i.shape e k.world ∷ k.world) author
      each zero =
          own_more known 0 (Decides e) (let many : length known ≡ units i.shape + 1 = k.authors in omega arith)
          ∙ ap₂ (λ (log : List Logged) (l : Logged). log ++ l ∷ []) (own 0) (ap (λ (s : Step). s.logged) (sym step_is))
          ∙ sym (log_here (engine_step i.shape e k.world) k.world 0 refl)
      each (suc unit) =
          others_same known 0 (Decides e) (suc unit) (λ is. let no : suc unit ≡ 0 = is in absurd (omega arith))
          ∙ own (suc unit)
          ∙ sym (log_elsewhere (engine_step i.shape e k.world) k.world (suc unit) (λ is. let no : 0 ≡ suc unit = is in absurd (omega arith)))

-- ---- more of the units

module _ (i : Image) (known more : Prefixes) (k : AreLegalLogs i known) (keeps : ArePrefixes known more) (own : logs_of more 0 ≡ logs_of known 0) where
  went_on : UnitsWentOn (log_of k.world) (logs_of more)
  went_on = record {
    own = own ∙ ap (λ (l : Logs). l 0) (sym k.logs);
    units = λ unit. (
      length (logs_of known (suc unit)),
      ap (λ (l : Logs). l (suc unit)) k.logs
          ∙ sym (begins_take (logs_of known (suc unit)) (logs_of more (suc unit)) (keeps.each (suc unit))),
    );
  }

  pub grown_named : AreSameNamed (logs_of known) (logs_of more)
  grown_named = subst (λ (l : Logs). AreSameNamed l (logs_of more)) k.logs (named_grown i k.world (logs_of more) k.legal went_on)

  pub grown_told : AreSameTold i (logs_of known) (logs_of more)
  grown_told = subst (λ (l : Logs). AreSameTold i l (logs_of more)) k.logs
      (same_told i k.world (logs_of more) k.legal (named_grown i k.world (logs_of more) k.legal went_on))
