-- That lines are opened only where the open ones have no address left, as the log goes on.
use Rattle.std.proofs.Common.{◌≡◌, ◌⊎◌, ℕ, ◌<◌, List, None, [], ◌∷◌, ◌++◌, inl, inr, length, sym, subst, ap, ◌∙◌, arith, append-nil}
use Rattle.std.specs.List.{Contains}
use Rattle.std.specs.Option.{option_to_list}
use Rattle.std.proofs.lemmas.List.Elements as elements
use Rattle.pblk_model.specs.Image.{Image}
use Rattle.pblk_model.specs.StartRecord.{StartRecord}
use Rattle.pblk_world.specs.EngineLog.{Opening, openings, opened_by}
use Rattle.pblk_world.specs.Events.{Decides, EngineEvent, Open}
use Rattle.pblk_world.specs.Space.{open_addresses}
use Rattle.pblk_world.specs.Victims.{engine_prefix}
use Rattle.pblk_world.specs.World.{Logs}
use Rattle.pblk_world.proofs.Appending.{openings_more}
use Rattle.core_laws.specs.Spent.{OpensWhenFull}
use Rattle.core_laws.specs.Stepping.{after}
use Rattle.core_laws.proofs.Engine.{openings_before, prefix_same, prefix_whole}
use Rattle.pblk_model.proofs.Lists.{among_contained}
use Rattle.pblk_model.proofs.Parts.{all_at}

-- a line that was opened before
opened_before : (i : Image) (logs : Logs) (e : EngineEvent) (knows : List ℕ) (o : Opening) → OpensWhenFull i logs → Contains (openings (logs 0)) o
    → open_addresses i (engine_prefix o.number (after logs e knows)) ≡ 0
opened_before i logs e knows o full among =
    let at = among_contained (openings (logs 0)) o among in
    let within : o.number < length (logs 0) =
    all_at (λ (p : Opening). p.number < length (logs 0)) (openings (logs 0)) at.0 o at.1 (openings_before (logs 0)) in
    ap (open_addresses i) (prefix_same logs e knows o.number (omega arith)) ∙ full o among

-- an event that opens none
pub full_kept : (i : Image) (logs : Logs) (e : EngineEvent) (knows : List ℕ) → opened_by (length (logs 0)) knows (Decides e) ≡ None
    → OpensWhenFull i logs → OpensWhenFull i (after logs e knows)
full_kept i logs e knows none full = λ o among.
    let same : openings (after logs e knows 0) ≡ openings (logs 0) =
    openings_more (logs 0) (record { event = Decides e; knows = knows }) ∙ ap (λ x. openings (logs 0) ++ option_to_list x) none
    ∙ append-nil (openings (logs 0)) in
    opened_before i logs e knows o full (subst (λ os. Contains os o) same among)

-- a line is opened where no address is left
pub full_opened : (i : Image) (logs : Logs) (line : ℕ) (start : StartRecord) (knows : List ℕ) → open_addresses i logs ≡ 0
    → OpensWhenFull i logs → OpensWhenFull i (after logs (Open line start) knows)
full_opened i logs line start knows left full = λ o among.
    by o (elements.Contains-push_cases (openings (logs 0)) new o (subst (λ os. Contains os o) more among))
  where
    new : Opening
    new = record { number = length (logs 0); line = line; start = start; knows = knows }

    more : openings (after logs (Open line start) knows 0) ≡ openings (logs 0) ++ new ∷ []
    more = openings_more (logs 0) (record { event = Decides (Open line start); knows = knows })

    by : (o : Opening) → Contains (openings (logs 0)) o ⊎ (new ≡ o) → open_addresses i (engine_prefix o.number (after logs (Open line start) knows)) ≡ 0
    by o (inl before) = opened_before i logs (Open line start) knows o full before
    by o (inr is) =
        ap (λ (p : Opening). open_addresses i (engine_prefix p.number (after logs (Open line start) knows))) (sym is)
        ∙ ap (open_addresses i) (prefix_whole logs (Open line start) knows) ∙ left
