-- What holds of the engine's log of a legal mount, event by event.
use Rattle.std.proofs.Common.{◌≡◌, ℕ, ◌==◌, Bool, true, false, List, [], ◌∷◌, ◌++◌, length, take, refl, subst, ap, ◌∙◌, if◌then◌else◌}
use Rattle.std.proofs.lemmas.Bool.{eqb-true}
use Rattle.std.proofs.Math.Seq.{take-length}
use Rattle.pblk_model.specs.Image.{Image}
use Rattle.pblk_world.specs.Events.{EngineEvent, Event, Decides, Does, Logged, Step}
use Rattle.pblk_world.specs.World.{World, Logs, log_of, known, prefixes}
use Rattle.pblk_world.specs.Legal.{MayDecide, IsAllowed, IsLegalStep, IsLegal}

-- something is kept by each event that the engine may decide
abbrev pub IsKeptAlways : Image → (List Logged → Type 0) → Type 0
IsKeptAlways i P = (log : List Logged) (known : Logs) (e : EngineEvent) (knows : List ℕ) → known 0 ≡ log → MayDecide i known e
    → P log → P (log ++ record { event = Decides e; knows = knows } ∷ [])

one_event : (i : Image) (P : List Logged → Type 0) → IsKeptAlways i P → (log : List Logged) (known : Logs) (event : Event) (knows : List ℕ) → known 0 ≡ log
    → IsAllowed i 0 event known → P log → P (log ++ record { event = event; knows = knows } ∷ [])
one_event i P kept log known (Decides e) knows own may so = kept log known e knows own may so
one_event i P kept log known (Does e maker) knows own may so = absurd may

one_step : (i : Image) (P : List Logged → Type 0) → IsKeptAlways i P → (s : Step) (w : World) → IsLegalStep i (log_of w) s → (b : Bool) → (s.author == 0) ≡ b
    → P (log_of w 0) → P (if b then log_of w 0 ++ s.logged ∷ [] else log_of w 0)
one_step i P kept s w step false e was = was
one_step i P kept s w step true e was =
    let engine : s.author ≡ 0 = eqb-true s.author 0 e in
    let own : known s.logged 0 ≡ length (log_of w 0) = subst (λ a. known s.logged a ≡ length (log_of w a)) engine step.knowledge.own in
    one_event i P kept (log_of w 0) (prefixes s.logged (log_of w)) s.logged.event s.logged.knows
    (ap (λ n. take n (log_of w 0)) own ∙ take-length (log_of w 0))
    (subst (λ a. IsAllowed i a s.logged.event (prefixes s.logged (log_of w))) engine step.allowed) was

pub of_legal_log : (i : Image) (P : List Logged → Type 0) → P [] → IsKeptAlways i P → (w : World) → IsLegal i w → P (log_of w 0)
unfolding IsLegal
of_legal_log i P none kept [] legal = none
of_legal_log i P none kept (s ∷ w) legal = one_step i P kept s w legal.0 (s.author == 0) refl (of_legal_log i P none kept w legal.1)
