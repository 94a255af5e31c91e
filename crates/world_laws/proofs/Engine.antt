-- What holds of the engine's log, by induction on its events.
use Rattle.std.proofs.Common.{◌≡◌, ℕ, ◌==◌, Bool, true, false, List, [], ◌∷◌, ◌++◌, refl, sym, subst, if◌then◌else◌}
use Rattle.pblk_model.specs.Image.{Image}
use Rattle.pblk_world.specs.Events.{Event, Logged, Step}
use Rattle.pblk_world.specs.World.{World, Logs, log_of, prefixes}
use Rattle.pblk_world.specs.Legal.{IsLegal, IsLegalStep, IsAllowed}
use Rattle.pblk_world.proofs.LegalLemmas.{whole_own}
use Rattle.pblk_model.proofs.Tests.{same}

abbrev pub logged_as : Event → List ℕ → Logged
logged_as e knows = record { event = e; knows = knows }

-- an event keeps a fact of the engine's log where it is allowed by logs of which the fact holds
abbrev pub Keeps : Image → (List Logged → Type 0) → Type 0
Keeps i P = (logs : Logs) (e : Event) (knows : List ℕ) → IsAllowed i 0 e logs → P (logs 0) → P (logs 0 ++ logged_as e knows ∷ [])

kept : (i : Image) (P : List Logged → Type 0) → Keeps i P → (s : Step) (w : World) → IsLegalStep i (log_of w) s → s.author ≡ 0 → P (log_of w 0)
    → P (log_of w 0 ++ s.logged ∷ [])
kept i P keeps s w step engine h =
    let own : prefixes s.logged (log_of w) 0 ≡ log_of w 0 =
    subst (λ a. prefixes s.logged (log_of w) a ≡ log_of w a) engine (whole_own i s w step) in
    subst (λ (log : List Logged). P (log ++ s.logged ∷ [])) own
    (keeps (prefixes s.logged (log_of w)) s.logged.event s.logged.knows
    (subst (λ a. IsAllowed i a s.logged.event (prefixes s.logged (log_of w))) engine step.allowed)
    (subst P (sym own) h))

pub of_engine : (i : Image) (P : List Logged → Type 0) → P [] → Keeps i P → (w : World) → IsLegal i w → P (log_of w 0)
unfolding IsLegal
of_engine i P none keeps [] legal = none
of_engine i P none keeps (s ∷ w) legal = go (s.author == 0) refl (of_engine i P none keeps w legal.1)
  where
    go : (b : Bool) → (s.author == 0) ≡ b → P (log_of w 0) → P (if b then log_of w 0 ++ s.logged ∷ [] else log_of w 0)
    go false e h = h
    go true e h = kept i P keeps s w legal.0 (same s.author 0 e) h
