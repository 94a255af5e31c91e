-- What has landed is a program that was done.
use Rattle.std.proofs.Common.{◌≡◌, ℕ, ◌⊎◌, ◌==◌, suc, Bool, true, false, Some, None, Option, List, [], ◌∷◌, ◌++◌, length, refl, subst, ap, ◌∙◌, arith, if◌then◌else◌, inl, inr}
use Rattle.std.specs.Prelude.{slice_get}
use Rattle.std.specs.Option.{option_and_then}
use Rattle.std.proofs.lemmas.Option.{none-some}
use Rattle.pblk_model.specs.ChunkStep.{Done}
use Rattle.pblk_model.specs.UnitLog.{UnitEvent, Answered}
use Rattle.pblk_model.specs.Image.{Image}
use Rattle.pblk_world.specs.Events.{Logged, Step, Decides, Landed}
use Rattle.pblk_world.specs.World.{World, Logs, log_of, known, prefixes, unit_event_of, unit_event_at}
use Rattle.pblk_world.specs.Answering.{MayLand}
use Rattle.pblk_world.specs.Legal.{IsLegal, IsLegalStep, IsAllowed}
use Rattle.pblk_world.proofs.Growing.{at_end}
use Rattle.pblk_model.proofs.Parts.{get_more, get_whole}

then_same : {X Y : Type 0} (f : X → Option Y) (o p : Option X) (y : Y) → ((x : X) → o ≡ Some x → p ≡ Some x) → option_and_then f o ≡ Some y
    → option_and_then f p ≡ Some y
then_same f None p y h e = absurd (none-some y e)
then_same f (Some x) p y h e = ap (option_and_then f) (h x refl) ∙ e

event_of : Logged → Option UnitEvent
event_of l = unit_event_of l.event

-- the event of a unit's log is a program that was done
abbrev IsDoneAt : Logs → ℕ → ℕ → Type 0
IsDoneAt logs unit n = (e : UnitEvent) × (unit_event_at logs unit n ≡ Some e) × (e.outcome ≡ Answered Done)

longer_by : (s : Step) (log : List Logged) (b : Bool) (n : ℕ) (e : UnitEvent) → option_and_then (λ l. unit_event_of l.event) (slice_get log n) ≡ Some e
    → option_and_then (λ (l : Logged). unit_event_of l.event) (slice_get (if b then log ++ s.logged ∷ [] else log) n) ≡ Some e
longer_by s log true n e h = then_same (λ (l : Logged). unit_event_of l.event) (slice_get log n) (slice_get (log ++ s.logged ∷ []) n) e
    (λ l f. get_more log (s.logged ∷ []) n l f) h
longer_by s log false n e h = h

longer : (s : Step) (w : World) (unit n : ℕ) → IsDoneAt (log_of w) unit n → IsDoneAt (log_of (s ∷ w)) unit n
longer s w unit n h = (h.0, longer_by s (log_of w (suc unit)) (s.author == suc unit) n h.0 h.1, h.2)

whole : (l : Logged) (logs : Logs) (unit n : ℕ) → IsDoneAt (prefixes l logs) unit n → IsDoneAt logs unit n
whole l logs unit n h = (
  h.0,
  then_same (λ (m : Logged). unit_event_of m.event) (slice_get (prefixes l logs (suc unit)) n) (slice_get (logs (suc unit)) n) h.0
      (λ m f. get_whole (known l (suc unit)) (logs (suc unit)) n m f) h.1,
  h.2,
)

lands : (logs : Logs) (unit n : ℕ) → MayLand logs unit n → IsDoneAt logs unit n
lands logs unit n m = (m.program, ap (option_and_then (λ (l : Logged). unit_event_of l.event)) m.new.is_known ∙ m.new.event, m.done)

Lands : World → List Logged → Type 0
Lands w log = (k unit n : ℕ) (l : Logged) → slice_get log k ≡ Some l → l.event ≡ Decides (Landed unit n) → IsDoneAt (log_of w) unit n

lands_by : (i : Image) (s : Step) (w : World) → IsLegalStep i (log_of w) s → Lands w (log_of w 0) → (b : Bool) → (s.author == 0) ≡ b
    → (k unit n : ℕ) (l : Logged) → slice_get (if b then log_of w 0 ++ s.logged ∷ [] else log_of w 0) k ≡ Some l → l.event ≡ Decides (Landed unit n)
    → IsDoneAt (log_of w) unit n
unfolding Lands
lands_by i s w step h false e k unit n l there is = h k unit n l there is
lands_by i s w step h true e k unit n l there is = go (at_end (log_of w 0) s.logged l k there)
  where
    go : (slice_get (log_of w 0) k ≡ Some l) ⊎ ((k ≡ length (log_of w 0)) × (s.logged ≡ l)) → IsDoneAt (log_of w) unit n
    go (inl old) = h k unit n l old is
    go (inr new) =
        let engine : s.author ≡ 0 = grind arith in
        let event : s.logged.event ≡ Decides (Landed unit n) = ap (λ (m : Logged). m.event) new.1 ∙ is in
        let allowed : IsAllowed i 0 (Decides (Landed unit n)) (prefixes s.logged (log_of w)) =
        subst (λ e. IsAllowed i 0 e (prefixes s.logged (log_of w))) event
        (subst (λ a. IsAllowed i a s.logged.event (prefixes s.logged (log_of w))) engine step.allowed) in
        whole s.logged (log_of w) unit n (lands (prefixes s.logged (log_of w)) unit n allowed.2)

all_land : (i : Image) (w : World) → IsLegal i w → Lands w (log_of w 0)
unfolding IsLegal Lands
all_land i [] legal = λ k unit n l there is. absurd (none-some l there)
all_land i (s ∷ w) legal = λ k unit n l there is. longer s w unit n (lands_by i s w legal.0 (all_land i w legal.1) (s.author == 0) refl k unit n l there is)

pub landed_is_done : (i : Image) (w : World) (k unit n : ℕ) (l : Logged) → IsLegal i w → slice_get (log_of w 0) k ≡ Some l → l.event ≡ Decides (Landed unit n)
    → (e : UnitEvent) × (unit_event_at (log_of w) unit n ≡ Some e) × (e.outcome ≡ Answered Done)
unfolding Lands
landed_is_done i w k unit n l legal there is = all_land i w legal k unit n l there is
