-- A unit never has more answers than stripes.
use Rattle.std.proofs.Common.{◌≡◌, ℕ, ◌+◌, ◌<◌, ◌≤◌, ◌==◌, Bool, true, false, Some, None, List, [], ◌∷◌, ◌++◌, length, take, refl, sym, subst, ap, ◌∙◌, arith, if◌then◌else◌, length-append}
use Rattle.std.specs.Option.{option_to_list}
use Rattle.std.specs.List.{filter}
use Rattle.std.proofs.Math.Seq.{take-length}
use Rattle.pblk_model.specs.Image.{Image}
use Rattle.pblk_world.specs.Events.{Event, Logged, Step, Decides, Does, Begin, Take, Open, Place, Landed, Lost, Again, ResetDone, Free}
use Rattle.pblk_world.specs.World.{World, Logs, log_of, known, prefixes}
use Rattle.pblk_world.specs.EngineLog.{Answer, DidLand, WasLost, Placed, placed_on, placements, placed_by, answers, answer_by}
use Rattle.pblk_world.specs.Legal.{IsLegal, IsLegalStep, IsAllowed}
use Rattle.pblk_world.proofs.Appending.{placements_more}
use Rattle.pblk_model.proofs.Tests.{same}
use Rattle.pblk_world.proofs.EngineLogLemmas.{answers_more}

-- what one event adds to the answers of a unit, and to its stripes, as numbers
abbrev answers_by : ℕ → Event → ℕ
answers_by unit e = length (option_to_list (answer_by unit e))

answers_count : (log : List Logged) (l : Logged) (unit : ℕ) → length (answers (log ++ l ∷ []) unit) ≡ length (answers log unit) + answers_by unit l.event
answers_count log l unit = ap length (answers_more log l unit) ∙ length-append (answers log unit) (option_to_list (answer_by unit l.event))

filter_more : {X : Type 0} (P : X → Bool) (xs ys : List X) → length (filter P xs) ≤ length (filter P (xs ++ ys))
filter_more P [] ys = omega arith
filter_more P (x ∷ xs) ys = by (P x) (filter_more P xs ys)
  where
    by : (b : Bool) → length (filter P xs) ≤ length (filter P (xs ++ ys))
        → length (if b then x ∷ filter P xs else filter P xs) ≤ length (if b then x ∷ filter P (xs ++ ys) else filter P (xs ++ ys))
    by true h = omega arith
    by false h = h

stripes_grow : (log : List Logged) (l : Logged) (unit : ℕ) → length (placed_on log unit) ≤ length (placed_on (log ++ l ∷ []) unit)
stripes_grow log l unit = subst (λ (ps : List Placed). length (placed_on log unit) ≤ length (filter (λ p. p.stripe.unit == unit) ps))
    (sym (placements_more log l))
    (filter_more (λ (p : Placed). p.stripe.unit == unit) (placements log) (option_to_list (placed_by log (length log) l.event)))

-- an event adds an answer of a unit only where a stripe waits for it

at_most_one : (a p : ℕ) (x : Answer) (b : Bool) → a ≤ p → (b ≡ true → a < p) → a + length (option_to_list (if b then Some x else None)) ≤ p
at_most_one a p x true h room = let r : a < p = room refl in omega arith
at_most_one a p x false h room = omega arith

abbrev HasRoom : List Logged → ℕ → Type 0
HasRoom log unit = length (answers log unit) < length (placed_on log unit)

adds : (i : Image) (logs : Logs) (e : Event) (unit : ℕ) → IsAllowed i 0 e logs → length (answers (logs 0) unit) ≤ length (placed_on (logs 0) unit)
    → length (answers (logs 0) unit) + answers_by unit e ≤ length (placed_on (logs 0) unit)
adds i logs (Decides (Landed other n)) unit allowed h =
    at_most_one (length (answers (logs 0) unit)) (length (placed_on (logs 0) unit)) (DidLand n) (other == unit) h
    (λ e. subst (λ u. HasRoom (logs 0) u) (same other unit e) allowed.2.stripe.placed)
adds i logs (Decides (Lost other n)) unit allowed h =
    at_most_one (length (answers (logs 0) unit)) (length (placed_on (logs 0) unit)) (WasLost n) (other == unit) h
    (λ e. subst (λ u. HasRoom (logs 0) u) (same other unit e) allowed.2.stripe.placed)
adds i logs (Decides (Begin b)) unit allowed h = omega arith
adds i logs (Decides (Take entry mark)) unit allowed h = omega arith
adds i logs (Decides (Open line start)) unit allowed h = omega arith
adds i logs (Decides (Place stripe)) unit allowed h = omega arith
adds i logs (Decides (Again other n)) unit allowed h = omega arith
adds i logs (Decides (ResetDone other n)) unit allowed h = omega arith
adds i logs (Decides (Free line)) unit allowed h = omega arith
adds i logs (Does e maker) unit allowed h = omega arith

abbrev Fits : List Logged → ℕ → Type 0
Fits log unit = length (answers log unit) ≤ length (placed_on log unit)

abbrev AddsTo : List Logged → Event → ℕ → Type 0
AddsTo log e unit = length (answers log unit) + answers_by unit e ≤ length (placed_on log unit)

fits_more : (log : List Logged) (l : Logged) (unit : ℕ) → AddsTo log l.event unit → Fits (log ++ l ∷ []) unit
fits_more log l unit h =
    let a : length (answers (log ++ l ∷ []) unit) ≡ length (answers log unit) + answers_by unit l.event = answers_count log l unit in
    let b : length (placed_on log unit) ≤ length (placed_on (log ++ l ∷ []) unit) = stripes_grow log l unit in omega arith

-- a step of the engine knows its own log whole
fits_step : (i : Image) (w : World) (l : Logged) (unit : ℕ) → IsAllowed i 0 l.event (prefixes l (log_of w)) → known l 0 ≡ length (log_of w 0)
    → Fits (log_of w 0) unit → Fits (log_of w 0 ++ l ∷ []) unit
fits_step i w l unit allowed own h =
    let whole : take (known l 0) (log_of w 0) ≡ log_of w 0 = ap (λ n. take n (log_of w 0)) own ∙ take-length (log_of w 0) in
    fits_more (log_of w 0) l unit (subst (λ log. AddsTo log l.event unit) whole
    (adds i (prefixes l (log_of w)) l.event unit allowed (subst (λ log. Fits log unit) (sym whole) h)))

fits_by : (i : Image) (s : Step) (w : World) (unit : ℕ) → IsLegalStep i (log_of w) s → Fits (log_of w 0) unit → (b : Bool) → (s.author == 0) ≡ b
    → Fits (if b then log_of w 0 ++ s.logged ∷ [] else log_of w 0) unit
fits_by i s w unit step h false e = h
fits_by i s w unit step h true e =
    let engine : s.author ≡ 0 = same s.author 0 e in
    fits_step i w s.logged unit (subst (λ a. IsAllowed i a s.logged.event (prefixes s.logged (log_of w))) engine step.allowed)
    (subst (λ a. known s.logged a ≡ length (log_of w a)) engine step.knowledge.own) h

pub answers_fit : (i : Image) (w : World) (unit : ℕ) → IsLegal i w → length (answers (log_of w 0) unit) ≤ length (placed_on (log_of w 0) unit)
unfolding IsLegal
answers_fit i [] unit legal = omega arith
answers_fit i (s ∷ w) unit legal = fits_by i s w unit legal.0 (answers_fit i w unit legal.1) (s.author == 0) refl
