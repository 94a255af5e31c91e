-- At most one stripe of a unit isn't answered.
use Rattle.std.proofs.Common.{◌≡◌, ℕ, ◌+◌, ◌<◌, ◌≤◌, ◌==◌, nat_eq, Bool, true, false, cond, Some, None, Option, List, [], ◌∷◌, ◌++◌, length, take, refl, subst, ap, ap₂, ◌∙◌, arith, length-append}
use Rattle.std.specs.Prelude.{slice_get, is_some}
use Rattle.std.specs.List.{AllByRecursion, filter}
use Rattle.std.specs.Option.{option_to_list}
use Rattle.std.proofs.lemmas.Bool.{eqb-true}
use Rattle.std.proofs.lemmas.List.Elements.{filter-append}
use Rattle.std.proofs.lemmas.Option.{slice_get_within}
use Rattle.pblk_model.specs.Image.{Image}
use Rattle.pblk_world.specs.Events.{EngineEvent, Place, Decides, Logged}
use Rattle.pblk_world.specs.World.{World, Logs, log_of}
use Rattle.pblk_world.specs.EngineLog.{Begun, life_of, Placed, placed_by, placements, placed_on, Answer, DidLand, WasLost, answers, is_answered, is_land, is_loss}
use Rattle.pblk_world.specs.Legal.{IsLegal, IsDecision}
use Rattle.pblk_world.proofs.Appending.{placements_more}
use Rattle.core_laws.proofs.KeptByEvents.{IsKept, kept}
use Rattle.core_laws.proofs.UnitTurns.{turn_at}
use Rattle.core_laws.proofs.IdleUnits.{idle_fits}
use Rattle.pblk_model.proofs.Lists.{all_true}
use Rattle.pblk_model.proofs.Parts.{all_by_get, within_some}
use Rattle.pblk_world.proofs.EngineLogLemmas.{answer_count}

-- ---- one stripe of a unit

abbrev pub HasOne : List Logged → Type 0
HasOne log = (unit : ℕ) → length (placed_on log unit) ≤ length (answers log unit) + 1

pub placed_count : (log : List Logged) (l : Logged) (unit : ℕ)
    → length (placed_on (log ++ l ∷ []) unit) ≡ length (placed_on log unit) + length
    (filter (λ (p : Placed). p.stripe.unit == unit) (option_to_list (placed_by log (length log) l.event)))
placed_count log l unit =
    ap (λ (ps : List Placed). length (filter (λ (p : Placed). p.stripe.unit == unit) ps)) (placements_more log l)
    ∙ ap length (filter-append (λ (p : Placed). p.stripe.unit == unit) (placements log) (option_to_list (placed_by log (length log) l.event)))
    ∙ length-append (placed_on log unit) (filter (λ (p : Placed). p.stripe.unit == unit) (option_to_list (placed_by log (length log) l.event)))

at_most_one : {X : Type 0} (test : X → Bool) (o : Option X) → length (filter test (option_to_list o)) ≤ 1
at_most_one test None = omega arith
at_most_one test (Some x) = elim (test x) as (λ b. length (cond b (x ∷ []) []) ≤ 1) [ true ↦ omega arith | false ↦ omega arith ]

one_next : (i : Image) (known : Logs) (log : List Logged) (beginning : Begun) (e : EngineEvent) (knows : List ℕ) → known 0 ≡ log
    → IsDecision i known beginning e → HasOne log → HasOne (log ++ record { event = Decides e; knows = knows } ∷ [])
one_next i known log beginning (Place stripe) knows own may was unit =
    let l : Logged = record { event = Decides (Place stripe); knows = knows } in
    go (nat_eq stripe.unit unit) refl (placed_count log l unit) (answer_count log l unit)
  where
    nothing : List Placed
    nothing = []

    fits : stripe.unit ≡ unit → length (placed_on log unit) ≤ length (answers log unit)
    fits same = subst (λ u. length (placed_on log u) ≤ length (answers log u)) same
        (subst (λ (xs : List Logged). length (placed_on xs stripe.unit) ≤ length (answers xs stripe.unit)) own (idle_fits (known 0) stripe.unit may.idle))

    go : (b : Bool) → nat_eq stripe.unit unit ≡ b
        → length (placed_on (log ++ record { event = Decides (Place stripe); knows = knows } ∷ []) unit) ≡ length (placed_on log unit) + length
        (filter (λ (p : Placed). p.stripe.unit == unit) (option_to_list (placed_by log (length log) (Decides (Place stripe)))))
        → length (answers log unit) ≤ length (answers (log ++ record { event = Decides (Place stripe); knows = knows } ∷ []) unit)
        → length (placed_on (log ++ record { event = Decides (Place stripe); knows = knows } ∷ []) unit) ≤ length
        (answers (log ++ record { event = Decides (Place stripe); knows = knows } ∷ []) unit) + 1
    go true e count more =
        let within : length (placed_on log unit) ≤ length (answers log unit) = fits (eqb-true stripe.unit unit e) in
        let one : length (filter (λ (p : Placed). p.stripe.unit == unit) (option_to_list (placed_by log (length log) (Decides (Place stripe))))) ≤ 1 =
        at_most_one (λ (p : Placed). p.stripe.unit == unit) (placed_by log (length log) (Decides (Place stripe))) in
        omega arith
    go false e count more =
        let none : length (filter (λ (p : Placed). p.stripe.unit == unit) (option_to_list (placed_by log (length log) (Decides (Place stripe))))) ≡ 0 =
        ap (λ b. length (cond b (record { number = length log; stripe = stripe; life = life_of (take (length log) log) stripe.line } ∷ nothing) nothing)) e in
        let before : length (placed_on log unit) ≤ length (answers log unit) + 1 = was unit in
        omega arith
one_next i known log beginning e knows own may was unit =
    let l : Logged = record { event = Decides e; knows = knows } in
    let count : length (placed_on (log ++ l ∷ []) unit) ≡ length (placed_on log unit) + 0 = placed_count log l unit in
    let more : length (answers log unit) ≤ length (answers (log ++ l ∷ []) unit) = answer_count log l unit in
    let before : length (placed_on log unit) ≤ length (answers log unit) + 1 = was unit in
    omega arith

one_kept : (i : Image) → IsKept i (λ e. true) HasOne
one_kept i = record {
  empty = λ unit. omega arith;
  first = λ known b knows may unit. omega arith;
  next = λ known log beginning e knows begins own passes may was. one_next i known log beginning e knows own may was;
}

pub one_unanswered : (i : Image) (w : World) → IsLegal i w → HasOne (log_of w 0)
one_unanswered i w legal = kept i (λ e. true) HasOne (one_kept i) w legal (all_true (log_of w 0))

-- ---- the stripes of a unit, once the one that wasn't answered has landed

pub answered_lands : (o : Option Answer) → is_some o ≡ true → is_loss o ≡ false → is_land o ≡ true
answered_lands None some kept = absurd cc
answered_lands (Some (DidLand event)) some kept = refl
answered_lands (Some (WasLost event)) some kept = absurd cc

-- all of them are answered
pub unit_answered : (new : List Logged) (unit : ℕ) → length (placed_on new unit) ≤ length (answers new unit)
    → AllByRecursion (λ r. is_answered new r ≡ true) (placed_on new unit)
unit_answered new unit fit = all_by_get (λ (r : Placed). is_answered new r ≡ true) (placed_on new unit) (λ k r e.
    let at = turn_at new unit k r e in
    let inside : k < length (placed_on new unit) = slice_get_within (placed_on new unit) k r e in
    ap₂ (λ u n. is_some (slice_get (answers new u) n)) at.0 at.1 ∙ within_some (answers new unit) k (omega arith))
