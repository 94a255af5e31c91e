-- The unit of a stripe that may be placed has as many answers as stripes.
use Rattle.std.proofs.Common.{◌≡◌, ℕ, ◌<◌, ◌≤◌, nat_lt, Bool, true, false, Some, None, List, length, refl, ap, ap₂, ◌∙◌, arith, le_refl}
use Rattle.std.specs.Prelude.{slice_get}
use Rattle.std.specs.List.{Contains}
use Rattle.std.specs.Option.{is_some}
use Rattle.std.proofs.lemmas.Option.{slice_get_past, get_or_from_slice_get}
use Rattle.pblk_model.specs.Image.{Image}
use Rattle.pblk_world.specs.Events.{Stripe, Logged}
use Rattle.pblk_world.specs.World.{Logs}
use Rattle.pblk_world.specs.EngineLog.{Placed, placed_on, Answer, answers, answer_of, is_answered}
use Rattle.pblk_world.specs.Placing.{MayPlace}
use Rattle.core_laws.specs.PlacerOf.{unanswered_on}
use Rattle.core_laws.proofs.Answered.{IsFirst, first_unanswered}
use Rattle.pblk_model.proofs.Parts.{got_within}
use Rattle.pblk_model.proofs.Tests.{not_both}

pub first_answer : (log : List Logged) (unit : ℕ) (p : Placed) → unanswered_on log unit ≡ Some p → answer_of log p ≡ None
first_answer log unit p e =
    let first : IsFirst log unit p = first_unanswered log unit p e in
    ap₂ (λ (xs : List Answer) k. slice_get xs k) (ap (answers log) first.of_unit) first.turn_is
    ∙ slice_get_past (answers log unit) (length (answers log unit)) (le_refl (length (answers log unit)))

unanswered : (log : List Logged) (unit : ℕ) (p : Placed) → unanswered_on log unit ≡ Some p → is_answered log p ≡ false
unanswered log unit p e = ap is_some (first_answer log unit p e)

pub all_answered : (i : Image) (logs : Logs) (stripe : Stripe) → length (answers (logs 0) stripe.unit) ≤ length (placed_on (logs 0) stripe.unit)
    → MayPlace i logs stripe
    → length (answers (logs 0) stripe.unit) ≡ length (placed_on (logs 0) stripe.unit)
all_answered i logs stripe few may = go (nat_lt (length (answers (logs 0) stripe.unit)) (length (placed_on (logs 0) stripe.unit))) refl
  where
    go : (b : Bool) → nat_lt (length (answers (logs 0) stripe.unit)) (length (placed_on (logs 0) stripe.unit)) ≡ b
        → length (answers (logs 0) stripe.unit) ≡ length (placed_on (logs 0) stripe.unit)
    go false e =
        let above : length (placed_on (logs 0) stripe.unit) ≤ length (answers (logs 0) stripe.unit) = grind arith in
        omega arith
    go true e =
        let below : length (answers (logs 0) stripe.unit) < length (placed_on (logs 0) stripe.unit) = grind arith in
        let some : (p : Placed) × (unanswered_on (logs 0) stripe.unit ≡ Some p) =
        got_within (placed_on (logs 0) stripe.unit) (length (answers (logs 0) stripe.unit)) below in
        let among : Contains (placed_on (logs 0) stripe.unit) some.0 = (
          length (answers (logs 0) stripe.unit),
          below,
          get_or_from_slice_get (placed_on (logs 0) stripe.unit) (length (answers (logs 0) stripe.unit)) some.0 some.0 some.1,
        ) in
        let answered : is_answered (logs 0) some.0 ≡ true = may.idle some.0 among in
        absurd (not_both (is_answered (logs 0) some.0) answered (unanswered (logs 0) stripe.unit some.0 some.1))
