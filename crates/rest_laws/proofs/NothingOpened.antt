-- Where no line was opened, all that was taken waits.
use Rattle.std.proofs.Common.{◌≡◌, ◌⊎◌, inl, inr, ℕ, ◌+◌, ◌<◌, ◌≤◌, nat_le, nat_lt, true, List, [], length, subst, ◌∙◌, arith}
use Rattle.std.specs.List.{Contains, list_any}
use Rattle.std.proofs.lemmas.Bool.{cases_lt}
use Rattle.pblk_model.specs.Image.{Image}
use Rattle.pblk_world.specs.EngineLog.{holds_position, Opening, openings, placements}
use Rattle.pblk_world.specs.Fronts.{first_position, taken, waiting}
use Rattle.pblk_world.specs.Space.{freed, placed_front}
use Rattle.pblk_world.specs.World.{World, log_of}
use Rattle.pblk_model.proofs.Lists.{contains_none}
use Rattle.pblk_model.proofs.Parts.{contained_among}
use Rattle.pblk_model.proofs.Tests.{and_both, le_true, lt_true}
use Rattle.world_laws.proofs.Stripes.{life_of_stripe, opening_then}
use Rattle.core_laws.proofs.LosslessMounts.{IsLosslessMount}
use Rattle.core_laws.proofs.Distinct.{passing}
use Rattle.core_laws.proofs.PlacedInOrder.{IsOrdered, ordered, some_hold_below}
use Rattle.rest_laws.proofs.FreedNear.{freed_is_least, taken_waits}

pub unopened_waits : (i : Image) (w : World) → IsLosslessMount i w → openings (log_of w 0) ≡ []
    → taken (log_of w 0) ≤ freed i.shape (log_of w 0) + length (waiting i.shape (log_of w 0))
unopened_waits i w lossless none = go (cases_lt q (placed_front i.shape (log_of w 0)))
  where
    q : ℕ
    q = freed i.shape (log_of w 0)

    all : taken (log_of w 0) ≡ placed_front i.shape (log_of w 0) + length (waiting i.shape (log_of w 0))
    all = taken_waits i w lossless

    order : IsOrdered i.shape (log_of w 0)
    order = ordered i w lossless.mount

    go : (freed i.shape (log_of w 0) < placed_front i.shape (log_of w 0)) ⊎ (placed_front i.shape (log_of w 0) ≤ freed i.shape (log_of w 0))
        → taken (log_of w 0) ≤ freed i.shape (log_of w 0) + length (waiting i.shape (log_of w 0))
    go (inr few) = omega (arith, all, few)
    go (inl more) =
        let from : first_position (log_of w 0) ≤ freed i.shape (log_of w 0) = (freed_is_least i.shape (log_of w 0)).from in
        let also : list_any (holds_position i.shape (freed i.shape (log_of w 0))) (placements (log_of w 0)) ≡ true =
        some_hold_below i.shape (log_of w 0) order (freed i.shape (log_of w 0))
        ∙ and_both (nat_le (first_position (log_of w 0)) (freed i.shape (log_of w 0)))
        (nat_lt (freed i.shape (log_of w 0)) (placed_front i.shape (log_of w 0)))
        (le_true (first_position (log_of w 0)) (freed i.shape (log_of w 0)) from)
        (lt_true (freed i.shape (log_of w 0)) (placed_front i.shape (log_of w 0)) more) in
        let at = passing (holds_position i.shape (freed i.shape (log_of w 0))) (placements (log_of w 0)) also in
        let life = life_of_stripe i w at.0 lossless.mount.legal (contained_among (placements (log_of w 0)) at.0 at.1) in
        absurd (contains_none life.0 (subst (λ (os : List Opening). Contains os life.0) none
        (opening_then (log_of w 0) at.0.number at.0.stripe.line life.0 life.2).0))
