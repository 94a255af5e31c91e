use Rattle.std.proofs.Common.{◌+◌, List, subst, arith}
use Rattle.stripe_placer.specs.OpenLines.{Stripe}
use Rattle.stripe_placer.specs.OpenLines.Stripe.{Unanswered}
use Rattle.stripe_placer.specs.Slots.{outcomes, KeepsCounts}
use Rattle.stripe_placer.proofs.Chunks.{IsPlaceable, placed_outcomes, placed_keeps, unplaced_is}
use Rattle.stripe_placer.proofs.Counted.{placed_counts}
use Rattle.stripe_placer.proofs.Slotted.{can_be_placed, its_column, unanswered_short, stripe_changed}
use Rattle.stripe_placer.proofs.slot.Slot.place.Goals as goal

pub overflow_add-self : goal.overflow_add-self
overflow_add-self c =
    let s = c.self.inside in
    let p : IsPlaceable s.chunks s.width s.next s.stripe_count c.args.stripe =
    can_be_placed s c.args.self.now c.args.stripe c.self.invariant c.self.view_is c.requires.next c.requires.alone in
    omega (arith, p.inside, c.self.invariant.keeps.stripes_short)

pub overflow_add-self-2 : goal.overflow_add-self-2
overflow_add-self-2 c = omega (arith, unanswered_short c.self.inside c.self.invariant)

pub invariant_of-self : goal.invariant_of-self
invariant_of-self c =
    let s = c.self.inside in
    let j = c.args.stripe in
    let p : IsPlaceable s.chunks s.width s.next s.stripe_count j =
    can_be_placed s c.args.self.now j c.self.invariant c.self.view_is c.requires.next c.requires.alone in
    record {
      keeps = placed_keeps s.online s.width s.start_count s.data_count s.stripe_count s.next j s.chunks c.self.invariant.keeps p;
      counts = subst (λ (xs : List Stripe). KeepsCounts xs s.start_count s.data_count s.start_left s.data_left (s.unanswered + 1) s.lost)
          (placed_outcomes s.chunks s.width s.next s.stripe_count j (its_column s j c.self.invariant) p)
          (placed_counts (outcomes s.chunks s.width s.next s.stripe_count) j s.start_count s.data_count s.start_left s.data_left s.unanswered s.lost
          c.self.invariant.counts (unplaced_is s.chunks s.width s.next s.stripe_count j p));
    }

pub returns : goal.returns
returns c =
    let s = c.self.inside in
    let j = c.args.stripe in
    let p : IsPlaceable s.chunks s.width s.next s.stripe_count j =
    can_be_placed s c.args.self.now j c.self.invariant c.self.view_is c.requires.next c.requires.alone in
    stripe_changed s c.args.self.now j Unanswered _ c.self.view_is
    (placed_outcomes s.chunks s.width s.next s.stripe_count j (its_column s j c.self.invariant) p)
