use Rattle.std.proofs.Common.{◌≡◌, ◌+◌, ◌-◌, ◌≤◌, Some, List, refl, subst, arith}
use Rattle.std.specs.List.{slice_get}
use Rattle.stripe_placer.specs.OpenLines.{Stripe}
use Rattle.stripe_placer.specs.OpenLines.Stripe.{Unanswered, Lost}
use Rattle.stripe_placer.specs.Slots.{outcomes, KeepsCounts}
use Rattle.stripe_placer.specs.declared.slot.Chunk.TheVariants as chunk
use Rattle.stripe_placer.proofs.Chunks.{IsWaiting, lost_outcomes, answered_keeps}
use Rattle.stripe_placer.proofs.Counted.{lost_counts, some_unanswered}
use Rattle.stripe_placer.proofs.Slotted.{it_waits, its_stripe, its_column, lost_short, stripe_changed}
use Rattle.stripe_placer.proofs.slot.Slot.lose.Goals as goal

pub overflow_sub-self : goal.overflow_sub-self
overflow_sub-self c =
    let s = c.self.inside in
    some_unanswered (outcomes s.chunks s.width s.next s.stripe_count) c.args.stripe s.start_count s.data_count s.start_left s.data_left s.unanswered s.lost
    c.self.invariant.counts (its_stripe s c.args.self.now c.args.stripe c.self.view_is c.requires)

pub overflow_add-self : goal.overflow_add-self
overflow_add-self c = omega (arith, lost_short c.self.inside c.self.invariant)

pub invariant_of-self : goal.invariant_of-self
invariant_of-self c =
    let s = c.self.inside in
    let j = c.args.stripe in
    let stripes : List Stripe = outcomes s.chunks s.width s.next s.stripe_count in
    let p : IsWaiting s.chunks s.width s.next s.stripe_count j = it_waits s c.args.self.now j c.self.invariant c.self.view_is c.requires in
    let here : slice_get stripes j ≡ Some Unanswered = its_stripe s c.args.self.now j c.self.view_is c.requires in
    let some : 1 ≤ s.unanswered = some_unanswered stripes j s.start_count s.data_count s.start_left s.data_left s.unanswered s.lost c.self.invariant.counts
    here in
    record {
      keeps = answered_keeps s.online s.width s.start_count s.data_count s.stripe_count s.next j s.chunks (chunk.Closed j) c.self.invariant.keeps
          (refl, p.from);
      counts = subst (λ (xs : List Stripe). KeepsCounts xs s.start_count s.data_count s.start_left s.data_left (s.unanswered - 1) (s.lost + 1))
          (lost_outcomes s.chunks s.width s.next s.stripe_count j c.self.invariant.keeps.some (its_column s j c.self.invariant) p)
          (lost_counts stripes j s.start_count s.data_count s.start_left s.data_left (s.unanswered - 1) s.unanswered s.lost c.self.invariant.counts here
          (omega arith));
    }

pub returns : goal.returns
returns c =
    let s = c.self.inside in
    let j = c.args.stripe in
    let p : IsWaiting s.chunks s.width s.next s.stripe_count j = it_waits s c.args.self.now j c.self.invariant c.self.view_is c.requires in
    stripe_changed s c.args.self.now j Lost _ c.self.view_is
    (lost_outcomes s.chunks s.width s.next s.stripe_count j c.self.invariant.keeps.some (its_column s j c.self.invariant) p)
