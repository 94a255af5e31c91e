use Rattle.std.proofs.Common.{◌-◌, ◌≤◌, refl, arith}
use Rattle.stripe_placer.specs.Slots.{outcomes}
use Rattle.stripe_placer.proofs.Counted.{LandsIn, some_unanswered, start_left, data_left}
use Rattle.stripe_placer.proofs.Slotted.{its_stripe, landed_slot, landed_keeps, landed_view}
use Rattle.stripe_placer.proofs.slot.Slot.land.Goals as goal

pub overflow_sub-self : goal.overflow_sub-self
overflow_sub-self c =
    let s = c.self.inside in
    some_unanswered (outcomes s.chunks s.width s.next s.stripe_count) c.args.stripe s.start_count s.data_count s.start_left s.data_left s.unanswered s.lost
    c.self.invariant.counts (its_stripe s c.args.self.now c.args.stripe c.self.view_is c.requires)

pub overflow_sub-self-then-stripe-self : goal.overflow_sub-self-then-stripe-self
overflow_sub-self-then-stripe-self c =
    let s = c.self.inside in
    start_left (outcomes s.chunks s.width s.next s.stripe_count) c.args.stripe s.start_count s.data_count s.start_left s.data_left s.unanswered s.lost
    c.self.invariant.counts (its_stripe s c.args.self.now c.args.stripe c.self.view_is c.requires) c.if-stripe-self.true

pub overflow_sub-self-then-stripe-self-2 : goal.overflow_sub-self-then-stripe-self-2
overflow_sub-self-then-stripe-self-2 c =
    let s = c.self.inside in
    data_left (outcomes s.chunks s.width s.next s.stripe_count) c.args.stripe s.start_count s.data_count s.start_left s.data_left s.unanswered s.lost
    c.self.invariant.counts (its_stripe s c.args.self.now c.args.stripe c.self.view_is c.requires) c.if-stripe-self.false c.if-stripe-self-2.true

pub invariant_of-self : goal.invariant_of-self
invariant_of-self c =
    let s = c.self.inside in
    let some : 1 ≤ s.start_left = start_left
    (outcomes s.chunks s.width s.next s.stripe_count) c.args.stripe s.start_count s.data_count s.start_left s.data_left s.unanswered s.lost
    c.self.invariant.counts (its_stripe s c.args.self.now c.args.stripe c.self.view_is c.requires) c.if-stripe-self.true in
    let lands : LandsIn c.args.stripe s.start_count s.data_count (s.start_left - 1) s.data_left s.start_left s.data_left = record {
      start = λ h. omega arith;
      start_other = λ h. absurd (omega (arith, h, c.if-stripe-self.true));
      part = λ h g. absurd (omega (arith, h, c.if-stripe-self.true));
      part_before = λ h. refl;
      part_after = λ h. refl;
    } in
    record {
      keeps = landed_keeps s c.args.stripe c.self.invariant;
      counts =
          landed_slot s c.args.self.now c.args.stripe (s.start_left - 1) s.data_left c.self.invariant c.self.view_is c.requires lands;
    }

pub invariant_of-self-then-stripe-self-2 : goal.invariant_of-self-then-stripe-self-2
invariant_of-self-then-stripe-self-2 c =
    let s = c.self.inside in
    let some : 1 ≤ s.data_left = data_left
    (outcomes s.chunks s.width s.next s.stripe_count) c.args.stripe s.start_count s.data_count s.start_left s.data_left s.unanswered s.lost
    c.self.invariant.counts (its_stripe s c.args.self.now c.args.stripe c.self.view_is c.requires) c.if-stripe-self.false c.if-stripe-self-2.true in
    let lands : LandsIn c.args.stripe s.start_count s.data_count s.start_left (s.data_left - 1) s.start_left s.data_left = record {
      start = λ h. absurd (omega (arith, h, c.if-stripe-self.false));
      start_other = λ h. refl;
      part = λ h g. omega arith;
      part_before = λ h. absurd (omega (arith, h, c.if-stripe-self.false));
      part_after = λ h. absurd (omega (arith, h, c.if-stripe-self-2.true));
    } in
    record {
      keeps = landed_keeps s c.args.stripe c.self.invariant;
      counts =
          landed_slot s c.args.self.now c.args.stripe s.start_left (s.data_left - 1) c.self.invariant c.self.view_is c.requires lands;
    }

pub invariant_of-self-else-stripe-self-2 : goal.invariant_of-self-else-stripe-self-2
invariant_of-self-else-stripe-self-2 c =
    let s = c.self.inside in
    let lands : LandsIn c.args.stripe s.start_count s.data_count s.start_left s.data_left s.start_left s.data_left = record {
      start = λ h. absurd (omega (arith, h, c.if-stripe-self.false));
      start_other = λ h. refl;
      part = λ h g. absurd (omega (arith, g, c.if-stripe-self-2.false));
      part_before = λ h. refl;
      part_after = λ h. refl;
    } in
    record {
      keeps = landed_keeps s c.args.stripe c.self.invariant;
      counts =
          landed_slot s c.args.self.now c.args.stripe s.start_left s.data_left c.self.invariant c.self.view_is c.requires lands;
    }

pub returns-then-stripe-self : goal.returns-then-stripe-self
returns-then-stripe-self c = landed_view c.self.inside c.args.self.now c.args.stripe c.self.invariant c.self.view_is c.requires

pub returns-then-stripe-self-2 : goal.returns-then-stripe-self-2
returns-then-stripe-self-2 c = landed_view c.self.inside c.args.self.now c.args.stripe c.self.invariant c.self.view_is c.requires

pub returns-else-stripe-self-2 : goal.returns-else-stripe-self-2
returns-else-stripe-self-2 c = landed_view c.self.inside c.args.self.now c.args.stripe c.self.invariant c.self.view_is c.requires
