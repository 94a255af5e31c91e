use Rattle.stripe_placer.proofs.Slotted.{slot_pad, slot_start, slot_data, slot_end}
use Rattle.stripe_placer.proofs.slot.Slot.kind.Goals as goal

pub returns-then-self-gt0 : goal.returns-then-self-gt0
returns-then-self-gt0 c = slot_pad c.self.inside c.args.self.now c.args.stripe c.self.invariant c.self.view_is c.if-self-gt0.true

pub returns-then-stripe-self : goal.returns-then-stripe-self
returns-then-stripe-self c = slot_start c.self.inside c.args.self.now c.args.stripe c.self.invariant c.self.view_is c.if-self-gt0.false c.if-stripe-self.true

pub returns-then-stripe-self-2 : goal.returns-then-stripe-self-2
returns-then-stripe-self-2 c =
    slot_data c.self.inside c.args.self.now c.args.stripe c.self.invariant c.self.view_is c.if-self-gt0.false c.if-stripe-self.false c.if-stripe-self-2.true

pub returns-else-stripe-self-2 : goal.returns-else-stripe-self-2
returns-else-stripe-self-2 c = slot_end c.self.inside c.args.self.now c.args.stripe c.self.invariant c.self.view_is c.if-self-gt0.false c.if-stripe-self-2.false
