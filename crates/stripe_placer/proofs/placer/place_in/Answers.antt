use Rattle.stripe_placer.specs.OpenLines.Stripe.{Unanswered}
use Rattle.stripe_placer.proofs.Agreeing.{turned}
use Rattle.stripe_placer.proofs.placer.place_in.Goals as goal

pub returns-clause-items : goal.returns-clause-items
returns-clause-items c =
    turned c.args.slots.now.items c.deref.result.now c.slot_of-slot.result c.args.line c.args.stripe c.index_mut.result.now c.place.new.self Unanswered
    c.requires.apart c.deref.ensures.value c.slot_of-slot.ensures.inside c.slot_of-slot.ensures.line c.index_mut.ensures.value c.place.ensures
