use Rattle.std.proofs.Common.{ap, ◌∙◌}
use Rattle.std.specs.List.{filter}
use Rattle.stripe_placer.specs.OpenLines.{has_left}
use Rattle.stripe_placer.specs.OpenLines.Stripe.{Lost}
use Rattle.stripe_placer.proofs.Agreeing.{turned}
use Rattle.stripe_placer.proofs.placer.lose_in.Goals as goal

pub returns-clause-items : goal.returns-clause-items
returns-clause-items c = c.close_slots.ensures.items ∙ ap (filter has_left)
    (turned c.args.slots.now.items c.deref.result.now c.slot_of-slot.result c.args.line c.args.stripe c.index_mut.result.now c.lose.new.self Lost
    c.requires.apart c.deref.ensures.value c.slot_of-slot.ensures.inside c.slot_of-slot.ensures.line c.index_mut.ensures.value c.lose.ensures)
