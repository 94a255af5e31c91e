use Rattle.std.proofs.Common.{◌≡◌, sym, ap, ap₂, ◌∙◌}
use Rattle.std.proofs.lemmas.Option.{get_or_from_slice_get}
use Rattle.pblk_model.specs.declared.shape.Shape.{Shape}
use Rattle.pblk_world.specs.Placing.{stripe_at}
use Rattle.pblk_core.specs.Filling.{followed_by}
use Rattle.pblk_core.specs.LineRecords.{blocks_at_end, end_begins}
use Rattle.pblk_core.specs.declared.open_lines.OpenLine.{OpenLine}
use Rattle.pblk_core.proofs.open_lines.OpenLines.end_stripe.Goals as goal

pub returns-clause-filled : goal.returns-clause-filled
returns-clause-filled c = λ slot there.
    let its : c.index_mut-slot.result.now ≡ slot = c.index_mut-slot.ensures.value
    ∙ get_or_from_slice_get c.args.self.now.slots.items c.args.index slot c.index_mut-slot.result.now there in
    c.end_stripe.ensures.blocks
    ∙ ap₂ (λ (s : Shape) (l : OpenLine). followed_by c.args.into.now (stripe_at s (blocks_at_end l.records) (end_begins l.records) c.args.at))
    (ap (λ (l : OpenLine). l.records.shape) its ∙ sym (c.requires.shape slot there)) its
