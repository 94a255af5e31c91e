use Rattle.std.proofs.Common.{sym, ap, ◌∙◌}
use Rattle.pblk_model.specs.Image.{Image}
use Rattle.pblk_reference.proofs.Results.{answered}
use Rattle.pblk_reference.proofs.Sizes.{accepted_as}
use Rattle.pblk_reference.proofs.Bearing.{no_block, no_mark, borne_by}
use Rattle.pblk_reference.proofs.record.record_at.Goals as goal

pub mark_at-requires : goal.mark_at-requires
mark_at-requires c = accepted_as c.image.inside.shape c.args.image.now.shape (ap (λ (i : Image). i.shape) c.image.view_is) c.requires.shape

pub returns-in_default : goal.returns-in_default
returns-in_default c = no_block c.args.image.now c.args.line c.args.seq c.args.end.now c.args.at c.in_default.ensures

pub returns-in_default-mark_at : goal.returns-in_default-mark_at
returns-in_default-mark_at c =
    no_mark c.args.image.now c.args.line c.args.seq c.args.end.now c.args.at c.image.inside.shape c.in-Some.block.now
    (ap (λ (i : Image). i.shape) c.image.view_is) c.in-Some.ensures (sym c.in_default-mark_at.is ∙ c.mark_at.ensures)

pub returns : goal.returns
returns c =
    answered (λ o. o) c.bears.result _ _ c.bears.ensures
    (borne_by c.args.image.now c.args.line c.args.seq c.args.end.now c.args.at c.image.inside.shape c.in-Some.block.now c.in-Some-mark_at.mark
    (ap (λ (i : Image). i.shape) c.image.view_is) c.in-Some.ensures (sym c.in-Some-mark_at.is ∙ c.mark_at.ensures))
