use Rattle.std.proofs.Common.{map, sym, ap, ◌∙◌, refl, None, Some}
use Rattle.pblk_model.specs.Image.{Image}
use Rattle.pblk_reference.proofs.Line.{block_from, no_blocks, has_stripes, some_width}
use Rattle.pblk_reference.proofs.order.block_at.Goals as goal

pub returns-then-width-eq0 : goal.returns-then-width-eq0
returns-then-width-eq0 c = no_blocks c.args.image.now c.args.line c.args.at c.width-width.result c.width-width.ensures.width c.if-width-eq0.true

pub column_of-requires : goal.column_of-requires
column_of-requires c = record {
  stripe = has_stripes c.image.inside.shape c.args.image.now.shape (ap (λ (i : Image). i.shape) c.image.view_is) c.requires.shape;
  width = some_width c.width-width.result c.if-width-eq0.false;
}

pub block_of-requires : goal.block_of-requires
block_of-requires c = record {
  stripe = has_stripes c.image.inside.shape c.args.image.now.shape (ap (λ (i : Image). i.shape) c.image.view_is) c.requires.shape;
  width = some_width c.width-width.result c.if-width-eq0.false;
}

pub returns-in_err-chunk : goal.returns-in_err-chunk
returns-in_err-chunk c =
    let units = ap (λ (i : Image). i.units) (sym c.image.view_is) ∙ ap (map (λ u. u.items)) (sym c.deref.ensures.value) in
    let w-is = ap (λ (i : Image). i.shape.ws_opt) c.image.view_is in
    rw c.from_residual.ensures (block_from c.args.image.now c.deref.result.now c.args.line c.args.at c.width-width.result c.image.inside.shape.ws_opt
    c.column_of.result _ None units c.width-width.ensures.width w-is c.column_of.ensures refl c.in_err-chunk.ensures)

pub returns : goal.returns
returns c =
    let units = ap (λ (i : Image). i.units) (sym c.image.view_is) ∙ ap (map (λ u. u.items)) (sym c.deref.ensures.value) in
    let w-is = ap (λ (i : Image). i.shape.ws_opt) c.image.view_is in
    c.block_in.ensures ∙ block_from c.args.image.now c.deref.result.now c.args.line c.args.at c.width-width.result c.image.inside.shape.ws_opt
    c.column_of.result c.block_of.result
    (Some c.in_ok-chunk.chunk.now) units c.width-width.ensures.width w-is c.column_of.ensures c.block_of.ensures c.in_ok-chunk.ensures
