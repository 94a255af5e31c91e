use Rattle.std.proofs.Common.{map, sym, ap, ◌∙◌}
use Rattle.pblk_model.specs.Image.{Image}
use Rattle.pblk_reference.proofs.Line.{width_of, few_units, fewer_units}
use Rattle.pblk_reference.proofs.order.width.Goals as goal

pub count_online-requires : goal.count_online-requires
count_online-requires c =
    let units = ap (λ (i : Image). i.units) (sym c.image.view_is) ∙ ap (map (λ u. u.items)) (sym c.deref.ensures.value) in
    few_units c.args.image.now c.deref.result.now units c.requires

pub returns-clause-width : goal.returns-clause-width
returns-clause-width c =
    let units = ap (λ (i : Image). i.units) (sym c.image.view_is) ∙ ap (map (λ u. u.items)) (sym c.deref.ensures.value) in
    c.count_online.ensures.count ∙ sym (width_of c.args.image.now c.deref.result.now c.args.line units)

pub returns-clause-few : goal.returns-clause-few
returns-clause-few c =
    let units = ap (λ (i : Image). i.units) (sym c.image.view_is) ∙ ap (map (λ u. u.items)) (sym c.deref.ensures.value) in
    fewer_units c.args.image.now c.deref.result.now c.count_online.result units c.requires c.count_online.ensures.few
