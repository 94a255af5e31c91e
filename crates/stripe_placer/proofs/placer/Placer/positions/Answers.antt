use Rattle.std.proofs.Common.{◌≡◌, ◌<◌, Some, sym, ap, subst, ◌∙◌, arith}
use Rattle.std.specs.List.{slice_get}
use Rattle.std.proofs.lemmas.Option.{same_Some}
use Rattle.pblk_model.specs.Shape.{units}
use Rattle.stripe_placer.specs.Placing.{Placing, positions_in}
use Rattle.stripe_placer.proofs.Rows.{get_is}
use Rattle.stripe_placer.proofs.placer.Placer.positions.Goals as goal

pub index-requires : goal.index-requires
index-requires c =
    let inside = subst (λ (v : Placing). c.args.unit < units v.shape) (sym c.self.view_is) c.requires in
    omega (arith, inside, c.self.invariant.rows, c.self.inside.units.ok.0)

pub returns : goal.returns
returns c = λ row there.
    let p = c.self.inside in
    let inside = subst (λ (v : Placing). c.args.unit < units v.shape) (sym c.self.view_is) c.requires in
    let here : slice_get p.units.items c.args.unit ≡ Some c.index.result.now =
    get_is p.units.items c.args.unit c.index.result.now (omega (arith, inside, c.self.invariant.rows)) c.index.ensures in
    let same : c.index.result.now ≡ row =
    same_Some c.index.result.now row (sym here ∙ ap (λ (v : Placing). slice_get v.units c.args.unit) c.self.view_is ∙ there) in
    c.positions.ensures ∙ ap positions_in same
