use Rattle.std.proofs.Common.{◌≡◌, ◌<◌, Some, sym, ap, subst, ◌∙◌, arith}
use Rattle.std.specs.List.{slice_get}
use Rattle.std.specs.Option.{option_map}
use Rattle.pblk_model.specs.Shape.{units}
use Rattle.stripe_placer.specs.Placing.{program, Placing}
use Rattle.stripe_placer.proofs.Rows.{get_is}
use Rattle.stripe_placer.proofs.Placers.{its_row}
use Rattle.stripe_placer.proofs.placer.Placer.under_way.Goals as goal

pub index-requires : goal.index-requires
index-requires c =
    let inside = subst (λ (v : Placing). c.args.unit < units v.shape) (sym c.self.view_is) c.requires in
    omega (arith, inside, c.self.invariant.rows, c.self.inside.units.ok.0)

pub returns : goal.returns
returns c =
    let p = c.self.inside in
    let inside = subst (λ (v : Placing). c.args.unit < units v.shape) (sym c.self.view_is) c.requires in
    let there : slice_get p.units.items c.args.unit ≡ Some c.index.result.now =
    get_is p.units.items c.args.unit c.index.result.now (omega (arith, inside, c.self.invariant.rows)) c.index.ensures in
    ap (option_map (program c.args.self.now)) c.under_way.ensures
    ∙ its_row p c.args.self.now c.args.unit c.index.result.now c.self.invariant c.self.view_is there
