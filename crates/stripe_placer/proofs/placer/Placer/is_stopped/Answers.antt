use Rattle.std.proofs.Common.{◌≡◌, ◌<◌, Option, Some, false, sym, ap, subst, ◌∙◌, arith}
use Rattle.std.specs.List.{slice_get}
use Rattle.std.specs.Option.{option_map_or}
use Rattle.pblk_model.specs.Shape.{units}
use Rattle.stripe_placer.specs.Placing.{UnitRow, Placing, is_stopped}
use Rattle.stripe_placer.proofs.Rows.{get_is}
use Rattle.stripe_placer.proofs.placer.Placer.is_stopped.Goals as goal

pub index-requires : goal.index-requires
index-requires c =
    let inside = subst (λ (v : Placing). c.args.unit < units v.shape) (sym c.self.view_is) c.requires in
    omega (arith, inside, c.self.invariant.rows, c.self.inside.units.ok.0)

pub returns : goal.returns
returns c =
    let p = c.self.inside in
    let inside = subst (λ (v : Placing). c.args.unit < units v.shape) (sym c.self.view_is) c.requires in
    let here : slice_get p.units.items c.args.unit ≡ Some c.index.result.now =
    get_is p.units.items c.args.unit c.index.result.now (omega (arith, inside, c.self.invariant.rows)) c.index.ensures in
    c.is_stopped.ensures ∙ ap (λ (r : Option UnitRow). option_map_or is_stopped r false) (sym here)
    ∙ ap (λ (v : Placing). option_map_or is_stopped (slice_get v.units c.args.unit) false) c.self.view_is
