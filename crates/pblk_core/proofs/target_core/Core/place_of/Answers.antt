use Rattle.std.proofs.Common.{ℕ, ◌<◌, sym, subst, ap}
use Rattle.pblk_model.specs.Shape.{units}
use Rattle.stripe_placer.specs.Placing.{Placing, program}
use Rattle.pblk_core.proofs.LandedCore.{of_core, told_row}
use Rattle.pblk_core.proofs.LandedWay.{unit_is}
use Rattle.pblk_core.proofs.target_core.Core.place_of.Goals as goal

pub under_way-requires : goal.under_way-requires
under_way-requires c =
    let sd = c.requires.standing in
    let unit : ℕ = c.args.stripe.now.stripe.unit in
    let its = of_core sd.image sd.world c.args.self.now unit c.requires.under_way.0 sd.legal sd.stands c.requires.under_way.1 in
    subst (λ s. c.unit.result < units s) (sym (ap (λ (p : Placing). p.shape) sd.stands.placing))
    (subst (λ u. u < units sd.image.shape) (sym c.unit.ensures) its.is.row.inside)

pub returns : goal.returns
returns c =
    let sd = c.requires.standing in
    let unit : ℕ = c.args.stripe.now.stripe.unit in
    let row = told_row c.args.self.now.placer unit _ _ c.in-Some.of _ c.in-Some.is c.unit.ensures c.under_way.ensures c.requires.under_way.1 in
    let its = of_core sd.image sd.world c.args.self.now unit (program c.args.self.now.placer c.in-Some.of) sd.legal sd.stands row in
    record { its_unit = unit_is sd.image sd.world unit (program c.args.self.now.placer c.in-Some.of) its.is; row = row }
