use Rattle.std.proofs.Common.{Some, sym, ap, ◌∙◌}
use Rattle.unit_port.proofs.Units.{model_there}
use Rattle.stripe_parity.proofs.keeping.kept_units.Goals as goal

pub kept_unit-requires : goal.kept_unit-requires
kept_unit-requires g c =
    c.requires.fit.each c.loop-unit.unit-index (g.U.Unit.model c.unit-item.result)
    (model_there g.U.Unit.model c.args.units.now c.loop-unit.unit-index c.unit-item.result c.loop-unit-test.true
    ∙ ap (λ x. Some (g.U.Unit.model x)) (sym c.unit-item.is))
