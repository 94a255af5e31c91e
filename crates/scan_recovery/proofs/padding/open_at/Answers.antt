use Rattle.std.proofs.Common.{map, Some, sym, ap, ◌∙◌}
use Rattle.unit_port.proofs.Units.{model_there}
use Rattle.scan_recovery.proofs.PadLoops.{chunk_here, open_here, not_open_here}
use Rattle.scan_recovery.proofs.padding.open_at.Goals as goal

pub state-state-requires : goal.state-state-requires
state-state-requires g c =
    chunk_here c.args.shape.now (map g.U.Unit.model c.args.units.now) c.args.line c.args.unit (g.U.Unit.model c.index-units-unit.result) c.requires.fit
    (model_there g.U.Unit.model c.args.units.now c.args.unit c.index-units-unit.result c.requires.unit
    ∙ ap (λ x. Some (g.U.Unit.model x)) (sym c.index-units-unit.is)) c.requires.line

pub returns-in-Open-clause-some : goal.returns-in-Open-clause-some
returns-in-Open-clause-some g c =
    open_here c.args.shape.now (map g.U.Unit.model c.args.units.now) c.args.line c.args.unit c.state-state.result.1
    (g.U.Unit.model c.index-units-unit.result) c.state-state.result.0
    (model_there g.U.Unit.model c.args.units.now c.args.unit c.index-units-unit.result c.requires.unit
    ∙ ap (λ x. Some (g.U.Unit.model x)) (sym c.index-units-unit.is)) c.state-state.ensures c.in-Open.is

pub returns-in_default-clause-none : goal.returns-in_default-clause-none
returns-in_default-clause-none g c = λ _.
    not_open_here c.args.shape.now (map g.U.Unit.model c.args.units.now) c.args.line c.args.unit c.state-state.result.1
    (g.U.Unit.model c.index-units-unit.result) c.state-state.result.0
    (model_there g.U.Unit.model c.args.units.now c.args.unit c.index-units-unit.result c.requires.unit
    ∙ ap (λ x. Some (g.U.Unit.model x)) (sym c.index-units-unit.is)) c.state-state.ensures c.in_default.not-Open
