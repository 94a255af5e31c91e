use Rattle.std.proofs.Common.{map, Some, sym, ap, ◌∙◌}
use Rattle.unit_port.proofs.Units.{model_there}
use Rattle.scan_recovery.proofs.PadLoops.{chunk_here}
use Rattle.scan_recovery.proofs.PadSteps.{chunk_of}
use Rattle.scan_recovery.proofs.reading.state_of.Goals as goal

pub state-state-requires : goal.state-state-requires
state-state-requires g c =
    chunk_here c.args.shape.now (map g.U.Unit.model c.args.units.now) c.args.line c.args.unit (g.U.Unit.model c.index-units-unit.result) c.requires.fit
    (model_there g.U.Unit.model c.args.units.now c.args.unit c.index-units-unit.result c.requires.unit
    ∙ ap (λ x. Some (g.U.Unit.model x)) (sym c.index-units-unit.is)) c.requires.line

pub returns : goal.returns
returns g c =
    let h = c.state-state.ensures in (
      h.0,
      chunk_of c.args.shape.now (map g.U.Unit.model c.args.units.now) c.args.line c.args.unit (g.U.Unit.model c.index-units-unit.result)
          (model_there g.U.Unit.model c.args.units.now c.args.unit c.index-units-unit.result c.requires.unit
          ∙ ap (λ x. Some (g.U.Unit.model x)) (sym c.index-units-unit.is)) ∙ h.1,
      h.2,
    )
