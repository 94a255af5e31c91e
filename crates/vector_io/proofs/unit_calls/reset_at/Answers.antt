use Rattle.std.proofs.Common.{◌∙◌}
use Rattle.pblk_model.specs.ChunkStep.{Reset}
use Rattle.unit_port.proofs.Units.{at_unit, did_step, kept_step, told_lost, told_not_empty, told_quiet}
use Rattle.vector_io.proofs.unit_calls.reset_at.Goals as goal

pub returns-clause-did : goal.returns-clause-did
returns-clause-did g c = (
  at_unit c.args.unit c.args.chunk Reset c.reset.ensures.event.0,
  did_step g.U.Unit.model c.args.units.now c.args.unit c.index-units-unit.result c.reset.new.self c.args.chunk Reset c.reset.ensures.event.0 c.requires
      c.reset.ensures.event.2
      (λ calm. told_quiet c.reset.result c.reset.ensures.event.0 c.reset.ensures.event.1 (c.reset.ensures.quiet calm)),
  c.is_err.ensures.value ∙ told_lost c.reset.result c.reset.ensures.event.0 c.reset.ensures.event.1,
  told_not_empty c.reset.result c.reset.ensures.event.0 c.reset.ensures.event.1,
)

pub returns-clause-kept : goal.returns-clause-kept
returns-clause-kept g c = kept_step g.U.Unit.model c.args.units.now c.args.unit c.index-units-unit.result c.reset.new.self c.args.chunk Reset
    c.reset.ensures.event.0 c.requires c.reset.ensures.event.2 c.reset.ensures.fits
