use Rattle.pblk_model.specs.ChunkStep.{Read}
use Rattle.unit_port.proofs.Units.{at_unit, block_quiet, did_step, kept_step}
use Rattle.vector_io.proofs.unit_calls.fetch_at.Goals as goal

pub returns-clause-did : goal.returns-clause-did
returns-clause-did g c = (
  at_unit c.args.unit c.args.chunk (Read c.args.block) c.fetch.ensures.event.0,
  did_step g.U.Unit.model c.args.units.now c.args.unit c.index-units-unit.result c.fetch.new.self c.args.chunk
      (Read c.args.block) c.fetch.ensures.event.0 c.requires.taken c.fetch.ensures.event.2
      (λ calm. block_quiet c.args.out.now c.fetch.new.out c.fetch.result c.fetch.ensures.event.0 c.fetch.ensures.event.1 (c.fetch.ensures.quiet calm)),
  c.fetch.ensures.event.1,
)

pub returns-clause-kept : goal.returns-clause-kept
returns-clause-kept g c = kept_step g.U.Unit.model c.args.units.now c.args.unit c.index-units-unit.result c.fetch.new.self c.args.chunk
    (Read c.args.block) c.fetch.ensures.event.0 c.requires.taken c.fetch.ensures.event.2 c.fetch.ensures.fits
