use Rattle.std.proofs.Common.{refl, ◌∙◌}
use Rattle.pblk_model.specs.Blocks.{blocks_of}
use Rattle.pblk_model.specs.ChunkStep.{Write}
use Rattle.unit_port.proofs.Units.{at_unit, did_step, kept_step, sized_step, told_lost, told_not_empty, told_quiet}
use Rattle.vector_io.proofs.unit_calls.program_at.Goals as goal

pub returns-clause-did : goal.returns-clause-did
returns-clause-did g c = (
  at_unit c.args.unit c.args.chunk (Write c.args.at (blocks_of c.args.size c.args.bytes.now c.args.marks.now)) c.program.ensures.event.0,
  did_step g.U.Unit.model c.args.units.now c.args.unit c.index-units-unit.result c.program.new.self c.args.chunk
      (Write c.args.at (blocks_of c.args.size c.args.bytes.now c.args.marks.now)) c.program.ensures.event.0 c.requires.taken
      (sized_step g.U.Unit.model c.args.units.now c.args.unit c.args.size c.index-units-unit.result c.program.new.self c.args.chunk c.args.at c.args.bytes.now
      c.args.marks.now _ c.program.ensures.event.0 refl c.requires.sector c.requires.taken c.program.ensures.event.2)
      (λ calm. told_quiet c.program.result c.program.ensures.event.0 c.program.ensures.event.1 (c.program.ensures.quiet calm)),
  c.is_err.ensures.value ∙ told_lost c.program.result c.program.ensures.event.0 c.program.ensures.event.1,
  told_not_empty c.program.result c.program.ensures.event.0 c.program.ensures.event.1,
)

pub returns-clause-kept : goal.returns-clause-kept
returns-clause-kept g c =
    kept_step g.U.Unit.model c.args.units.now c.args.unit c.index-units-unit.result c.program.new.self c.args.chunk
    (Write c.args.at (blocks_of c.args.size c.args.bytes.now c.args.marks.now)) c.program.ensures.event.0 c.requires.taken
    (sized_step g.U.Unit.model c.args.units.now c.args.unit c.args.size c.index-units-unit.result c.program.new.self c.args.chunk c.args.at c.args.bytes.now
    c.args.marks.now _ c.program.ensures.event.0 refl c.requires.sector c.requires.taken c.program.ensures.event.2)
    c.program.ensures.fits
