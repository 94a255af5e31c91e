use Rattle.std.proofs.Common.{refl}
use Rattle.pblk_model.specs.Blocks.{blocks_of}
use Rattle.pblk_model.specs.ChunkStep.{Write}
use Rattle.unit_port.specs.Did.{command_at}
use Rattle.unit_port.proofs.Units.{at_unit, did_step, kept_step, taken_within, sized_step, told_quiet}
use Rattle.scan_recovery.proofs.Wears.{wear_same}
use Rattle.scan_recovery.proofs.unit_calls.program_at.Goals as goal

pub returns-clause-did : goal.returns-clause-did
returns-clause-did g c = (
  at_unit c.args.unit c.args.chunk (Write c.args.at (blocks_of c.args.size c.args.bytes.now c.args.marks.now)) c.program.ensures.event.0,
  did_step g.U.Unit.model c.args.units.now c.args.unit c.index-units-unit.result c.program.new.self c.args.chunk
      (Write c.args.at (blocks_of c.args.size c.args.bytes.now c.args.marks.now)) c.program.ensures.event.0 c.requires.taken
      (sized_step g.U.Unit.model c.args.units.now c.args.unit c.args.size c.index-units-unit.result c.program.new.self c.args.chunk c.args.at c.args.bytes.now
      c.args.marks.now _ c.program.ensures.event.0 refl c.requires.sector c.requires.taken c.program.ensures.event.2)
      (λ calm. told_quiet c.program.result c.program.ensures.event.0 c.program.ensures.event.1 (c.program.ensures.quiet calm)),
  c.program.ensures.event.1,
)

pub returns-clause-kept : goal.returns-clause-kept
returns-clause-kept g c =
    kept_step g.U.Unit.model c.args.units.now c.args.unit c.index-units-unit.result c.program.new.self c.args.chunk
    (Write c.args.at (blocks_of c.args.size c.args.bytes.now c.args.marks.now)) c.program.ensures.event.0 c.requires.taken
    (sized_step g.U.Unit.model c.args.units.now c.args.unit c.args.size c.index-units-unit.result c.program.new.self c.args.chunk c.args.at c.args.bytes.now
    c.args.marks.now _ c.program.ensures.event.0 refl c.requires.sector c.requires.taken c.program.ensures.event.2)
    c.program.ensures.fits

pub returns-clause-wear : goal.returns-clause-wear
returns-clause-wear g c =
    wear_same g.U.Unit.wear c.args.units.now c.args.unit c.index-units-unit.result c.program.new.self
    (taken_within g.U.Unit.model c.args.units.now
    (command_at c.args.unit c.args.chunk (Write c.args.at (blocks_of c.args.size c.args.bytes.now c.args.marks.now))) c.requires.taken)
    c.program.ensures.wear
