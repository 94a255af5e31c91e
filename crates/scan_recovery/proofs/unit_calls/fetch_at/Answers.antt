use Rattle.pblk_model.specs.ChunkStep.{Read}
use Rattle.pblk_model.proofs.Parts.{get_set_other}
use Rattle.unit_port.specs.Did.{command_at}
use Rattle.unit_port.proofs.Units.{at_unit, block_quiet, did_step, kept_step, taken_within}
use Rattle.scan_recovery.proofs.Wears.{wear_same}
use Rattle.scan_recovery.proofs.unit_calls.fetch_at.Goals as goal

pub returns-clause-did : goal.returns-clause-did
returns-clause-did g c = (
  at_unit c.args.unit c.args.chunk (Read c.args.block) c.fetch.ensures.event.0,
  did_step g.U.Unit.model c.args.units.now c.args.unit c.index-units-unit.result c.fetch.new.self c.args.chunk
      (Read c.args.block) c.fetch.ensures.event.0 c.requires.taken c.fetch.ensures.event.2
      (λ calm. block_quiet c.args.out.now c.fetch.new.out c.fetch.result c.fetch.ensures.event.0 c.fetch.ensures.event.1 (c.fetch.ensures.quiet calm)),
  c.fetch.ensures.event.1,
)

pub returns-clause-kept : goal.returns-clause-kept
returns-clause-kept g c = kept_step g.U.Unit.model c.args.units.now c.args.unit c.index-units-unit.result c.fetch.new.self c.args.chunk
    (Read c.args.block) c.fetch.ensures.event.0 c.requires.taken c.fetch.ensures.event.2 c.fetch.ensures.fits

pub returns-clause-wear : goal.returns-clause-wear
returns-clause-wear g c =
    wear_same g.U.Unit.wear c.args.units.now c.args.unit c.index-units-unit.result c.fetch.new.self
    (taken_within g.U.Unit.model c.args.units.now (command_at c.args.unit c.args.chunk (Read c.args.block)) c.requires.taken) c.fetch.ensures.wear

pub returns-clause-others : goal.returns-clause-others
returns-clause-others g c = λ k other. get_set_other c.args.units.now c.args.unit k c.fetch.new.self other
