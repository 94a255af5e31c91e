use Rattle.std.proofs.Common.{◌*◌, ◌-◌, map, ◌∙◌, arith}
use Rattle.pblk_model.specs.Blocks.{blocks_of}
use Rattle.ocssd_geometry.specs.Numbers.{numbers_of}
use Rattle.vector_io.proofs.RunLengths.{part_blocks}
use Rattle.vector_io.proofs.WriteSteps.{none_written, next_taken, write_more, all_written, sizes_kept, part_whole, times_apart}
use Rattle.vector_io.proofs.writes.write_all.Goals as goal
use Rattle.pblk_model.proofs.BlocksLemmas.{length-blocks_of}

pub loop-at-init : goal.loop-at-init
loop-at-init g c = none_written (numbers_of c.args.geometry.now) c.args.addresses.now (blocks_of c.args.size c.args.bytes.now c.args.marks.now)
    (map g.U.Unit.model c.args.units.now) c.requires.taken

pub program_at-lost-requires-clause-sector : goal.program_at-lost-requires-clause-sector
program_at-lost-requires-clause-sector g c =
    sizes_kept (map g.U.Unit.model c.args.units.now) (map g.U.Unit.model c.loop-at.units) c.args.size c.loop-at.invariant.way.by.kept c.requires.sector

pub program_at-lost-requires-clause-whole : goal.program_at-lost-requires-clause-whole
program_at-lost-requires-clause-whole g c =
    part_whole c.args.size c.loop-at.at c.run_end-end.result c.args.bytes.now c.args.marks.now c.requires.whole (omega arith) (omega arith)

pub program_at-lost-requires-clause-taken : goal.program_at-lost-requires-clause-taken
program_at-lost-requires-clause-taken g c =
    next_taken (numbers_of c.args.geometry.now) c.args.addresses.now (blocks_of c.args.size c.args.bytes.now c.args.marks.now) _
    (map g.U.Unit.model c.args.units.now) (map g.U.Unit.model c.loop-at.units) c.loop-at.at c.loop-at.failed c.run_end-end.result c.unit_of.result _
    c.loop-at.invariant (length-blocks_of c.args.size c.args.bytes.now c.args.marks.now ∙ c.requires.marks) c.loop-at-test.true c.run_end-end.ensures.end
    c.unit_of.ensures
    (part_blocks c.args.size c.loop-at.at (c.run_end-end.result - c.loop-at.at) c.args.bytes.now c.args.marks.now
    (c.run_end-end.result * c.args.size - c.loop-at.at * c.args.size) (times_apart c.loop-at.at c.run_end-end.result c.args.size (omega arith)))

pub loop-at-preserved : goal.loop-at-preserved
loop-at-preserved g c =
    write_more (numbers_of c.args.geometry.now) c.args.addresses.now (blocks_of c.args.size c.args.bytes.now c.args.marks.now) _
    (map g.U.Unit.model c.args.units.now) (map g.U.Unit.model c.loop-at.units) (map g.U.Unit.model c.program_at-lost.new.units)
    c.loop-at.at c.loop-at.failed c.with_bits-failed.result c.run_end-end.result c.unit_of.result _ c.program_at-lost.result
    (length-blocks_of c.args.size c.args.bytes.now c.args.marks.now ∙ c.requires.marks) c.requires.apart c.loop-at-test.true c.loop-at.invariant
    c.run_end-end.ensures.end c.run_end-end.ensures.within c.unit_of.ensures
    (part_blocks c.args.size c.loop-at.at (c.run_end-end.result - c.loop-at.at) c.args.bytes.now c.args.marks.now
    (c.run_end-end.result * c.args.size - c.loop-at.at * c.args.size) (times_apart c.loop-at.at c.run_end-end.result c.args.size (omega arith)))
    c.program_at-lost.ensures.did c.program_at-lost.ensures.kept c.with_bits-failed.ensures

pub returns-clause-answers : goal.returns-clause-answers
returns-clause-answers g c = all_written (numbers_of c.args.geometry.now) c.args.addresses.now (blocks_of c.args.size c.args.bytes.now c.args.marks.now)
    (map g.U.Unit.model c.args.units.now) (map g.U.Unit.model c.loop-at.units) c.loop-at.at c.loop-at.failed c.loop-at.invariant c.loop-at-test.false
