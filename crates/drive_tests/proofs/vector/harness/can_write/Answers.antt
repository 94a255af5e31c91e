use Rattle.std.proofs.Common.{◌*◌, ◌-◌, ◌∙◌, arith, rules}
use Rattle.pblk_model.specs.Blocks.{blocks_of}
use Rattle.ocssd_geometry.specs.Numbers.{numbers_of}
use Rattle.vector_io.proofs.RunLengths.{part_blocks}
use Rattle.vector_io.proofs.WriteSteps.{times_apart}
use Rattle.drive_tests.specs.Fits.{models}
use Rattle.drive_tests.proofs.Checks.{one_checked, all_checked}
use Rattle.drive_tests.proofs.vector.harness.can_write.Goals as goal
use Rattle.pblk_model.proofs.BlocksLemmas.{length-blocks_of}

pub loop-at-preserved : goal.loop-at-preserved
loop-at-preserved c =
    one_checked (numbers_of c.args.geometry.now) c.args.addresses.now (blocks_of 512 c.args.bytes.now c.args.marks.now) _
    (models c.args.units.now) c.loop-at.at c.loop-at.least c.run_end-end.result c.unit_of-unit.result _
    c.loop-at.invariant (length-blocks_of 512 c.args.bytes.now c.args.marks.now ∙ c.requires.marks) c.loop-at-test.true c.run_end-end.ensures.end
    c.unit_of-unit.ensures
    (part_blocks 512 c.loop-at.at (c.run_end-end.result - c.loop-at.at) c.args.bytes.now c.args.marks.now
    (c.run_end-end.result * 512 - c.loop-at.at * 512) (times_apart c.loop-at.at c.run_end-end.result 512 (omega arith)))
    c.if-unit-least.false (c.takes_write.ensures (numbers_of c.args.geometry.now) (search rules) c.requires.fit)

pub returns : goal.returns
returns c is = all_checked (numbers_of c.args.geometry.now) c.args.addresses.now (blocks_of 512 c.args.bytes.now c.args.marks.now)
    (models c.args.units.now) c.loop-at.at c.loop-at.least c.loop-at.invariant c.loop-at-test.false
