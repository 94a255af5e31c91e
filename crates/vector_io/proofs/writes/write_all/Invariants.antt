use Rattle.std.proofs.Common.{◌-◌, map, length}
use Rattle.pblk_model.specs.Blocks.{blocks_of}
use Rattle.ocssd_geometry.specs.Numbers.{numbers_of}
use Rattle.vector_io.proofs.WriteSteps.{IsWriting}
use Rattle.vector_io.proofs.writes.write_all.Given as goal

abbrev pub invariant-loop-at : goal.invariant-loop-at
invariant-loop-at g l = IsWriting (numbers_of l.geometry) l.addresses (blocks_of l.size l.bytes l.marks) (map g.U.Unit.model l.fn.units) l.at l.failed
    (map g.U.Unit.model l.units)

abbrev pub decreases-loop-at : goal.decreases-loop-at
decreases-loop-at g l = length l.addresses - l.at
