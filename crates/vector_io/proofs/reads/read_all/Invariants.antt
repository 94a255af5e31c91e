use Rattle.std.proofs.Common.{map}
use Rattle.pblk_model.specs.Blocks.{blocks_of}
use Rattle.ocssd_geometry.specs.Numbers.{numbers_of}
use Rattle.vector_io.proofs.ReadSteps.{IsReading}
use Rattle.vector_io.proofs.reads.read_all.Given as goal

abbrev pub invariant-loop-i : goal.invariant-loop-i
invariant-loop-i g l = IsReading (numbers_of l.geometry) l.addresses (map g.U.Unit.model l.fn.units) l.i l.failed l.empty (map g.U.Unit.model l.units)
    (blocks_of l.size l.fn.out l.fn.marks) (blocks_of l.size l.out l.marks)
