use Rattle.std.proofs.Common.{map}
use Rattle.ocssd_geometry.specs.Numbers.{numbers_of}
use Rattle.vector_io.specs.Plans.{resets}
use Rattle.vector_io.proofs.UnderWay.{IsUnderWay}
use Rattle.vector_io.proofs.resets.reset_all.Given as goal

abbrev pub invariant-loop-i : goal.invariant-loop-i
invariant-loop-i g l = IsUnderWay (map g.U.Unit.model l.fn.units) (resets (numbers_of l.geometry) l.addresses) l.i l.i l.failed 0 (map g.U.Unit.model l.units)
