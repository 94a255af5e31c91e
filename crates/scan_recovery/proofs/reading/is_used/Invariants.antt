use Rattle.std.proofs.Common.{map}
use Rattle.scan_recovery.specs.Units.{image_of}
use Rattle.scan_recovery.proofs.LineStates.{AreEmptyTo}
use Rattle.scan_recovery.proofs.reading.is_used.Given as goal

abbrev pub invariant-loop-unit : goal.invariant-loop-unit
invariant-loop-unit g l = AreEmptyTo (image_of l.shape (map g.U.Unit.model l.units)) l.line l.unit
