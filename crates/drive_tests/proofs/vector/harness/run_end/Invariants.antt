use Rattle.std.proofs.Common.{◌-◌, length}
use Rattle.ocssd_geometry.specs.Numbers.{numbers_of}
use Rattle.vector_io.proofs.RunLengths.{IsInRun}
use Rattle.drive_tests.proofs.vector.harness.run_end.Given as goal

abbrev pub invariant-loop-last : goal.invariant-loop-last
invariant-loop-last l = IsInRun (numbers_of l.geometry) l.addresses l.at l.last

abbrev pub decreases-loop-last : goal.decreases-loop-last
decreases-loop-last l = length l.addresses - l.last
