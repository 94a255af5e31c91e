use Rattle.std.proofs.Common.{◌≡◌}
use Rattle.ocssd_drive.specs.Drive.{shape_of}
use Rattle.session_tests.proofs.gated_reads.take_offline.Given as goal

abbrev pub invariant-loop-chunk : goal.invariant-loop-chunk
invariant-loop-chunk l = l.shape ≡ shape_of l.drive
