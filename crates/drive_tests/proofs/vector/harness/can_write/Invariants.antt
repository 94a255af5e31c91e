use Rattle.std.proofs.Common.{◌-◌, length}
use Rattle.pblk_model.specs.Blocks.{blocks_of}
use Rattle.ocssd_geometry.specs.Numbers.{numbers_of}
use Rattle.drive_tests.specs.Fits.{models}
use Rattle.drive_tests.proofs.Checks.{IsChecked}
use Rattle.drive_tests.proofs.vector.harness.can_write.Given as goal

abbrev pub invariant-loop-at : goal.invariant-loop-at
invariant-loop-at l = IsChecked (numbers_of l.geometry) l.addresses (blocks_of 512 l.bytes l.marks) (models l.units) l.at l.least

abbrev pub decreases-loop-at : goal.decreases-loop-at
decreases-loop-at l = length l.addresses - l.at
