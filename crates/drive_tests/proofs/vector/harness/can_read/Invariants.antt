use Rattle.std.proofs.Common.{◌≡◌, ◌<◌, ℕ, Some, slice_get}
use Rattle.pblk_model.specs.declared.shape.Address.{Address}
use Rattle.ocssd_geometry.specs.Numbers.{numbers_of}
use Rattle.unit_port.specs.Commands.{IsTaken}
use Rattle.vector_io.specs.Plans.{read_of}
use Rattle.drive_tests.specs.Fits.{models}
use Rattle.drive_tests.proofs.vector.harness.can_read.Given as goal

abbrev pub invariant-loop-i : goal.invariant-loop-i
invariant-loop-i l = (k : ℕ) (a : Address) → k < l.i → slice_get l.addresses k ≡ Some a → IsTaken (models l.units) (read_of (numbers_of l.geometry) a)
