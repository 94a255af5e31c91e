use Rattle.std.proofs.Common.{◌≡◌, ◌<◌, ℕ, Some, slice_get}
use Rattle.ocssd_geometry.specs.Numbers.{numbers_of}
use Rattle.unit_port.specs.Unit.{ModelUnit}
use Rattle.drive_tests.specs.Fits.{IsOf, models}
use Rattle.drive_tests.proofs.vector.harness.fit.Given as goal

abbrev pub invariant-loop-i : goal.invariant-loop-i
invariant-loop-i l = (k : ℕ) (u : ModelUnit) → k < l.i → slice_get (models l.units) k ≡ Some u → IsOf (numbers_of l.geometry) u
