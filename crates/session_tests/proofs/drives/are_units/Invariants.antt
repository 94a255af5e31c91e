use Rattle.std.proofs.Common.{◌≡◌, ◌<◌, ℕ, Some, slice_get}
use Rattle.ocssd_drive.specs.Units.{IsUnitOf, WornUnit}
use Rattle.session_tests.proofs.drives.are_units.Given as goal

abbrev pub invariant-loop-index : goal.invariant-loop-index
invariant-loop-index l = (k : ℕ) (u : WornUnit) → slice_get l.units k ≡ Some u → k < l.index → IsUnitOf l.shape u
