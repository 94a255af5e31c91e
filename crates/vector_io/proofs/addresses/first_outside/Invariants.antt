use Rattle.std.proofs.Common.{◌≡◌, ◌<◌, ℕ, Some, slice_get}
use Rattle.pblk_model.specs.declared.shape.Address.{Address}
use Rattle.pblk_model.specs.Geometry.{IsAddress}
use Rattle.ocssd_geometry.specs.Numbers.{numbers_of}
use Rattle.vector_io.proofs.addresses.first_outside.Given as goal

abbrev pub invariant-loop-i : goal.invariant-loop-i
invariant-loop-i l = (k : ℕ) (a : Address) → k < l.i → slice_get l.addresses k ≡ Some a → IsAddress (numbers_of l.geometry) a
