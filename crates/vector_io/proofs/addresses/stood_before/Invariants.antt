use Rattle.std.proofs.Common.{◌≡◌, ◌<◌, ℕ, Some, slice_get}
use Rattle.pblk_model.specs.declared.shape.Address.{Address}
use Rattle.vector_io.proofs.addresses.stood_before.Given as goal

abbrev pub invariant-loop-j : goal.invariant-loop-j
invariant-loop-j l = (k : ℕ) (a : Address) → k < l.j → slice_get l.addresses k ≡ Some a → ¬ slice_get l.addresses l.index ≡ Some a
