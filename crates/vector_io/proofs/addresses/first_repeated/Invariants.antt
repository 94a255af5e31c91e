use Rattle.std.proofs.Common.{◌<◌, ℕ}
use Rattle.vector_io.specs.Addresses.{IsRepeated}
use Rattle.vector_io.proofs.addresses.first_repeated.Given as goal

abbrev pub invariant-loop-i : goal.invariant-loop-i
invariant-loop-i l = (k : ℕ) → k < l.i → ¬ IsRepeated l.addresses k
