-- Lemmas on the words of Addresses.
use Rattle.std.proofs.Common.{arith, ℕ, ◌<◌, ◌≡◌}
use Rattle.vector_io.specs.Addresses.{IsCount}

pub some_marks : (n m : ℕ) → n ≡ m → IsCount m → 0 < n
some_marks n m same h = let some : 0 < m = h.0 in omega arith
