-- Sets of lines as words of 64 bits.
use Rattle.std.specs.Prelude.{ℕ, ◌/◌, ◌%◌, ◌==◌, Bool, List}
use Rattle.std.specs.List.{slice_index_or}
use Rattle.std.specs.Int.{bit_at}

unfoldable pub is_set : ℕ → ℕ → Bool
is_set word bit = bit_at word bit == 1

unfoldable pub has : List ℕ → ℕ → Bool
has words n = is_set (slice_index_or words (n / 64) 0) (n % 64)
