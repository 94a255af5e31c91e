-- Lists by number.
use Rattle.std.specs.Prelude.{ℕ, ◌≡◌, ◌<◌, List, length, slice_get, Some}

-- for each number below n what f gives of it
pub record IsTable {X : Type 0} (n : ℕ) (f : ℕ → X) (xs : List X) : Type 0 where
  pub count : length xs ≡ n
  pub each : (k : ℕ) → k < n → slice_get xs k ≡ Some (f k)
