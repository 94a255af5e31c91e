-- What may lie in the slots.
use Rattle.std.specs.Prelude.{◌≡◌, ℕ, ◌+◌, ◌≤◌, [], vec_capacity}
use Rattle.numbered_locks.specs.declared.cell.Cell.{Cell}
use Rattle.numbered_locks.specs.declared.cell.Cell.TheVariants as cell

module _ {V : Type 0} (keeps : ℕ → V → Type 0) (count : ℕ) where
  -- The slot after that of the number of a place may have a value that keeps what the place says.
  -- The first slot may have an empty vector with room for all values.
  abbrev pub Fits : ℕ → Cell V → Type 0
  Fits i (cell.Value x) = (place : ℕ) × (i ≡ place + 1) × keeps place x
  Fits i (cell.Spare xs) = (i ≡ 0) × (xs.items ≡ []) × (count ≤ vec_capacity xs)
