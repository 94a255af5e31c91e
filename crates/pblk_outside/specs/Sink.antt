-- What is seen of a sink, and what its calls do to the bytes that were taken.
use Rattle.std.specs.Prelude.{◌≡◌, ℕ, ◌≤◌, Bool, List, ◌++◌, length, take}

-- Whether a sink tells what it has taken; the bytes taken so far, which count only where told; and how
-- often it has failed.
pub record SinkView : Type 0 where
  pub told : Bool
  pub taken : List ℕ
  pub faults : ℕ

-- the bytes taken have grown by a prefix of the piece
pub record TakesPrefix (piece old new : List ℕ) : Type 0 where
  pub count : ℕ
  pub within : count ≤ length piece
  pub taken : new ≡ old ++ take count piece
