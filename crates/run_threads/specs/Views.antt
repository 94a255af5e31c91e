-- What a seat of the board of posts knows.
use Rattle.std.specs.Prelude.{ℕ, List}

-- The words that the seat alone may post, which are those from the next one on that are below `past`; and
-- the words of which it knows what was posted there, each with the position. It posts its words in order.
pub record View : Type 0 where
  pub next : ℕ
  pub past : ℕ
  pub known : List (ℕ × ℕ)
