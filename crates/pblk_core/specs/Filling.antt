-- A stripe that is being filled.
use Rattle.std.specs.Prelude.{ℕ, Bool, List, [], ◌++◌}
use Rattle.pblk_model.specs.declared.shape.Shape.{Shape}
use Rattle.pblk_model.specs.Chunk.{Block}
use Rattle.pblk_world.specs.Events.{Stripe}

-- A stripe, with the shape of its drive. It may have been placed before: then its program was
-- stopped, and is made again. Its turn is how many stripes of its unit were answered as it was
-- placed, as far as numbers tell.
pub record Filling : Type 0 where
  pub shape : Shape
  pub stripe : Stripe
  pub again : Bool
  pub turn : ℕ

-- a stripe of a line on a unit, from a block of the chunk on, without blocks
abbrev pub empty_stripe : ℕ → ℕ → ℕ → Stripe
empty_stripe line unit at = record { line = line; unit = unit; chunk = line; at = at; blocks = [] }

-- with these blocks at its end
abbrev pub followed_by : Filling → List Block → Filling
followed_by f blocks = record {
  shape = f.shape;
  stripe = record {
    line = f.stripe.line;
    unit = f.stripe.unit;
    chunk = f.stripe.chunk;
    at = f.stripe.at;
    blocks = f.stripe.blocks ++ blocks;
  };
  again = f.again;
  turn = f.turn;
}
