-- Stripes in line order.
use Rattle.std.specs.Prelude.{ℕ, ◌≡◌, ◌*◌, ◌/◌, ◌%◌, List, length, slice_get, Some}
use Rattle.pblk_model.specs.declared.shape.Shape.{Shape}
use Rattle.pblk_world.specs.EngineLog.{Placed}

-- a stripe at its turn in a line of these units: they go round, row by row
pub record IsAtTurn (s : Shape) (units : List ℕ) (line n : ℕ) (p : Placed) : Type 0 where
  pub unit : slice_get units (n % length units) ≡ Some p.stripe.unit
  pub at : p.stripe.at ≡ n / length units * s.ws_opt
  pub line_is : p.stripe.line ≡ line
