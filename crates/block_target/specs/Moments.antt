-- The moments of a world.
use Rattle.std.specs.Prelude.{ℕ, ◌≡◌, ◌++◌, length}
use Rattle.pblk_world.specs.World.{World, log_of}

-- The world as it was at a moment at which its engine's log had this length.
pub record IsMoment (w : World) (n : ℕ) (past : World) : Type 0 where
  pub later : World
  pub whole : w ≡ later ++ past
  pub length_is : length (log_of past 0) ≡ n
