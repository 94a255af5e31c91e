-- What a unit's programs are.
use Rattle.std.specs.Prelude.{ℕ, suc, ◌<◌, ◌≡◌, take, slice_get, Some}
use Rattle.pblk_model.specs.ChunkStep.{Write}
use Rattle.pblk_model.specs.UnitLog.{UnitEvent}
use Rattle.pblk_world.specs.Events.{Logged}
use Rattle.pblk_world.specs.World.{Logs, knows_engine}
use Rattle.pblk_world.specs.EngineLog.{Placed, placed_on}
use Rattle.pblk_world.specs.Commanding.{ended_stripes}

-- The event of this number is a program of a stripe that was placed on the unit: where k programs
-- were done or failed before it, of the k-th one placed there. The unit knew of the placing.
pub record IsProgramOfStripe (logs : Logs) (unit number : ℕ) (l : Logged) (e : UnitEvent) : Type 0 where
  pub placed : Placed
  pub in_order : slice_get (placed_on (logs 0) unit) (ended_stripes (take number (logs (suc unit))))
      ≡ Some placed
  pub was_known : placed.number < knows_engine l
  pub chunk : e.chunk ≡ placed.stripe.chunk
  pub command : e.command ≡ Write placed.stripe.at placed.stripe.blocks
