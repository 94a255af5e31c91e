-- The blocks that stand in a chunk of a line of this mount.
use Rattle.std.specs.Prelude.{ℕ, suc, ◌+◌, ◌<◌, ◌≡◌, true, take, slice_get, Some}
use Rattle.pblk_model.specs.Chunk.{Block}
use Rattle.pblk_model.specs.UnitLog.{UnitEvent}
use Rattle.pblk_world.specs.Events.{Logged}
use Rattle.pblk_world.specs.World.{Logs, unit_event_of}
use Rattle.pblk_world.specs.EngineLog.{Opened, Opening, Placed, placed_on}
use Rattle.pblk_world.specs.Commanding.{ended_stripes, is_program}

-- A block of a chunk at this place: it is that block of a stripe which was placed in this life of
-- the line, and whose program is among the first so many events of the unit.
pub record IsBlockOfLife (logs : Logs) (o : Opening) (line unit events at : ℕ) (block : Block) : Type 0 where
  pub number : ℕ
  pub before : number < events
  pub logged : Logged
  pub there : slice_get (logs (suc unit)) number ≡ Some logged
  pub event : UnitEvent
  pub is_event : unit_event_of logged.event ≡ Some event
  pub program : is_program event.command ≡ true
  pub placed : Placed
  pub its_stripe : slice_get (placed_on (logs 0) unit) (ended_stripes (take number (logs (suc unit)))) ≡ Some placed
  pub in_line : placed.stripe.line ≡ line
  pub of_life : placed.life ≡ Opened o
  pub index : ℕ
  pub place : at ≡ placed.stripe.at + index
  pub is_block : slice_get placed.stripe.blocks index ≡ Some block
