-- Chunks of lines that a mount opened, and what was programmed in them.
use Rattle.std.specs.Prelude.{ℕ, suc, ◌<◌, ◌≤◌, ◌≡◌, List, length, slice_get, slice_index, Some}
use Rattle.pblk_model.specs.Chunk.{Block, Chunk}
use Rattle.pblk_model.specs.ChunkStep.{Done, Write}
use Rattle.pblk_model.specs.Image.{Image}
use Rattle.pblk_model.specs.UnitLog.{Answered, UnitEvent}
use Rattle.pblk_world.specs.EngineLog.{Begun, Opening, begun, last_opening, life_of}
use Rattle.pblk_world.specs.Events.{Logged}
use Rattle.pblk_world.specs.World.{Logs, World, log_of, unit_event_of}
use Rattle.pblk_world.specs.LegalMounts.{IsLegalMount}
use Rattle.world_laws.specs.UnitChunks.{chunk_after}

-- In a legal mount that has begun, this was the line's last opening, and the line may have been
-- freed since. The chunk is the unit's of this line after so many of the unit's events, which are no
-- fewer than the opening names.
pub record IsOpenedChunk (i : Image) (w : World) (o : Opening) (line unit events : ℕ) (c : Chunk) : Type 0 where
  pub mount : IsLegalMount i w
  pub beginning : Begun
  pub begins : begun (log_of w 0) ≡ Some beginning
  pub last : last_opening (life_of (log_of w 0) line) ≡ Some o
  pub since : slice_index o.knows (suc unit) ≤ events
  pub within : events ≤ length (log_of w (suc unit))
  pub there : chunk_after i (log_of w) line unit events ≡ Some c

-- Among those events, and not among those that the opening names, these blocks were programmed in
-- the chunk from this place on, and the unit answered that it was done.
pub record WasProgrammed (logs : Logs) (o : Opening) (line unit events at : ℕ) (blocks : List Block) : Type 0 where
  pub number : ℕ
  pub since : slice_index o.knows (suc unit) ≤ number
  pub before : number < events
  pub logged : Logged
  pub there : slice_get (logs (suc unit)) number ≡ Some logged
  pub event : UnitEvent
  pub is_event : unit_event_of logged.event ≡ Some event
  pub of_line : event.chunk ≡ line
  pub command : event.command ≡ Write at blocks
  pub done : event.outcome ≡ Answered Done
