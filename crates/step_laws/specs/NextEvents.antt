-- What a unit can do next, by logs that are known to their ends: programs of stripes, resets and
-- fetches, with each outcome that they may have.
use Rattle.std.specs.Prelude.{ℕ, suc, ◌≡◌, true, List, length, slice_get, Some}
use Rattle.pblk_model.specs.Chunk.{Chunk}
use Rattle.pblk_model.specs.ChunkStep.{Write, Read, Reset}
use Rattle.pblk_model.specs.UnitLog.{UnitEvent, Stopped, IsEvent}
use Rattle.pblk_model.specs.Image.{Image}
use Rattle.pblk_world.specs.World.{Logs, unit_events, media}
use Rattle.pblk_world.specs.EngineLog.{Placed, answers}
use Rattle.pblk_world.specs.Commanding.{has_stopped, ended_stripes, IsGivenUp}
use Rattle.core_laws.specs.PlacerOf.{unanswered_on}

-- The unit can do this: a command on one of its chunks, with an outcome of the chunk table, a
-- failure or a stop. After a stop all is stopped, and leaves nothing. Whether it may be told to is
-- another matter.
pub record CanDo (i : Image) (logs : Logs) (unit : ℕ) (e : UnitEvent) : Type 0 where
  pub chunks : List Chunk
  pub has_chunks : slice_get (media i logs).units unit ≡ Some chunks
  pub event : IsEvent i.shape chunks e
  pub stopped : has_stopped (unit_events logs unit) ≡ true → e.outcome ≡ Stopped 0

-- a program of the unit's stripe that isn't answered, where all stripes before it are
pub record CanProgram (i : Image) (logs : Logs) (unit : ℕ) (p : Placed) (e : UnitEvent) : Type 0 where
  pub can : CanDo i logs unit e
  pub waits : unanswered_on (logs 0) unit ≡ Some p
  pub level : ended_stripes (logs (suc unit)) ≡ length (answers (logs 0) unit)
  pub chunk : e.chunk ≡ p.stripe.chunk
  pub command : e.command ≡ Write p.stripe.at p.stripe.blocks

-- a reset of a chunk of a line that was given up
pub record CanReset (i : Image) (logs : Logs) (unit : ℕ) (e : UnitEvent) : Type 0 where
  pub can : CanDo i logs unit e
  pub command : e.command ≡ Reset
  pub given : IsGivenUp logs unit can.event.found e.chunk

-- a fetch of a block
pub record CanFetch (i : Image) (logs : Logs) (unit block : ℕ) (e : UnitEvent) : Type 0 where
  pub can : CanDo i logs unit e
  pub command : e.command ≡ Read block
