-- A reset that wasn't stopped, as the engine is told of it.
use Rattle.std.specs.Prelude.{ℕ, suc, ◌≡◌, length, Some}
use Rattle.pblk_model.specs.Chunk.{Chunk}
use Rattle.pblk_model.specs.ChunkStep.{Reset}
use Rattle.pblk_model.specs.Image.{Image}
use Rattle.pblk_model.specs.UnitLog.{UnitOutcome}
use Rattle.pblk_model.specs.declared.chunk.ChunkState.{ChunkState}
use Rattle.pblk_laws.specs.LineBlocks.{chunk_in}
use Rattle.pblk_world.specs.Answering.{IsDoneReset}
use Rattle.pblk_world.specs.Events.{Does, Maker}
use Rattle.pblk_world.specs.World.{media}
use Rattle.chronicle.specs.Prefixes.{Prefixes, logs_of, with_event}
use Rattle.pblk_engine.specs.Deeds.{event_of}

-- Of all logs the unit's author knew just what the engine's author knows. Then it noted one event:
-- the reset of the unit's chunk of a line, which was done or has failed. The chunk is in this state
-- since.
pub record IsResetSince (i : Image) (known note : Prefixes) (line unit : ℕ) (state : ChunkState) : Type 0 where
  pub before : Prefixes
  pub authors : length before ≡ length known
  pub same : logs_of before ≡ logs_of known
  pub outcome : UnitOutcome
  pub done : IsDoneReset outcome
  pub maker : Maker
  pub noted : note ≡ with_event before (suc unit) (Does (event_of line Reset outcome) maker)
  pub chunk : Chunk
  pub there : chunk_in (media i (logs_of note)) line unit ≡ Some chunk
  pub leaves : state ≡ chunk.state
