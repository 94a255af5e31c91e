-- What a unit's commands ask, tell and leave.
use Rattle.std.specs.Prelude.{ℕ, true, ◌≡◌, ◌⊎◌, ◌++◌, [], ◌∷◌, List, length, slice_get, Some, None, Result, Ok, Err}
use Rattle.std.specs.List.{AllByRecursion}
use Rattle.pblk_model.specs.declared.shape.Shape.{Shape}
use Rattle.pblk_model.specs.declared.chunk.Got.{Got}
use Rattle.pblk_model.specs.declared.chunk.Got.TheVariants as got
use Rattle.pblk_model.specs.declared.chunk.Mark.{Mark}
use Rattle.pblk_model.specs.Blocks.{blocks_of}
use Rattle.pblk_model.specs.Chunk.{Chunk, IsChunk}
use Rattle.pblk_model.specs.ChunkStep.{ChunkCommand, Write, Read, Reset, Done, Gave, Empty, refusal}
use Rattle.pblk_model.specs.UnitLog.{UnitEvent, UnitOutcome, Answered, Failed, Stopped, IsEvent, after_event}
use Rattle.unit_port.specs.declared.unit.UnitErr.{UnitErr}
use Rattle.unit_port.specs.declared.unit.UnitErr.TheVariants as errors
use Rattle.unit_port.specs.Armed.{Armed, has_stopped}

-- A unit: the shape of its drive, its chunks, the log of its programs, fetches and resets, oldest first, and what it was
-- armed with.
pub record ModelUnit : Type 0 where
  pub shape : Shape
  pub media : List Chunk
  pub log : List UnitEvent
  pub armed : Armed

-- it answered Stopped since it was armed
abbrev pub IsStopped : ModelUnit → Type 0
IsStopped u = has_stopped u.armed u.log ≡ true

-- this is its chunk of that number
abbrev pub IsChunkOf : ModelUnit → ℕ → Chunk → Type 0
IsChunkOf u chunk found = slice_get u.media chunk ≡ Some found

-- it has as many chunks as its drive's shape says, and all are chunks of such a drive
pub record IsFitUnit (u : ModelUnit) : Type 0 where
  pub count : length u.media ≡ u.shape.chunks
  pub chunks : AllByRecursion (IsChunk u.shape) u.media

-- It may be given this command: it has the chunk, which doesn't refuse the command, unless the unit is stopped.
pub record Takes (u : ModelUnit) (chunk : ℕ) (command : ChunkCommand) : Type 0 where
  pub found : Chunk
  pub there : IsChunkOf u chunk found
  pub taken : (refusal u.shape found command ≡ None) ⊎ IsStopped u

-- It has the chunk, which doesn't refuse the command.
pub record IsReady (u : ModelUnit) (chunk : ℕ) (command : ChunkCommand) : Type 0 where
  pub found : Chunk
  pub there : IsChunkOf u chunk found
  pub ready : refusal u.shape found command ≡ None

-- A command with this outcome took it from old to new: its log got the event, which was one over its chunks, and its
-- chunks are what the event leaves of them. Where it was stopped before, this one was stopped too, and landed nothing.
pub record Steps (old : ModelUnit) (chunk : ℕ) (command : ChunkCommand) (outcome : UnitOutcome) (new : ModelUnit) : Type 0 where
  pub event : IsEvent old.shape old.media (record { chunk = chunk; command = command; outcome = outcome })
  pub log : new.log ≡ old.log ++ record { chunk = chunk; command = command; outcome = outcome } ∷ []
  pub media : new.media ≡ after_event old.shape old.media (record { chunk = chunk; command = command; outcome = outcome })
  pub stopped : IsStopped old → outcome ≡ Stopped 0
  pub shape : new.shape ≡ old.shape
  pub armed : new.armed ≡ old.armed

-- what a program or a reset tells of its outcome
abbrev pub TellsDone : {T : Type 0} → Result T UnitErr → UnitOutcome → Type 0
TellsDone (Ok _) outcome = outcome ≡ Answered Done
TellsDone (Err errors.Failed) outcome = (k : ℕ) × (outcome ≡ Failed k)
TellsDone (Err errors.Stopped) outcome = (k : ℕ) × (outcome ≡ Stopped k)

-- what a fetch tells that found these bytes in the caller's buffer, and left those
abbrev pub TellsBlock : List ℕ → List ℕ → Result Got UnitErr → UnitOutcome → Type 0
TellsBlock old new (Ok (got.Sector mark)) outcome = outcome ≡ Answered (Gave (record { sector = new; mark = mark }))
TellsBlock old new (Ok got.Empty) outcome = (outcome ≡ Answered Empty) × (new ≡ old)
TellsBlock old new (Err errors.Failed) outcome = (outcome ≡ Failed 0) × (new ≡ old)
TellsBlock old new (Err errors.Stopped) outcome = (outcome ≡ Stopped 0) × (new ≡ old)

-- A program of these bytes and marks told this result: it had some outcome, and took the unit from old to new.
abbrev pub DidProgram : ModelUnit → ℕ → ℕ → List ℕ → List Mark → Result (Unit {0}) UnitErr → ModelUnit → Type 0
DidProgram old chunk at bytes marks result new = (outcome : UnitOutcome) × TellsDone result outcome
    × Steps old chunk (Write at (blocks_of old.shape.sector bytes marks)) outcome new

-- The same of a fetch, which found these bytes in the caller's buffer and left those.
abbrev pub DidFetch : ModelUnit → ℕ → ℕ → List ℕ → List ℕ → Result Got UnitErr → ModelUnit → Type 0
DidFetch old chunk block before after result new = (outcome : UnitOutcome) × TellsBlock before after result outcome
    × Steps old chunk (Read block) outcome new

-- The same of a reset.
abbrev pub DidReset : ModelUnit → ℕ → Result (Unit {0}) UnitErr → ModelUnit → Type 0
DidReset old chunk result new = (outcome : UnitOutcome) × TellsDone result outcome × Steps old chunk Reset outcome new
