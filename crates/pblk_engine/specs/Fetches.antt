-- Blocks that an arm fetches.
use Rattle.std.specs.Prelude.{ℕ, ◌≡◌, ◌⊎◌, Bool, true, false, List, slice_get, Some, Result, Ok, Err}
use Rattle.pblk_model.specs.declared.chunk.ChunkState.TheVariants as states
use Rattle.pblk_model.specs.declared.shape.Shape.{Shape}
use Rattle.pblk_model.specs.Chunk.{Block, Chunk, IsReadable}
use Rattle.pblk_model.specs.Image.{Image}
use Rattle.pblk_model.specs.ChunkStep.{ChunkAnswer, Gave, Read}
use Rattle.pblk_model.specs.Records.{named}
use Rattle.pblk_model.specs.UnitLog.{UnitOutcome, Answered}
use Rattle.pblk_laws.specs.LineBlocks.{chunk_in}
use Rattle.pblk_world.specs.World.{Logs, media}
use Rattle.unit_port.specs.Armed.{is_fail, is_stop}
use Rattle.unit_port.specs.Did.{failed_or_stopped}
use Rattle.unit_port.specs.declared.unit.UnitErr.{UnitErr}
use Rattle.unit_port.specs.declared.unit.UnitErr.TheVariants as causes
use Rattle.chronicle.specs.Prefixes.{Prefixes}
use Rattle.pblk_engine.specs.Arms.{ArmView}
use Rattle.pblk_engine.specs.Deeds.{HasDone}
use Rattle.pblk_engine.specs.Workers.{WorkerView}
use Rattle.pblk_engine.specs.declared.errors.FetchErr.{FetchErr}

-- By these logs the unit's chunk of a line has this block, and it can be read.
pub record IsReadableAt (i : Image) (logs : Logs) (unit line number : ℕ) : Type 0 where
  pub chunk : Chunk
  pub there : chunk_in (media i logs) line unit ≡ Some chunk
  pub readable : IsReadable i.shape chunk number
  pub block : Block
  pub written : slice_get chunk.blocks number ≡ Some block

-- why a fetch gave no block: it failed, or it was stopped
abbrev pub TellsCause : UnitErr → UnitOutcome → Type 0
TellsCause causes.Failed outcome = is_fail outcome ≡ true
TellsCause causes.Stopped outcome = is_stop outcome ≡ true

-- A fetch gave a block; or it is told why not, and of which unit it was, with its number in the
-- unit's log.
abbrev pub TellsFetch : ℕ → ℕ → Result (Unit {0}) FetchErr → UnitOutcome → Type 0
TellsFetch unit number (Ok _) outcome = (b : Block) × (outcome ≡ Answered (Gave b))
TellsFetch unit number (Err e) outcome = TellsCause e.cause outcome × (e.unit ≡ unit) × (e.event ≡ number)

-- The block's mark names the sector, and bears the position. What the mark names decides, and not
-- how it is spelled.
pub record IsMarked (s : Shape) (lba position : ℕ) (b : Block) : Type 0 where
  pub names : named s b.mark ≡ Some (Some lba)
  pub bears : b.mark.position ≡ position

-- A fetch gave a block that is marked so, or another block or none; or it failed or was stopped,
-- and its number in the unit's log is told. It left this in the caller's buffer.
abbrev pub TellsMarked : Shape → ℕ → ℕ → ℕ → List ℕ → Result Bool ℕ → UnitOutcome → Type 0
TellsMarked s lba position number out (Ok true) outcome =
    (b : Block) × (outcome ≡ Answered (Gave b)) × IsMarked s lba position b × (out ≡ b.sector)
TellsMarked s lba position number out (Ok false) outcome =
    (answer : ChunkAnswer) × (outcome ≡ Answered answer) × ((b : Block) → answer ≡ Gave b → ¬ IsMarked s lba position b)
TellsMarked s lba position number out (Err event) outcome = (failed_or_stopped outcome ≡ true) × (event ≡ number)

-- The chunk is Offline, and nothing was fetched from it.
pub record WasOffline (old new : ArmView) (was now : WorkerView) (before : Prefixes) (line : ℕ) (result : Result Bool ℕ) : Type 0 where
  pub chunk : Chunk
  pub there : slice_get old.unit.media line ≡ Some chunk
  pub offline : chunk.state ≡ states.Offline
  pub refused : result ≡ Ok false
  pub arm : new ≡ record old { known = before }
  pub worker : now ≡ was

-- A block was sought by its mark: the chunk is Offline, or the block was fetched.
abbrev pub HasSought : ArmView → ArmView → WorkerView → WorkerView → Prefixes → ℕ → ℕ → (UnitOutcome → Type 0) → Result Bool ℕ → Type 0
HasSought old new was now before line block tells result =
    WasOffline old new was now before line result ⊎ HasDone old new was now before line (Read block) tells
