-- The fetches of a scan.
use Rattle.std.specs.Prelude.{ℕ, ◌+◌, ◌*◌, ◌<◌, ◌≤◌, ◌≡◌, ◌==◌, if◌then◌else◌, nat_lt, true, false, List, [], ◌∷◌, ◌++◌, length, Option, Some, None, Result, Ok, Err}
use Rattle.std.specs.List.{AllByRecursion, cons_option, filter, filter_map, range_with_len}
use Rattle.pblk_model.specs.declared.shape.Shape.{Shape}
use Rattle.pblk_model.specs.declared.chunk.ChunkState.TheVariants.{Closed}
use Rattle.pblk_model.specs.Chunk.{Block, Chunk, pointer}
use Rattle.pblk_model.specs.ChunkStep.{Read}
use Rattle.pblk_model.specs.Image.{Image, block_at, width}
use Rattle.pblk_model.specs.LineOrder.{end_len, start_len}
use Rattle.pblk_laws.specs.LineBlocks.{chunk_in}
use Rattle.unit_port.specs.Unit.{ModelUnit}
use Rattle.unit_port.specs.Commands.{EventAt, AreNext, after_all}
use Rattle.unit_port.specs.Did.{failed_or_stopped}
use Rattle.world_laws.specs.Finding.{is_full}
use Rattle.scan_recovery.specs.declared.error.ScanErr.{ScanErr}
use Rattle.scan_recovery.specs.declared.error.ScanErr.TheVariants as errors
use Rattle.scan_recovery.specs.DriveFaults.{grown_by}
use Rattle.scan_recovery.specs.Units.{image_of, IsLastEvent}

-- the event is a fetch of a written block
pub record IsFetch (i : Image) (e : EventAt) : Type 0 where
  pub block : ℕ
  pub command : e.event.command ≡ Read block
  pub found : Chunk
  pub there : chunk_in i e.event.chunk e.unit ≡ Some found
  pub written : block < pointer found

abbrev pub IsGood : EventAt → Type 0
IsGood e = failed_or_stopped e.event.outcome ≡ false

-- why a call was refused, if it was
abbrev pub error_of : {T : Type 0} → Result T ScanErr → Option ScanErr
error_of (Ok x) = None
error_of (Err e) = Some e

-- A fetch that failed or was stopped ends the scan, and is what the refusal names.
abbrev pub FetchEnds : List ModelUnit → List EventAt → Option ScanErr → Type 0
FetchEnds new events None = AllByRecursion IsGood events
FetchEnds new events (Some (errors.Drive unit number)) = (front : List EventAt) × (last : EventAt) × (events ≡ front ++ last ∷ [])
    × AllByRecursion IsGood front × (last.unit ≡ unit) × (failed_or_stopped last.event.outcome ≡ true) × IsLastEvent new unit number last.event
FetchEnds new events (Some errors.Memory) = AllByRecursion IsGood events

-- the units after these fetches, which left the chunks as they were, and how they ended
pub record HasFetched (s : Shape) (old new : List ModelUnit) (events : List EventAt) (error : Option ScanErr) : Type 0 where
  pub fetches : AllByRecursion (IsFetch (image_of s old)) events
  pub next : AreNext old events
  pub units : new ≡ after_all old events
  pub ends : FetchEnds new events error
  pub image : image_of s new ≡ image_of s old

-- some fetches were made, which left the chunks as they were, and they ended so
abbrev pub WereFetched : Shape → List ModelUnit → List ModelUnit → Option ScanErr → Type 0
WereFetched s old new error = (events : List EventAt) × HasFetched s old new events error

-- how many events are of a line
abbrev pub count_of : ℕ → List EventAt → ℕ
count_of line events = length (filter (λ e. e.event.chunk == line) events)

-- some were made, and of no line more than this
abbrev pub WereFewFetched : Shape → List ModelUnit → List ModelUnit → Option ScanErr → (ℕ → ℕ) → Type 0
WereFewFetched s old new error most = (events : List EventAt) × HasFetched s old new events error × ((line : ℕ) → count_of line events ≤ most line)

-- so many of one line, and none of any other
abbrev pub only_of : ℕ → ℕ → ℕ → ℕ
only_of line n other = if line == other then n else 0

-- of each of the first lines what `most` gives, and none of any other
abbrev pub first_of : ℕ → (ℕ → ℕ) → ℕ → ℕ
first_of lines most line = if nat_lt line lines then most line else 0

-- 1 for a block that is written
abbrev pub one_if : Option Block → ℕ
one_if o = length (cons_option o [])

-- how many of the first n blocks of a line are written
abbrev pub written_to : Image → ℕ → ℕ → ℕ
written_to i line n = length (filter_map (block_at i line) (range_with_len 0 n))

-- how many blocks of a line are written
abbrev pub written_in : Image → ℕ → ℕ
written_in i line = written_to i line (width i line * i.shape.clba)

-- The most that a scan fetches of a line behind its start record: its end record, and where that isn't whole each
-- written block.
abbrev pub most_behind : Image → ℕ → ℕ
most_behind i line = end_len i.shape (width i line) + (if is_full i line then 0 else written_in i line)

-- The most that a scan fetches of a line.
abbrev pub most_fetches : Image → ℕ → ℕ
most_fetches i line = start_len i.shape + most_behind i line

-- how many events of a line's chunks the units have beyond those that they had
abbrev pub line_growth : ℕ → List ModelUnit → List ModelUnit → ℕ
line_growth line [] new = 0
line_growth line (u ∷ old) [] = 0
line_growth line (u ∷ old) (v ∷ new) = length (filter (λ e. e.chunk == line) (grown_by u v)) + line_growth line old new

-- The units' logs grew by no more of any line than a scan fetches of it.
abbrev pub IsScanned : Image → List ModelUnit → List ModelUnit → Type 0
IsScanned i old new = (line : ℕ) → line_growth line old new ≤ most_fetches i line

-- a block of a chunk that is written and can be read
pub record IsReadableAt (i : Image) (line unit block : ℕ) : Type 0 where
  pub found : Chunk
  pub there : chunk_in i line unit ≡ Some found
  pub closed : found.state ≡ Closed
  pub written : block < pointer found
