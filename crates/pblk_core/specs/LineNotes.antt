-- What a core notes of each line to tell when it may be freed, and what that is by the logs.
use Rattle.std.specs.Prelude.{ℕ, ◌-◌, ◌<◌, ◌≤◌, ◌≡◌, ◌==◌, ◌&&◌, if◌then◌else◌, max, nat_lt, nat_le, Bool, true, false, ⊤, List, length, slice_get, Option, Some, None}
use Rattle.std.specs.Option.{is_some, option_and_then, option_map, unwrap_or}
use Rattle.pblk_model.specs.declared.found.LineRow.{LineRow}
use Rattle.pblk_model.specs.Image.{Image}
use Rattle.pblk_world.specs.World.{Logs}
use Rattle.pblk_world.specs.EngineLog.{Opened, Opening, life_of}
use Rattle.core_laws.specs.ClosedLines.{ClosedLine, StartNumbers, answered_top, closed_line, newest_numbers, starts_left}
use Rattle.pblk_core.specs.declared.line_notes.LineNote.{LineNote}
use Rattle.pblk_core.specs.declared.line_notes.LineNotes.{LineNotes}
use Rattle.pblk_core.specs.declared.line_notes.StartNote.{StartNote}

-- What each call makes of a row.

-- a line of which recovery found this
abbrev pub note_found : LineRow → LineNote
note_found row = record { seq = unwrap_or row.seq 0; front = 0; starts_left = 0; top = row.top; closed = is_some row.seq }

abbrev pub note_opened : ℕ → ℕ → ℕ → LineNote
note_opened seq front starts = record { seq = seq; front = front; starts_left = starts; top = 0; closed = false }

-- blocks were written in its line: this is one past the greatest of their positions
abbrev pub note_added : ℕ → LineNote → LineNote
note_added top row = record row { top = max row.top top }

abbrev pub note_started : LineNote → LineNote
note_started row = record row { starts_left = row.starts_left - 1 }

abbrev pub note_closed : LineNote → LineNote
note_closed row = record row { closed = true }

abbrev pub note_freed : LineNote → LineNote
note_freed row = record row { closed = false }

-- The newest start record.

abbrev pub start_found : ℕ → Option ℕ → Option StartNote
start_found front seq = option_map (λ n. record { seq = n; front = front }) seq

abbrev pub head_start : List LineRow → Option ℕ → ℕ → Option StartNote
head_start lines head front = option_and_then (λ line. option_and_then (λ (row : LineRow). start_found front row.seq) (slice_get lines line)) head

abbrev pub newer_note : Option StartNote → StartNote → StartNote
newer_note None start = start
newer_note (Some newest) start = if nat_lt newest.seq start.seq then start else newest

abbrev pub start_in : LineNote → StartNote
start_in row = record { seq = row.seq; front = row.front }

-- once a stripe of a line's start record has landed: of that line this is the row now
abbrev pub newest_after : LineNote → Option StartNote → Option StartNote
newest_after row newest = if row.starts_left == 0 then Some (newer_note newest (start_in row)) else newest

-- once a stripe of a line has landed, which is one of its start record or another: of that line
-- this was the row before
abbrev pub note_landed : Bool → LineNote → LineNote
note_landed is_start row = if is_start then note_started row else row

abbrev pub newest_landed : Bool → LineNote → Option StartNote → Option StartNote
newest_landed is_start row newest = if is_start then newest_after (note_started row) newest else newest

-- A row tells that its line may be freed.

abbrev pub IsTakenBelow : ℕ → Option ℕ → Type 0
IsTakenBelow synced None = ⊤
IsTakenBelow synced (Some taker) = taker < synced

pub record IsSpentNote (row : LineNote) (newest : Option StartNote) (live : ℕ) (taker : Option ℕ) (synced : ℕ) : Type 0 where
  pub closed : row.closed ≡ true
  pub start : StartNote
  pub is_newest : newest ≡ Some start
  pub older : row.seq < start.seq
  pub below_front : row.top ≤ start.front
  pub none_live : live ≡ 0
  pub taken : IsTakenBelow synced taker

-- the sequence number of a line that is closed, older than the newest start record, and whose
-- positions end at that record's front or below it
abbrev pub outdated_seq : LineNote → Option StartNote → Option ℕ
outdated_seq row None = None
outdated_seq row (Some start) = if row.closed && (nat_lt row.seq start.seq && nat_le row.top start.front) then Some row.seq else None

-- By the logs.

abbrev pub closed_by : LineNote → Option ClosedLine
closed_by row = if row.closed then Some (record { seq = row.seq; top = row.top }) else None

abbrev pub numbers_in : StartNote → StartNumbers
numbers_in start = record { seq = start.seq; front = start.front }

-- the row of a line that is opened
pub record IsNoteOf (i : Image) (logs : Logs) (o : Opening) (row : LineNote) : Type 0 where
  pub seq : row.seq ≡ o.start.seq
  pub front : row.front ≡ o.start.front
  pub starts_left : row.starts_left ≡ starts_left i.shape (logs 0) o
  pub top : row.top ≡ answered_top i logs o

pub record AreNotes (i : Image) (logs : Logs) (notes : LineNotes) : Type 0 where
  pub count : length notes.rows.items ≡ i.shape.chunks
  pub opened : (line : ℕ) (o : Opening) (row : LineNote) → life_of (logs 0) line ≡ Opened o → slice_get notes.rows.items line ≡ Some row
      → IsNoteOf i logs o row
  pub closed : (line : ℕ) (row : LineNote) → slice_get notes.rows.items line ≡ Some row → closed_by row ≡ closed_line i logs line
  pub newest : option_map numbers_in notes.newest ≡ newest_numbers i logs
