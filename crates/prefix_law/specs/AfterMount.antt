-- An image after a mount, beside the one that the mount found: what may stand in its lines.
use Rattle.std.specs.Prelude.{ℕ, ◌+◌, ◌<◌, ◌≤◌, ◌≡◌, ◌⊎◌, List, length, Option, Some, None}
use Rattle.std.specs.List.{Contains, filter_map, range_with_len}
use Rattle.pblk_model.specs.Image.{Image}
use Rattle.pblk_model.specs.StartRecord.{Row, StartRecord, start_of}
use Rattle.pblk_model.specs.Records.{Record, line_records, records}
use Rattle.pblk_model.specs.Contents.{IsHead, Bears, head, end, counted, winner}
use Rattle.pblk_world.specs.Lines.{next_seq}
use Rattle.pblk_world.specs.Starts.{bound_by}
use Rattle.prefix_law.specs.Assembled.{Given, Entries, IsEntry, IsEntryOf, IsLastOf}

-- the row that a line with a start record has in those of the next mount
abbrev pub start_row : Image → ℕ → Option StartRecord → Option Row
start_row found line None = None
start_row found line (Some start) = Some (record { line = line; seq = start.seq; bound = bound_by (head found) (end found) line start.seq })

abbrev pub start_rows : Image → List Row
start_rows found = filter_map (λ line. start_row found line (start_of found line)) (range_with_len 0 found.shape.chunks)

-- A line has the start record that was found in it, and no record that wasn't.
pub record IsOldLine (found now : Image) (line : ℕ) (r : StartRecord) : Type 0 where
  pub start : start_of found line ≡ Some r
  pub bears : (x : Record) → Contains (line_records now line) x → Contains (line_records found line) x

-- A start record of the next mount, made when the positions up to its front had landed. It may lack
-- rows: of lines that the mount had freed.
pub record IsNewStart (found : Image) (front : ℕ) (r : StartRecord) : Type 0 where
  pub first_seq : r.first_seq ≡ next_seq (head found)
  pub seq : next_seq (head found) ≤ r.seq
  pub from : end found ≤ r.front
  pub within : r.front ≤ front
  pub rows : (row : Row) → Contains r.rows row → Contains (start_rows found) row

-- A line has such a start record, and each of its records is of an entry.
pub record IsNewLine (found now : Image) (es : Entries) (front line : ℕ) (r : StartRecord) : Type 0 where
  pub start : IsNewStart found front r
  pub bears : (x : Record) → Contains (line_records now line) x
      → (g : Given) × IsEntry es x.position g × (x.lba ≡ g.lba) × (x.sector ≡ g.sector)

-- The second image is the found one after a mount that took these entries, of which those below the
-- front have landed. Each line with a start record is an old one or a new one.
pub record IsAfterMount (found now : Image) (es : Entries) (front : ℕ) : Type 0 where
  pub shape : now.shape ≡ found.shape
  -- the entries have the positions from the end on that was found
  pub first : es.first ≡ end found
  pub from : es.first ≤ front
  pub within : front ≤ es.first + length es.given
  pub lines : (line : ℕ) (r : StartRecord) → line < now.shape.chunks → start_of now line ≡ Some r
      → IsOldLine found now line r ⊎ IsNewLine found now es front line r

-- a record of a new line bears the position
pub record IsBorneAnew (found now : Image) (p : ℕ) (x : Record) : Type 0 where
  pub there : Contains (records now) x
  pub seq : next_seq (head found) ≤ x.seq
  pub position : x.position ≡ p

-- the record is there, and each row that was due to its line is one of the start record's
pub record StandsUnder (found now : Image) (h : StartRecord) (x : Record) : Type 0 where
  pub there : Contains (records now) x
  pub rows : (row : Row) → Contains (start_rows found) row → row.line ≡ x.line → Contains h.rows row

-- The head is a start record of the mount.
pub record HasNewHead (found now : Image) (es : Entries) (front : ℕ) (h : StartRecord) : Type 0 where
  pub head : head now ≡ Some h
  pub start : IsNewStart found front h
  -- each position from its front up to the front is borne anew, and so is the last entry of each
  -- sector
  pub borne : (p : ℕ) → h.front ≤ p → p < front → (x : Record) × IsBorneAnew found now p x
  pub kept : (lba p : ℕ) → IsLastOf es lba front p → (x : Record) × IsBorneAnew found now p x
  -- where a sector has no entry below the front, its winner of before stands
  pub under : (lba : ℕ) (x : Record) → winner (counted found) lba ≡ Some x → ((p : ℕ) → IsEntryOf es lba p → p < front → ⊥)
      → StandsUnder found now h x

-- The second image is the first without some of its records.
pub record IsReduced (found now : Image) : Type 0 where
  pub shape : now.shape ≡ found.shape
  pub lines : (line : ℕ) (r : StartRecord) → line < now.shape.chunks → start_of now line ≡ Some r → IsOldLine found now line r
  -- the head stands
  pub head_stands : (line : ℕ) (h : StartRecord) → IsHead found line h → start_of now line ≡ Some h
  -- each position from its front up to the end is still borne, and the winner of each sector is
  -- there
  pub borne : (h : StartRecord) (p : ℕ) → head found ≡ Some h → h.front ≤ p → p < end found
      → (x : Record) × Contains (records now) x × Bears h p x
  pub kept : (lba : ℕ) (x : Record) → winner (counted found) lba ≡ Some x → Contains (records now) x
