-- What the contents of an image are assembled from: entries at positions, and an image under them.
use Rattle.std.specs.Prelude.{ℕ, ◌+◌, ◌-◌, ◌<◌, ◌≤◌, ◌≡◌, ◌==◌, ◌&&◌, nat_lt, ◌⊎◌, Bool, true, false, List, length, Option, Some, slice_get}
use Rattle.std.specs.List.{Contains, list_any}
use Rattle.pblk_model.specs.Bytes.{zeros}
use Rattle.pblk_model.specs.StartRecord.{StartRecord}
use Rattle.pblk_model.specs.Records.{Record, records}
use Rattle.pblk_model.specs.Contents.{head, Bears, IsNewer}
use Rattle.pblk_model.specs.Image.{Image}

-- what has a position: whose sector it holds, and none where the position was given up
pub record Given : Type 0 where
  pub lba : Option ℕ
  pub sector : List ℕ

-- the entries have the positions from `first` on
pub record Entries : Type 0 where
  pub first : ℕ
  pub given : List Given

-- this is the entry of a position
pub record IsEntry (es : Entries) (p : ℕ) (g : Given) : Type 0 where
  pub from : es.first ≤ p
  pub there : slice_get es.given (p - es.first) ≡ Some g

-- a position is an entry of the sector
pub record IsEntryOf (es : Entries) (lba p : ℕ) : Type 0 where
  pub given : Given
  pub entry : IsEntry es p given
  pub of_it : given.lba ≡ Some lba

-- it is the last entry of the sector below a position
pub record IsLastOf (es : Entries) (lba below p : ℕ) : Type 0 where
  pub entry : IsEntryOf es lba p
  pub under : p < below
  pub last : (q : ℕ) → IsEntryOf es lba q → q < below → q ≤ p

-- the record's line is one of an older mount
abbrev pub IsOld : StartRecord → Record → Type 0
IsOld h r = r.seq < h.first_seq

-- the head has a row for the record's line, and the record's position is below its bound
abbrev pub by_row : StartRecord → Record → Bool
by_row h r = list_any (λ row. (row.line == r.line) && (row.seq == r.seq) && nat_lt r.position row.bound) h.rows

-- an older record of the sector counts
pub record CountsOld (i : Image) (h : StartRecord) (lba : ℕ) (r : Record) : Type 0 where
  pub there : Contains (records i) r
  pub old : IsOld h r
  pub row : by_row h r ≡ true
  pub of_it : r.lba ≡ Some lba

-- it is the newest of those, and holds this sector
pub record IsUnder (i : Image) (h : StartRecord) (lba : ℕ) (held : List ℕ) (r : Record) : Type 0 where
  pub counts : CountsOld i h lba r
  pub sector : r.sector ≡ held
  pub newest : (other : Record) → CountsOld i h lba other → (other ≡ r) ⊎ IsNewer other r

-- what a sector holds under the entries
abbrev pub HoldsUnder : Image → StartRecord → ℕ → List ℕ → Type 0
HoldsUnder i h lba sector = ((r : Record) × IsUnder i h lba sector r)
    ⊎ (((r : Record) → ¬ CountsOld i h lba r) × (sector ≡ zeros i.shape.sector))

-- An image in which the entries below a front stand, with older records under them.
pub record IsAssembled (i : Image) (h : StartRecord) (es : Entries) (front : ℕ) (base : ℕ → List ℕ) : Type 0 where
  pub head : head i ≡ Some h
  -- the front is within the entries, and at the head's front or above it
  pub from : h.front ≤ front
  pub within : front ≤ es.first + length es.given
  -- each record of the head's mount is of an entry, and no row names its line
  pub young : (r : Record) → Contains (records i) r → h.first_seq ≤ r.seq
      → (g : Given) × IsEntry es r.position g × (r.lba ≡ g.lba) × (r.sector ≡ g.sector)
  pub rows : (r : Record) → Contains (records i) r → h.first_seq ≤ r.seq → by_row h r ≡ false
  -- older records that count are below all entries
  pub old : (r : Record) → Contains (records i) r → IsOld h r → by_row h r ≡ true → r.position < es.first
  -- from the head's front on each position below the front is borne
  pub borne : (p : ℕ) → h.front ≤ p → p < front → (r : Record) × Contains (records i) r × Bears h p r
  -- and so is the last entry of each sector below the front
  pub kept : (lba p : ℕ) → IsLastOf es lba front p → (r : Record) × Contains (records i) r × Bears h p r
  -- a sector without an entry below the front holds what is under the entries
  pub under : (lba : ℕ) → ((p : ℕ) → IsEntryOf es lba p → p < front → ⊥) → HoldsUnder i h lba (base lba)
