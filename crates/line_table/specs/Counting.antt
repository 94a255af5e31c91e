-- Rows as they are made when a target opens: first without their live sectors, then with them.
use Rattle.std.specs.Prelude.{ℕ, ◌≡◌, ◌≤◌, List, length, slice_get, Some, None}
use Rattle.pblk_model.specs.declared.shape.Shape.{Shape}
use Rattle.pblk_model.specs.declared.found.Found.{Found}
use Rattle.pblk_model.specs.declared.found.LineRow.{LineRow}
use Rattle.pblk_model.specs.declared.found.Winner.{Winner}
use Rattle.pblk_model.specs.Shape.{units}
use Rattle.line_table.specs.declared.row.Row.{Row}
use Rattle.line_table.specs.Opening.{width_of, live_count, opening_state}

-- the row of a line without its live sectors
pub record IsOpened (s : Shape) (f : Found) (line : ℕ) (row : Row) : Type 0 where
  pub state : (l : LineRow) → slice_get f.lines line ≡ Some l → row.state ≡ opening_state s f line l
  pub width : row.width ≡ width_of s f line
  pub few : row.width ≤ units s
  pub live : row.live ≡ 0
  pub taker : row.taker ≡ None

pub record AreOpened (s : Shape) (f : Found) (rows : List Row) : Type 0 where
  pub lines : length rows ≡ length f.lines
  pub each : (line : ℕ) (row : Row) → slice_get rows line ≡ Some row → IsOpened s f line row

-- a row with so many live sectors, and nothing else changed
abbrev pub with_live : ℕ → Row → Row
with_live n row = record row { live = n }

pub record AreCounted (winners : List Winner) (old new : List Row) : Type 0 where
  pub lines : length new ≡ length old
  pub each : (line : ℕ) (row : Row) → slice_get old line ≡ Some row → slice_get new line ≡ Some (with_live (live_count winners line) row)

-- a line's row
pub record IsOpening (s : Shape) (f : Found) (line : ℕ) (row : Row) : Type 0 where
  pub state : (l : LineRow) → slice_get f.lines line ≡ Some l → row.state ≡ opening_state s f line l
  pub width : row.width ≡ width_of s f line
  pub few : row.width ≤ units s
  pub live : row.live ≡ live_count f.winners line
  pub taker : row.taker ≡ None

pub record AreOpening (s : Shape) (f : Found) (rows : List Row) : Type 0 where
  pub lines : length rows ≡ s.chunks
  pub few : length rows ≤ 1024
  pub each : (line : ℕ) (row : Row) → slice_get rows line ≡ Some row → IsOpening s f line row
