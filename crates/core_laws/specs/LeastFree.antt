-- The line that is opened next, and its start record.
use Rattle.std.specs.Prelude.{ℕ, ◌+◌, ◌^◌, ◌<◌, ◌≡◌, true, false, length}
use Rattle.pblk_model.specs.Image.{Image}
use Rattle.pblk_model.specs.StartRecord.{StartRecord}
use Rattle.pblk_world.specs.World.{Logs}
use Rattle.pblk_world.specs.EngineLog.{Begun, openings}
use Rattle.pblk_world.specs.Fronts.{synced}
use Rattle.pblk_world.specs.Lines.{is_free_line}
use Rattle.pblk_world.specs.Starts.{older_rows}
use Rattle.line_table.specs.declared.row.Row.{Row}
use Rattle.line_table.specs.Rows.{IsRow}
use Rattle.core_laws.specs.RowsOf.{rows_of}

-- the line is Free, and no line before it is
pub record IsLeastFree (i : Image) (logs : Logs) (line : ℕ) : Type 0 where
  pub in_range : line < i.shape.chunks
  pub is_free : is_free_line i logs line ≡ true
  pub is_first : (other : ℕ) → other < line → is_free_line i logs other ≡ false

-- a start record of a line, with the width that the table has of it
pub record IsStartOf (i : Image) (logs : Logs) (begun : Begun) (line : ℕ) (start : StartRecord) : Type 0 where
  pub own_line : start.line ≡ line
  pub own_width : (row : Row) → IsRow (rows_of i logs) line row → start.width ≡ row.width
  pub capacity : start.capacity ≡ i.shape.capacity
  pub seq : start.seq ≡ begun.beginning.seq + length (openings (logs 0))
  pub first_seq : start.first_seq ≡ begun.beginning.seq
  pub front : start.front ≡ synced i.shape (logs 0)
  pub rows : start.rows ≡ older_rows i logs
  -- its numbers fit a start record
  pub seq_number : start.seq < 2 ^ 61
  pub front_number : start.front < 2 ^ 61
