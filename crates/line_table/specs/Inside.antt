-- What the fields of a table stand for, and what they keep.
use Rattle.std.specs.Prelude.{ℕ, ◌≡◌, ◌<◌, ◌≤◌, ◌^◌, List, length, slice_get, sum_by, Some}
use Rattle.pblk_model.specs.declared.shape.Shape.{Shape}
use Rattle.pblk_model.specs.Shape.{units}
use Rattle.line_table.specs.declared.row.Row.{Row}
use Rattle.line_table.specs.Rows.{Table, is_free_at, is_outlived_at, free_len}
use Rattle.line_table.specs.LineSets.{has}
use Rattle.line_table.specs.declared.lines.Lines.TheInside as inside

abbrev pub table : inside.Inside → Table
table t = record { shape = t.layout; rows = t.rows.items }

-- The rows are few and short, one set has the Free lines and the other those outlived, and the number is that of the Free
-- lines' data addresses.
pub record Keeps (s : Shape) (words over : List ℕ) (count : ℕ) (rows : List Row) : Type 0 where
  pub few : length rows ≤ 1024
  pub widths : (line : ℕ) (row : Row) → slice_get rows line ≡ Some row → row.width ≤ units s
  pub short : (line : ℕ) (row : Row) → slice_get rows line ≡ Some row → free_len s row < 2 ^ 32
  pub free : (line : ℕ) → has words line ≡ is_free_at rows line
  pub outlived : (line : ℕ) → has over line ≡ is_outlived_at rows line
  pub addresses : count ≡ sum_by (free_len s) rows

abbrev pub IsTable : inside.Inside → Type 0
IsTable t = Keeps t.layout t.free t.outlived t.free_addresses t.rows.items
