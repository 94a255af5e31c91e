use Rattle.std.proofs.Common.{ℕ, ◌≡◌, length, slice_get, Some}
use Rattle.line_table.specs.declared.row.Row.{Row}
use Rattle.line_table.specs.Counting.{IsOpened}
use Rattle.line_table.proofs.opening.uncounted_rows.Given as goal

abbrev pub invariant-loop-line : goal.invariant-loop-line
invariant-loop-line l = record {
  lines : length l.rows.items ≡ l.line;
  each : (line : ℕ) (row : Row) → slice_get l.rows.items line ≡ Some row → IsOpened l.layout l.found line row;
}
