use Rattle.std.proofs.Common.{ℕ, ◌≡◌, ◌<◌, ◌≤◌, ◌*◌, ◌^◌, take, sum_by, slice_get, Some}
use Rattle.line_table.specs.declared.row.Row.{Row}
use Rattle.line_table.specs.Rows.{free_len}
use Rattle.line_table.proofs.opening.count_free_addresses.Given as goal

abbrev pub invariant-loop-row : goal.invariant-loop-row
invariant-loop-row l = record {
  sum : l.addresses ≡ sum_by (free_len l.layout) (take l.row-index l.rows);
  below : l.addresses ≤ l.row-index * 2 ^ 32;
  short : (n : ℕ) (row : Row) → n < l.row-index → slice_get l.rows n ≡ Some row → free_len l.layout row < 2 ^ 32;
}
