use Rattle.std.proofs.Common.{◌≡◌, ◌+◌, ◌-◌, ◌<◌, ◌^◌, take, length}
use Rattle.line_table.specs.declared.row.Row.{Row}
use Rattle.line_table.specs.Rows.{IsRow}
use Rattle.pblk_core.specs.Entries.{placed_lines}
use Rattle.pblk_core.proofs.filling.settle_lines.Given as goal

abbrev pub invariant-loop-index : goal.invariant-loop-index
invariant-loop-index l = record {
  lines : l.lines ≡ placed_lines l.holds.rows.items l.line l.initial.lines (take l.index l.positions);
  inside : l.line < length l.lines.rows;
  room : (row : Row) → IsRow l.lines l.line row → row.live + (length l.positions - l.index) < 2 ^ 32;
}
