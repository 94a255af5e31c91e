use Rattle.std.proofs.Common.{◌≡◌, ◌≤◌, ◌<◌, take, drop, length}
use Rattle.line_table.specs.declared.row.Row.{Row}
use Rattle.line_table.specs.Rows.{IsRow}
use Rattle.pblk_core.specs.Losing.{live_among, lowered_lines}
use Rattle.pblk_core.proofs.filling.lower_lines.Given as goal

abbrev pub invariant-loop-index : goal.invariant-loop-index
invariant-loop-index l = record {
  lines : l.lines ≡ lowered_lines l.holds.rows.items l.line l.initial.lines (take l.index l.positions);
  inside : l.line < length l.lines.rows;
  some : (row : Row) → IsRow l.lines l.line row → live_among l.holds.rows.items (drop l.index l.positions) ≤ row.live;
}
