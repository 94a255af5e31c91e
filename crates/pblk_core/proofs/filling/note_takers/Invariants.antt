use Rattle.std.proofs.Common.{◌≡◌, ◌<◌, take, length}
use Rattle.pblk_core.specs.Entries.{noted_lines}
use Rattle.pblk_core.proofs.filling.note_takers.Given as goal

abbrev pub invariant-loop-index : goal.invariant-loop-index
invariant-loop-index l = record {
  lines : l.lines ≡ noted_lines l.holds.rows.items l.line l.initial.lines (take l.index l.positions);
  inside : l.line < length l.lines.rows;
}
