use Rattle.std.proofs.Common.{◌≡◌, ◌≤◌, ◌*◌, ◌++◌, length, drop}
use Rattle.scan_recovery.specs.Packed.{packed, written_count}
use Rattle.scan_recovery.proofs.line_buffer.blocks_in.Given as goal

abbrev pub invariant-loop-mark : goal.invariant-loop-mark
invariant-loop-mark l = record {
  blocks : l.blocks.items ++ packed l.size l.rest (drop l.mark-index l.marks) ≡ packed l.size l.bytes l.marks;
  within : written_count (drop l.mark-index l.marks) * l.size ≤ length l.rest;
}
