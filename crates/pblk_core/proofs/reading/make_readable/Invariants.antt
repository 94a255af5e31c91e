use Rattle.std.proofs.Common.{◌≡◌, ◌<◌}
use Rattle.std.specs.FinMap as fin
use Rattle.pblk_core.specs.Readable.{reads_of, all_moved, all_readable}
use Rattle.pblk_core.proofs.reading.make_readable.Given as goal

abbrev pub invariant-loop-block : goal.invariant-loop-block
invariant-loop-block l = record {
  window : l.window ≡ all_readable l.fn.window (reads_of l.slot l.unit l.from l.block);
  map : l.map ≡ all_moved l.layout.capacity l.slot.records.line l.fn.map (reads_of l.slot l.unit l.from l.block);
  capacity : fin.len l.map ≡ fin.len l.fn.map;
  past : l.to < l.from → l.block ≡ l.from;
}
