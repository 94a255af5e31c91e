use Rattle.std.proofs.Common.{◌≡◌, length, take}
use Rattle.pblk_core.specs.Landing.{all_landed}
use Rattle.pblk_core.proofs.stripes.land_entries.Given as goal

abbrev pub invariant-loop-index : goal.invariant-loop-index
invariant-loop-index l = record {
  so_far : l.window ≡ all_landed l.fn.window (take l.index l.positions);
  freed : l.window.freed ≡ l.fn.window.freed;
  as_many : length l.window.entries ≡ length l.fn.window.entries;
}
