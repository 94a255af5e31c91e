use Rattle.std.proofs.Common.{◌≡◌, ◌≤◌, take}
use Rattle.pblk_core.specs.Landing.{new_count}
use Rattle.pblk_core.proofs.stripes.count_new.Given as goal

abbrev pub invariant-loop-index : goal.invariant-loop-index
invariant-loop-index l = record {
  so_far : l.count ≡ new_count l.front (take l.index l.positions);
  few : l.count ≤ l.index;
}
