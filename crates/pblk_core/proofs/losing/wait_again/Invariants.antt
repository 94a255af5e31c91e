use Rattle.std.proofs.Common.{◌≡◌, take}
use Rattle.pblk_core.specs.Losing.{all_wait, positions_of_marks}
use Rattle.pblk_core.proofs.losing.wait_again.Given as goal

abbrev pub invariant-loop-index : goal.invariant-loop-index
invariant-loop-index l = record {
  placer : l.placer ≡ all_wait l.initial.placer (positions_of_marks l.shape (take l.index l.marks));
}
