use Rattle.std.proofs.Common.{◌≡◌, ◌++◌, ◌*◌, ◌≤◌, replicate, vec_capacity}
use Rattle.pblk_core.proofs.stripe.fill_zeros.Given as goal

abbrev pub invariant-loop-piece : goal.invariant-loop-piece
invariant-loop-piece l = record {
  items : l.list.items ≡ l.initial.list.items ++ replicate (l._piece * 4096) 0;
  room : vec_capacity l.initial.list ≤ vec_capacity l.list;
}
