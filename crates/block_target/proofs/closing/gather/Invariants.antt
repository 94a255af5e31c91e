use Rattle.std.proofs.Common.{◌≡◌, ◌+◌, ◌≤◌, ◌++◌, length, reverse, vec_capacity}
use Rattle.block_target.proofs.closing.gather.Given as goal

-- those behind the workers that are left were moved, the last of them first
abbrev pub invariant-loop-worker : goal.invariant-loop-worker
invariant-loop-worker g l =
    (l.fn.workers.items ≡ l.workers.items ++ reverse l.room.items) × (length l.room.items + length l.workers.items ≡ length l.fn.workers.items)
    × (vec_capacity l.fn.room ≤ vec_capacity l.room)

abbrev pub decreases-loop-worker : goal.decreases-loop-worker
decreases-loop-worker g l = length l.workers.items
