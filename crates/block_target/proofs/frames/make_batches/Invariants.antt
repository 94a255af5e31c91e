use Rattle.std.proofs.Common.{◌≡◌, ◌+◌, ◌*◌, ◌≤◌, length, vec_capacity}
use Rattle.std.specs.List.{AllByRecursion}
use Rattle.pblk_model.specs.Frames.{count_left, count_out}
use Rattle.block_target.specs.MountFrames.{IsFreeIn}
use Rattle.block_target.proofs.frames.make_batches.Given as goal

-- so many batches were made
abbrev pub invariant-loop-number : goal.invariant-loop-number
invariant-loop-number l =
    AllByRecursion (IsFreeIn l.fn.pool.region 16) l.batches.items × (length l.batches.items ≡ l._number) × (l.count ≤ vec_capacity l.batches)
    × (l.pool.region ≡ l.fn.pool.region) × (count_left l.fn.pool.left ≡ count_left l.pool.left + 16 * l._number)
    × (count_out l.pool.left ≡ count_out l.fn.pool.left + 16 * l._number)
