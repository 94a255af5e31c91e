use Rattle.std.proofs.Common.{◌≡◌, ◌+◌, ◌*◌, length}
use Rattle.std.specs.List.{AllByRecursion}
use Rattle.pblk_model.specs.Frames.{count_out}
use Rattle.block_target.specs.MountFrames.{IsFreeIn}
use Rattle.block_target.proofs.frames.close_batches.Given as goal

-- the batches that are left are of the pool's frames
abbrev pub invariant-loop-batch : goal.invariant-loop-batch
invariant-loop-batch l =
    AllByRecursion (IsFreeIn l.fn.pool.region 16) l.batches.items × (l.pool.region ≡ l.fn.pool.region)
    × (count_out l.pool.left + 16 * length l.fn.batches.items ≡ count_out l.fn.pool.left + 16 * length l.batches.items)

abbrev pub decreases-loop-batch : goal.decreases-loop-batch
decreases-loop-batch l = length l.batches.items
