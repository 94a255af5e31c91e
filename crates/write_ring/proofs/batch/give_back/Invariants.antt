use Rattle.std.proofs.Common.{◌≡◌, ◌+◌, length}
use Rattle.pblk_model.specs.Frames.{count_left, count_out}
use Rattle.write_ring.specs.Batches.{AreOwn}
use Rattle.write_ring.proofs.batch.give_back.Given as goal

-- the frames that aren't back yet are the pool's
abbrev pub invariant-loop-frame : goal.invariant-loop-frame
invariant-loop-frame l =
    AreOwn l.pool.region l.frames.items × (l.pool.region ≡ l.fn.pool.region)
    × (count_left l.pool.left + length l.frames.items ≡ count_left l.fn.pool.left + length l.fn.frames.items)
    × (count_out l.pool.left + length l.fn.frames.items ≡ count_out l.fn.pool.left + length l.frames.items)

abbrev pub decreases-loop-frame : goal.decreases-loop-frame
decreases-loop-frame l = length l.frames.items
