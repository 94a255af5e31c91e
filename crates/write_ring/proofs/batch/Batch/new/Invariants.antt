use Rattle.std.proofs.Common.{◌≡◌, ◌+◌, []}
use Rattle.pblk_model.specs.Frames.{count_left, count_out}
use Rattle.write_ring.proofs.batch.Batch.new.Given as goal

-- so many frames have come from the pool
abbrev pub invariant-loop-number : goal.invariant-loop-number
invariant-loop-number l =
    (l.batch.drafts ≡ []) × (l.batch.count ≡ l.count) × (l.batch.free ≡ l._number) × (l.batch.region ≡ l.fn.pool.region) × (l.pool.region ≡ l.fn.pool.region)
    × (count_left l.fn.pool.left ≡ count_left l.pool.left + l._number) × (count_out l.pool.left ≡ count_out l.fn.pool.left + l._number)
