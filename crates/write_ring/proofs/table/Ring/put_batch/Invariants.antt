use Rattle.std.proofs.Common.{◌≡◌, length}
use Rattle.write_ring.specs.Handles.{ring_key}
use Rattle.write_ring.proofs.Puts.{Putting}
use Rattle.write_ring.proofs.table.Ring.put_batch.Given as goal

abbrev pub invariant-loop-draft : goal.invariant-loop-draft
invariant-loop-draft l = (l.seat.table_id ≡ l.fn.seat.table_id)
    × Putting l.class (ring_key l.self) l.fn.seat.me.0 l.first l.fn.batch l.seat.me l.at l.batch

abbrev pub decreases-loop-draft : goal.decreases-loop-draft
decreases-loop-draft l = length l.batch.drafts
