-- What the fields of a batch stand for, and what they keep.
use Rattle.std.specs.Prelude.{◌+◌, ◌<◌, ◌≤◌, ◌^◌, length}
use Rattle.std.specs.List.{AllByRecursion}
use Rattle.std.specs.VecDeque.{deque_capacity}
use Rattle.write_ring.specs.declared.batch.Batch.TheInside as inside
use Rattle.write_ring.specs.Batches.{BatchView, AreOwn, IsDraft}

abbrev pub batch_view : inside.Inside → BatchView
batch_view b = record { count = b.count; region = b.origin.region; drafts = b.filled.items; free = length b.free.items }

pub record IsBatch (b : inside.Inside) : Type 0 where
  pub few : length b.filled.items + length b.free.items ≤ b.count
  -- a count has 32 bits
  pub counted : b.count < 2 ^ 32
  -- neither list ever grows
  pub room_filled : b.count ≤ deque_capacity b.filled
  pub room_free : b.count ≤ deque_capacity b.free
  pub drafts : AllByRecursion (IsDraft b.origin.region) b.filled.items
  pub frames : AreOwn b.origin.region b.free.items
