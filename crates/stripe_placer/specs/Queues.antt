-- What the fields of a queue of entries stand for, and what they keep.
use Rattle.std.specs.Prelude.{ℕ, ◌≤◌}
use Rattle.std.specs.VecDeque.{deque_capacity}
use Rattle.stripe_placer.specs.Entries.{Entries, Rises}
use Rattle.stripe_placer.specs.declared.queue.Queue.TheInside as inside

-- the entries, and for how many there is room
pub record QueueView : Type 0 where
  pub room : ℕ
  pub entries : Entries

abbrev pub queue : inside.Inside → QueueView
queue q = record { room = q.room; entries = record { lost = q.lost.items; fresh = q.fresh.items; pad = q.pad } }

pub record IsQueue (q : inside.Inside) : Type 0 where
  pub lost_rise : Rises q.lost.items
  pub fresh_rise : Rises q.fresh.items
  -- neither ring grows
  pub lost_room : q.room ≤ deque_capacity q.lost
  pub fresh_room : q.room ≤ deque_capacity q.fresh
