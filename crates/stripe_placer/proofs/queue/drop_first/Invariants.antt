use Rattle.std.proofs.Common.{ℕ, ◌≡◌, ◌-◌, ◌≤◌, List, length, drop, min}
use Rattle.std.specs.VecDeque.{deque_capacity}
use Rattle.stripe_placer.proofs.queue.drop_first.Given as goal

-- so many are still to be taken out
pub record Drops (old now : List ℕ) (count left capacity was : ℕ) : Type 0 where
  pub items : now ≡ drop (min count (length old) - left) old
  pub few : left ≤ min count (length old)
  pub capacity_is : capacity ≡ was

abbrev pub invariant-loop-left : goal.invariant-loop-left
invariant-loop-left l = Drops l.fn.queue.items l.queue.items l.count l.left (deque_capacity l.queue) (deque_capacity l.fn.queue)

abbrev pub decreases-loop-left : goal.decreases-loop-left
decreases-loop-left l = l.left
