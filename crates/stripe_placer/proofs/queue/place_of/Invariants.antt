use Rattle.std.proofs.Common.{ℕ, ◌<◌, ◌≤◌, List, length, get_or}
use Rattle.stripe_placer.proofs.queue.place_of.Given as goal

-- the position isn't above the one that stands at the index
pub record StandsBelow (xs : List ℕ) (i p : ℕ) : Type 0 where
  pub inside : i ≤ length xs
  pub above : i < length xs → p ≤ get_or xs i 0

abbrev pub invariant-loop-index : goal.invariant-loop-index
invariant-loop-index l = StandsBelow l.queue.items l.index l.position

abbrev pub decreases-loop-index : goal.decreases-loop-index
decreases-loop-index l = l.index
