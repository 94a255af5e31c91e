use Rattle.std.proofs.Common.{ℕ, ◌≡◌, ◌+◌, List, length, take, ◌++◌}
use Rattle.stripe_placer.proofs.queue.copy_first.Given as goal

-- so many are copied
pub record Copies (old now items : List ℕ) (from index : ℕ) : Type 0 where
  pub copied : take (from + index) now ≡ take from old ++ take index items
  pub len : length now ≡ length old

abbrev pub invariant-loop-index : goal.invariant-loop-index
invariant-loop-index l = Copies l.fn.into l.into l.queue.items l.from l.index
