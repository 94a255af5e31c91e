use Rattle.std.proofs.Common.{◌≡◌, ◌-◌, ◌++◌, Bool, List, length, replicate}
use Rattle.vector_io.specs.Status.{HasBits}
use Rattle.vector_io.proofs.status.with_bits.Given as goal

abbrev pub invariant-loop-at : goal.invariant-loop-at
invariant-loop-at l = (flags : List Bool) → length flags ≡ l.from → HasBits l.fn.bits flags → HasBits l.bits (flags ++ replicate (l.at - l.from) l.set)
