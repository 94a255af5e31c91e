use Rattle.std.proofs.Common.{ℕ, ◌<◌}
use Rattle.stripe_parity.proofs.Differences.{IsSameAt}
use Rattle.stripe_parity.proofs.differing.unit_difference.Given as goal

abbrev pub invariant-loop-chunk : goal.invariant-loop-chunk
invariant-loop-chunk g l = (c : ℕ) → c < l.chunk → IsSameAt l.kept (g.U.Unit.model l.unit).media c
