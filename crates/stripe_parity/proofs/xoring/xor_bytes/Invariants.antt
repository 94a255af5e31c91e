use Rattle.std.proofs.Common.{◌≡◌}
use Rattle.stripe_parity.proofs.XorLaws.{mixed}
use Rattle.stripe_parity.proofs.xoring.xor_bytes.Given as goal

-- the first ones are done, and the others are as they were
abbrev pub invariant-loop-i : goal.invariant-loop-i
invariant-loop-i l = l.out ≡ mixed l.i l.fn.out l.with
