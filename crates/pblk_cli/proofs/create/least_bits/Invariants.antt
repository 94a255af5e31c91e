use Rattle.std.proofs.Common.{◌≡◌}
use Rattle.pblk_cli.proofs.Bits.{below}
use Rattle.pblk_cli.proofs.create.least_bits.Given as goal

abbrev pub invariant-loop-power : goal.invariant-loop-power
invariant-loop-power l = l.bits ≡ below l.count l.power
