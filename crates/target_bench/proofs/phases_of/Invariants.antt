use Rattle.std.proofs.Common.{◌≡◌, length}
use Rattle.target_bench.proofs.phases_of.Given as goal

abbrev pub invariant-loop-number : goal.invariant-loop-number
invariant-loop-number g l = length l.phases.items ≡ l.number
