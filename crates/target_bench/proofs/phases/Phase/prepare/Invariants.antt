use Rattle.std.proofs.Common.{◌≡◌}
use Rattle.target_bench.proofs.phases.Phase.prepare.Given as goal

abbrev pub invariant-loop-index : goal.invariant-loop-index
invariant-loop-index g l = l.session.worker.number ≡ l.fn.session.worker.number
