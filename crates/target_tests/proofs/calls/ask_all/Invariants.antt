use Rattle.std.proofs.Common.{◌≡◌}
use Rattle.target_tests.proofs.calls.ask_all.Given as goal

abbrev pub invariant-loop-row : goal.invariant-loop-row
invariant-loop-row g l = l.session.worker.number ≡ 0
