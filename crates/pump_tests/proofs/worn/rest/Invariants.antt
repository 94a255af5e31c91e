use Rattle.std.proofs.Common.{◌≡◌}
use Rattle.pump_tests.proofs.worn.rest.Given as goal

abbrev pub invariant-loop-pump : goal.invariant-loop-pump
invariant-loop-pump g l = l.worker.number ≡ l.fn.worker.number
