use Rattle.std.proofs.Common.{◌≡◌}
use Rattle.pump_tests.proofs.worn.turns.Given as goal

abbrev pub invariant-loop-turn : goal.invariant-loop-turn
invariant-loop-turn g l = (l.session.worker.number ≡ l.fn.session.worker.number) × (l.worker.number ≡ l.fn.worker.number)
