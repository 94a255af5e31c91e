use Rattle.std.proofs.Common.{◌≡◌}
use Rattle.session_tests.proofs.roamers.RoamerWork.work.Given as goal

abbrev pub invariant-loop-turn : goal.invariant-loop-turn
invariant-loop-turn g l = l.session.worker.number ≡ l.fn.session.worker.number
