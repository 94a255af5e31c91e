use Rattle.std.proofs.Common.{◌≡◌}
use Rattle.session_tests.proofs.lists.ListerWork.work.Given as goal

abbrev pub invariant-loop-lba : goal.invariant-loop-lba
invariant-loop-lba g l = l.session.worker.number ≡ l.fn.session.worker.number
