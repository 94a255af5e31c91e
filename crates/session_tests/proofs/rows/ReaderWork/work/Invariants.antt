use Rattle.std.proofs.Common.{◌≡◌}
use Rattle.session_tests.proofs.rows.ReaderWork.work.Given as goal

abbrev pub invariant-loop-row : goal.invariant-loop-row
invariant-loop-row g l = l.session.worker.number ≡ l.fn.session.worker.number
