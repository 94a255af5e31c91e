use Rattle.std.proofs.Common.{drop}
use Rattle.run_report.specs.Recorded.{IsThread}
use Rattle.text_tests.proofs.report.fitting.is_thread.Given as goal

abbrev pub invariant-loop-index : goal.invariant-loop-index
invariant-loop-index l = IsThread (drop l.index l.commands) (drop l.index l.answers) → IsThread l.commands l.answers
