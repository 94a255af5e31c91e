use Rattle.std.proofs.Common.{drop}
use Rattle.run_report.specs.Recorded.{AreThreads}
use Rattle.text_tests.proofs.report.fitting.are_threads.Given as goal

abbrev pub invariant-loop-thread : goal.invariant-loop-thread
invariant-loop-thread l = AreThreads (drop l.thread l.script) (drop l.thread l.threads) → AreThreads l.script l.threads
