use Rattle.std.proofs.Common.{◌≡◌, ◌++◌, drop}
use Rattle.run_report.specs.Rows.{rows_from}
use Rattle.run_report.proofs.rows.add_threads.Given as goal

abbrev pub invariant-loop-thread : goal.invariant-loop-thread
invariant-loop-thread l =
    l.rows.items ++ rows_from l.thread (drop l.thread l.script) (drop l.thread l.threads)
    ≡ l.initial.rows.items ++ rows_from 0 l.script l.threads
