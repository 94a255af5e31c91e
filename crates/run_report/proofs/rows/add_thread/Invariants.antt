use Rattle.std.proofs.Common.{◌≡◌, ◌++◌, drop}
use Rattle.run_report.specs.Rows.{thread_rows}
use Rattle.run_report.proofs.rows.add_thread.Given as goal

abbrev pub invariant-loop-index : goal.invariant-loop-index
invariant-loop-index l =
    l.rows.items ++ thread_rows l.thread (drop l.index l.commands) (drop l.index l.answers)
    ≡ l.initial.rows.items ++ thread_rows l.thread l.commands l.answers
