use Rattle.std.proofs.Common.{◌≡◌, drop}
use Rattle.run_report.specs.Rows.{has_placed}
use Rattle.run_report.proofs.history.has_history.Given as goal

abbrev pub invariant-loop-answers : goal.invariant-loop-answers
invariant-loop-answers l = has_placed (drop l.answers-index l.records.threads) ≡ has_placed l.records.threads
