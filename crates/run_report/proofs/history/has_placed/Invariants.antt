use Rattle.std.proofs.Common.{◌≡◌, drop}
use Rattle.std.specs.List.{list_any}
use Rattle.run_report.specs.Rows.{is_placed}
use Rattle.run_report.proofs.history.has_placed.Given as goal

abbrev pub invariant-loop-answer : goal.invariant-loop-answer
invariant-loop-answer l = list_any is_placed (drop l.answer-index l.answers) ≡ list_any is_placed l.answers
