use Rattle.std.proofs.Common.{◌≡◌, ◌+◌, drop}
use Rattle.run_report.specs.Totals.{thread_total}
use Rattle.run_report.proofs.counts.count_in.Given as goal

abbrev pub invariant-loop-command : goal.invariant-loop-command
invariant-loop-command l = l.count + thread_total l.what (drop l.command-index l.commands) ≡ thread_total l.what l.commands
