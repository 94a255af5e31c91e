use Rattle.std.proofs.Common.{◌≡◌, ◌+◌, drop}
use Rattle.run_report.specs.Totals.{total}
use Rattle.run_report.proofs.counts.count.Given as goal

abbrev pub invariant-loop-commands : goal.invariant-loop-commands
invariant-loop-commands l = l.count + total l.what (drop l.commands-index l.script) ≡ total l.what l.script
