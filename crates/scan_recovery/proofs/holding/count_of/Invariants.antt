use Rattle.scan_recovery.specs.Survey.{IsCountTo}
use Rattle.scan_recovery.proofs.holding.count_of.Given as goal

abbrev pub invariant-loop-line : goal.invariant-loop-line
invariant-loop-line l = IsCountTo l.media l.line l.count
