use Rattle.scan_recovery.specs.Starts.{IsStarts}
use Rattle.scan_recovery.proofs.holding.starts_of.Given as goal

abbrev pub invariant-loop-line : goal.invariant-loop-line
invariant-loop-line l = IsStarts l.media l.line l.starts
