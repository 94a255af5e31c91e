use Rattle.line_table.proofs.Counts.{CountedSoFar}
use Rattle.std.proofs.Common.{drop}
use Rattle.line_table.proofs.opening.count_live.Given as goal

abbrev pub invariant-loop-winner : goal.invariant-loop-winner
invariant-loop-winner l = CountedSoFar l.winners (drop l.winner-index l.winners) l.initial.rows l.rows
