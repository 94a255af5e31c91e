use Rattle.std.specs.Prelude.{◌≡◌, ◌<◌, length}
use Rattle.victim_index.specs.Tournament.{AreWonBut}
use Rattle.victim_index.proofs.tournament.settle.Given as goal

abbrev pub invariant-loop-at : goal.invariant-loop-at
invariant-loop-at l = (l.at < length l.rows) × (length l.winners ≡ length l.rows) × AreWonBut l.rows l.winners l.at

abbrev pub decreases-loop-at : goal.decreases-loop-at
decreases-loop-at l = l.at
