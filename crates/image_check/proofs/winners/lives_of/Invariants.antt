use Rattle.std.proofs.Common.{◌≡◌, map, take}
use Rattle.image_check.specs.Right.{live_in}
use Rattle.image_check.proofs.winners.lives_of.Given as goal

abbrev pub invariant-loop-entry : goal.invariant-loop-entry
invariant-loop-entry l = l.lives.items ≡ map (live_in l.wins) (take l.entry-index l.lines)
