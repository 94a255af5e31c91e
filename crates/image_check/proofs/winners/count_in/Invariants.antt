use Rattle.std.proofs.Common.{◌≡◌, ◌==◌, filter, length, take}
use Rattle.image_check.proofs.winners.count_in.Given as goal

abbrev pub invariant-loop-win : goal.invariant-loop-win
invariant-loop-win l = l.count ≡ length (filter (λ w. w.line == l.line) (take l.win-index l.wins))
