use Rattle.std.proofs.Common.{◌≡◌, ◌+◌, drop}
use Rattle.image_check.specs.Bearers.{first_wrong}
use Rattle.image_check.proofs.bearers.first_wrong.Given as goal

abbrev pub invariant-loop-place : goal.invariant-loop-place
invariant-loop-place l = first_wrong (l.front + l.place) l.last (drop l.place l.bears) (drop l.place l.seen) ≡ first_wrong l.front l.last l.bears l.seen
