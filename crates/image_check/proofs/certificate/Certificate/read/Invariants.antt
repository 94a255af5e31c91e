use Rattle.std.proofs.Common.{◌≡◌, ◌++◌, ◌+◌, ◌-◌, ◌^◌, List, length, min}
use Rattle.image_check.specs.declared.said.Said.{Said}
use Rattle.image_check.specs.Text.{HasRead, spelled}
use Rattle.image_check.proofs.certificate.Certificate.read.Given as goal

abbrev pub invariant-loop-line : goal.invariant-loop-line
invariant-loop-line l = (saids : List Said) × HasRead l.reader.certificate l.reader.last saids × (l.bytes ≡ spelled saids ++ l.rest)
    × (l.number ≡ min (length saids + 1) (2 ^ 32 - 1))

abbrev pub decreases-loop-line : goal.decreases-loop-line
decreases-loop-line l = length l.rest
