use Rattle.std.proofs.Common.{◌≡◌, ◌++◌, map, take, drop}
use Rattle.stripe_placer.specs.OpenLines.{in_line}
use Rattle.plain_placer.specs.Fates.{stripe_of}
use Rattle.plain_placer.proofs.placer.turn.Given as goal

abbrev pub invariant-loop-index : goal.invariant-loop-index
invariant-loop-index l = l.lines ≡ map (in_line l.line l.stripe (stripe_of l.to)) (take l.index l.fn.lines) ++ drop l.index l.fn.lines
