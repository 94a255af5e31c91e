use Rattle.std.proofs.Common.{◌≡◌, map, take}
use Rattle.stripe_parity.specs.ParityFile.{kept_of}
use Rattle.stripe_parity.proofs.keeping.kept_unit.Given as goal

abbrev pub invariant-loop-chunk : goal.invariant-loop-chunk
invariant-loop-chunk g l = l.kept.items ≡ map kept_of (take l.chunk (g.U.Unit.model l.unit).media)
