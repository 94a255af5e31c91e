use Rattle.stripe_parity.specs.ParityBytes.{IsUnitPart}
use Rattle.stripe_parity.proofs.reading.read_unit.Given as goal

abbrev pub invariant-loop-chunk : goal.invariant-loop-chunk
invariant-loop-chunk l = IsUnitPart l.shape l.bytes l.unit l.chunk l.kept.items
