use Rattle.std.proofs.Common.{map}
use Rattle.stripe_parity.specs.ParityBytes.{AreUnitParts}
use Rattle.stripe_parity.proofs.reading.read_units.Given as goal

abbrev pub invariant-loop-unit : goal.invariant-loop-unit
invariant-loop-unit l = AreUnitParts l.shape l.bytes l.unit (map (λ of. of.items) l.kept.items)
