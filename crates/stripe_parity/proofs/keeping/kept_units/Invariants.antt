use Rattle.std.proofs.Common.{◌≡◌, map, take}
use Rattle.scan_recovery.specs.Units.{image_of}
use Rattle.stripe_parity.specs.ParityFile.{kept_chunks}
use Rattle.stripe_parity.proofs.keeping.kept_units.Given as goal

abbrev pub invariant-loop-unit : goal.invariant-loop-unit
invariant-loop-unit g l = map (λ of. of.items) l.kept.items ≡ kept_chunks (image_of l.shape (map g.U.Unit.model (take l.unit-index l.units)))
