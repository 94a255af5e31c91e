use Rattle.std.proofs.Common.{map}
use Rattle.scan_recovery.specs.Units.{image_of}
use Rattle.stripe_parity.proofs.Differences.{AreAsKeptBefore}
use Rattle.stripe_parity.proofs.differing.first_difference.Given as goal

abbrev pub invariant-loop-unit : goal.invariant-loop-unit
invariant-loop-unit g l = AreAsKeptBefore (map (λ of. of.items) l.kept) (image_of l.shape (map g.U.Unit.model l.units)) l.lost l.unit
