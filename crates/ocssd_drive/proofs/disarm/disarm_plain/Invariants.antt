use Rattle.std.proofs.Common.{nat_lt}
use Rattle.ocssd_drive.proofs.Disarming.{IsDisarming}
use Rattle.ocssd_drive.proofs.disarm.disarm_plain.Given as goal

abbrev pub invariant-loop-unit : goal.invariant-loop-unit
invariant-loop-unit l = IsDisarming l.fn.units (λ j. nat_lt j l.unit-index) l.unit-items
