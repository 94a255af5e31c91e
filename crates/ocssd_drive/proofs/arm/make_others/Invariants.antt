use Rattle.std.proofs.Common.{◌≡◌}
use Rattle.ocssd_drive.proofs.Making.{AreOthers}
use Rattle.ocssd_drive.proofs.arm.make_others.Given as goal

abbrev pub invariant-loop-unit : goal.invariant-loop-unit
invariant-loop-unit l = (l.keeper ≡ l.fn.keeper) × AreOthers l.plans l.fn.keeper l.unit l.armings.items
