use Rattle.std.proofs.Common.{length}
use Rattle.ocssd_drive.proofs.Arming.{IsInstalling}
use Rattle.ocssd_drive.proofs.arm.install.Given as goal

abbrev pub invariant-loop-arming : goal.invariant-loop-arming
invariant-loop-arming l = IsInstalling l.plans l.fuse l.fn.armings.items l.armings.items l.fn.units l.units

abbrev pub decreases-loop-arming : goal.decreases-loop-arming
decreases-loop-arming l = length l.armings.items
