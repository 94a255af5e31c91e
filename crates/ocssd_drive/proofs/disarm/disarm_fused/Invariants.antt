use Rattle.ocssd_drive.proofs.Fusing.{IsJoining}
use Rattle.ocssd_drive.proofs.disarm.disarm_fused.Given as goal

abbrev pub invariant-loop-i : goal.invariant-loop-i
invariant-loop-i l = IsJoining l.fn.units l.fn.at l.i l.initial.keeper l.units l.keeper
