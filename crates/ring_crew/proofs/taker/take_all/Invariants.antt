use Rattle.ring_crew.specs.Ready.{IsTaker}
use Rattle.ring_crew.proofs.taker.take_all.Given as goal

abbrev pub invariant-loop : goal.invariant-loop
invariant-loop g l = IsTaker l.ring l.intake l.job.size
