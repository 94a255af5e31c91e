use Rattle.pblk_engine.specs.declared.outcomes.Role.TheVariants as roles
use Rattle.pblk_engine.proofs.Lanes.{HasGone}
use Rattle.pblk_collector.proofs.run_collector.Given as goal

abbrev pub invariant-loop : goal.invariant-loop
invariant-loop g l = HasGone roles.Collector l.fn.worker l.worker
