use Rattle.pblk_engine.specs.declared.outcomes.Role.TheVariants as roles
use Rattle.pblk_engine.proofs.Lanes.{HasGone}
use Rattle.pblk_flusher.proofs.run_lane.Given as goal

abbrev pub invariant-loop : goal.invariant-loop
invariant-loop g l = HasGone roles.Lane l.fn.worker l.worker
