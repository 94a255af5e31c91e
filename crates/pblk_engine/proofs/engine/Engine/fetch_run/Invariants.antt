use Rattle.pblk_engine.proofs.RunFetches.{IsFetchingRun}
use Rattle.pblk_engine.proofs.engine.Engine.fetch_run.Given as goal

abbrev pub invariant-loop-index : goal.invariant-loop-index
invariant-loop-index g l = IsFetchingRun g.M.Mount.past.image l.fn.worker.known l.lba l.look l.fn.worker l.worker l.index l.out
