use Rattle.chronicle.specs.Prefixes.{AreLegalLogs}
use Rattle.pblk_engine.specs.Waits.{AsksUpTo}
use Rattle.block_target.proofs.Putting.{WaitedWell}
use Rattle.block_target.proofs.session.sync.Given as goal

abbrev pub invariant-loop : goal.invariant-loop
invariant-loop g l = WaitedWell l.fn.worker l.worker × AsksUpTo l.position l.fn.worker l.worker × AreLegalLogs g.M.Mount.past.image l.worker.known
