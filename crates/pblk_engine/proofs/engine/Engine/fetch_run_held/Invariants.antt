use Rattle.std.proofs.Common.{◌≡◌}
use Rattle.chronicle.specs.Prefixes.{AreLegalLogs, ArePrefixes, logs_of}
use Rattle.pblk_engine.proofs.RunFetches.{IsFetchingRun}
use Rattle.pblk_engine.proofs.engine.Engine.fetch_run_held.Given as goal

abbrev pub invariant-loop-index : goal.invariant-loop-index
invariant-loop-index g l =
    IsFetchingRun g.M.Mount.past.image l.fn.heart.author.known l.lba l.look l.fn.worker l.worker l.index l.out
    × ArePrefixes l.fn.heart.author.known l.heart.author.known × AreLegalLogs g.M.Mount.past.image l.heart.author.known
    × (logs_of l.heart.author.known 0 ≡ logs_of l.fn.heart.author.known 0)
