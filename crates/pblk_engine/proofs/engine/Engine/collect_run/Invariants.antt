use Rattle.std.proofs.Common.{◌≡◌}
use Rattle.pblk_engine.proofs.CopyRuns.{HasCopied}
use Rattle.pblk_engine.proofs.engine.Engine.collect_run.Given as goal

abbrev pub invariant-loop-copied : goal.invariant-loop-copied
invariant-loop-copied g l = HasCopied l.copied l.fn.worker l.worker × (l.worker.known ≡ l.heart.author.known)
