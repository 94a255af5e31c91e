use Rattle.std.proofs.Common.{subst}
use Rattle.pblk_engine.specs.Reads.{HasLooked}
use Rattle.pblk_engine.specs.Workers.{WorkerView}
use Rattle.pblk_engine.proofs.engine.Engine.look.Goals as goal

pub returns-then-try_look-clause-looked : goal.returns-then-try_look-clause-looked
returns-then-try_look-clause-looked g c =
    subst (λ (w : WorkerView). HasLooked g.M.Mount.past w c.try_look.new.worker c.args.seen c.args.lba c.try_look.new.out c.try_look.new.look)
    c.loop.invariant (c.try_look.ensures.looked c.if-try_look.true)
