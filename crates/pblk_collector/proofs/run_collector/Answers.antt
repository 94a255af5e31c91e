use Rattle.pblk_engine.proofs.Lanes.{collector_stopped, gone_copied, gone_failed}
use Rattle.pblk_collector.proofs.run_collector.Goals as goal

pub loop-preserved-in-Ok-Copied : goal.loop-preserved-in-Ok-Copied
loop-preserved-in-Ok-Copied g c =
    gone_copied g.M.Mount.handed c.args.worker.now c.loop.worker c.collect.new.worker c.in-Ok-Copied.field-0 c.loop.invariant
    c.in-Ok-Copied.ensures.collected

pub loop-preserved-in-Ok : goal.loop-preserved-in-Ok
loop-preserved-in-Ok g c =
    gone_copied g.M.Mount.handed c.args.worker.now c.loop.worker c.collect.new.worker c.in-Ok.field-0 c.loop.invariant c.in-Ok.ensures.collected

pub loop-preserved : goal.loop-preserved
loop-preserved g c =
    gone_failed g.M.Mount.handed c.args.worker.now c.loop.worker c.collect.new.worker c.in-Err.e c.loop.invariant c.in-Err.ensures.collected
    c.in-Failed.is

pub returns-in-Stopped : goal.returns-in-Stopped
returns-in-Stopped g c = record {
  ran = collector_stopped c.args.closing.now g.M.Mount.handed c.args.worker.now c.loop.worker c.collect.new.worker c.in-Err.e c.loop.invariant
      c.in-Err.ensures.collected c.in-Stopped.is;
}
