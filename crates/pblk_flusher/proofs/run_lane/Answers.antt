use Rattle.pblk_engine.specs.declared.outcomes.Role.TheVariants as roles
use Rattle.pblk_engine.proofs.Lanes.{gone_then, lane_stopped}
use Rattle.pblk_flusher.proofs.run_lane.Goals as goal

pub returns-in-Err : goal.returns-in-Err
returns-in-Err g c = record {
  ran = lane_stopped c.args.closing.now g.M.Mount.past.image g.M.Mount.handed c.args.worker.now c.loop.worker c.pump.new.worker c.in-Err.field-0
      c.loop.invariant c.in-Err.ensures.pumped c.in-Err.ensures.made;
}

pub loop-preserved-in-Ok-Nothing : goal.loop-preserved-in-Ok-Nothing
loop-preserved-in-Ok-Nothing g c =
    gone_then roles.Lane g.M.Mount.past.image g.M.Mount.handed c.args.worker.now c.loop.worker c.pump.new.worker c.in-Ok-Nothing.field-0 c.loop.invariant
    c.in-Ok-Nothing.ensures.pumped c.in-Ok-Nothing.ensures.made

pub loop-preserved : goal.loop-preserved
loop-preserved g c =
    gone_then roles.Lane g.M.Mount.past.image g.M.Mount.handed c.args.worker.now c.loop.worker c.pump.new.worker c.in-Ok.field-0 c.loop.invariant
    c.in-Ok.ensures.pumped c.in-Ok.ensures.made
