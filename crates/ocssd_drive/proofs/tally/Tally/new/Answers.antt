use Rattle.std.proofs.Common.{◌∙◌, arith}
use Rattle.std.proofs.lemmas.List.{take_all}
use Rattle.ocssd_drive.proofs.TallySteps.{planned_more, tally_none}
use Rattle.ocssd_drive.proofs.tally.Tally.new.Goals as goal

pub loop-plan-preserved : goal.loop-plan-preserved
loop-plan-preserved c = record {
  falling = c.in_ok-add_fall.ensures.falling;
  cuts = λ m above. c.in_ok-add_fall.ensures.cuts m above ∙ rw (c.loop-plan.invariant.cuts m above) (planned_more c.args.plans.now c.loop-plan.plan-index _ c.args.unit c.args.kind m (omega arith));
}

pub returns : goal.returns
returns c = tally_none _ _ _ _ c.loop-plan.invariant.falling (λ m above.
    rw (take_all c.loop-plan.plan-index c.args.plans.now c.loop-plan-test.false) at (c.loop-plan.invariant.cuts m above))
