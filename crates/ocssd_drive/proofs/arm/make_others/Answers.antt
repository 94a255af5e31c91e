use Rattle.std.proofs.Common.{refl, ap, ◌∙◌, arith}
use Rattle.ocssd_drive.specs.Drive.{other_seat_of}
use Rattle.ocssd_drive.proofs.Making.{none_made, one_made}
use Rattle.ocssd_drive.proofs.arm.make_others.Goals as goal

pub loop-unit-init : goal.loop-unit-init
loop-unit-init c = (refl, none_made c.args.plans.now c.args.keeper.now c.in_ok-armings.armings.items c.in_ok-armings.ensures.items)

pub returns-in_err-stop-clause-keeper : goal.returns-in_err-stop-clause-keeper
returns-in_err-stop-clause-keeper c = c.other_seat.ensures.keeper ∙ c.loop-unit.invariant.0

pub returns-in_err-make_arming-clause-keeper : goal.returns-in_err-make_arming-clause-keeper
returns-in_err-make_arming-clause-keeper c = c.other_seat.ensures.keeper ∙ c.loop-unit.invariant.0

pub returns-in_err-push-clause-keeper : goal.returns-in_err-push-clause-keeper
returns-in_err-push-clause-keeper c = c.other_seat.ensures.keeper ∙ c.loop-unit.invariant.0

pub loop-unit-preserved : goal.loop-unit-preserved
loop-unit-preserved c = (
  c.other_seat.ensures.keeper ∙ c.loop-unit.invariant.0,
  one_made c.args.plans.now c.args.keeper.now c.loop-unit.unit c.loop-unit.armings.items c.push.new.self.items c.in_ok-make_arming.field-0 c.loop-unit.invariant.1 c.in_ok-make_arming.ensures.0
      (c.in_ok-make_arming.ensures.1 ∙ c.in_ok-stop.ensures.seat ∙ ap other_seat_of c.loop-unit.invariant.0) c.in_ok-push.ensures.items,
)

pub returns-clause-keeper : goal.returns-clause-keeper
returns-clause-keeper c = c.loop-unit.invariant.0

pub returns-clause-count : goal.returns-clause-count
returns-clause-count c = c.loop-unit.invariant.1.count ∙ omega arith

pub returns-clause-each : goal.returns-clause-each
returns-clause-each c = c.loop-unit.invariant.1.each
