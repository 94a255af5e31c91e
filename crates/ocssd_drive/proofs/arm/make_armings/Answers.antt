use Rattle.ocssd_drive.proofs.Making.{AreOthers, keeper_placed, without_keeper, fits_below}
use Rattle.ocssd_drive.proofs.arm.make_armings.Goals as goal
use Rattle.ocssd_drive.proofs.arm.make_armings.Goals.{in-Some, in_default}

pub returns-clause-each : goal.returns-clause-each
returns-clause-each c =
    let plans = c.args.plans.now in
    let made : AreOthers plans c.in_ok-keeper.keeper c.args.units c.in_ok-armings.armings.items = record { count = c.in_ok-armings.ensures.count; each = c.in_ok-armings.ensures.each } in
    elim c.match-fuse.branch [
      | in-Some w ↦ rw (w.armings-is, c.in_ok-armings.ensures.keeper) (keeper_placed plans c.args.fuse w.in-Some.fuse c.in_ok-keeper.keeper c.args.units c.in_ok-armings.armings.items w.index_mut.result.now made c.in_ok-keeper.ensures w.in-Some.is (fits_below c.args.units c.args.fuse w.in-Some.fuse c.requires w.in-Some.is) w.index_mut.ensures.value)
      | in_default w ↦ rw w.armings-is (without_keeper plans c.args.fuse c.in_ok-keeper.keeper c.args.units c.in_ok-armings.armings.items made c.in_ok-keeper.ensures w.in_default.is)
    ]
