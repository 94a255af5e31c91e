use Rattle.std.proofs.Common.{◌+◌, ltb, arith}
use Rattle.std.proofs.lemmas.Bool.{lt-ltb, le-ltb}
use Rattle.ocssd_drive.proofs.Changing.{later}
use Rattle.ocssd_drive.proofs.Disarming.{none_done, one_more, all_done, all_by_arms}
use Rattle.ocssd_drive.proofs.disarm.disarm_plain.Goals as goal

pub loop-unit-init : goal.loop-unit-init
loop-unit-init c = none_done c.args.units.now (λ j. ltb j 0) (λ j. le-ltb j 0 (omega arith))

pub loop-unit-preserved : goal.loop-unit-preserved
loop-unit-preserved c = let i = c.loop-unit.unit-index in
    one_more c.args.units.now c.loop-unit.unit-items (λ j. ltb j i) (λ j. ltb j (i + 1)) i c.unit-item.result c.disarm.new.self c.loop-unit.invariant
    (omega arith) (le-ltb i i (omega arith)) (lt-ltb i (i + 1) (omega arith)) (λ j. later j i) c.disarm.ensures.unit c.disarm.ensures.by_arms

pub returns-clause-units : goal.returns-clause-units
returns-clause-units c = all_done c.args.units.now c.loop-unit.unit-items (λ j. ltb j c.loop-unit.unit-index) c.loop-unit.invariant
    (λ k within. lt-ltb k c.loop-unit.unit-index (omega arith))

pub returns-clause-by_arms : goal.returns-clause-by_arms
returns-clause-by_arms c = all_by_arms c.args.units.now c.loop-unit.unit-items (λ j. ltb j c.loop-unit.unit-index) c.loop-unit.invariant
    (λ k within. lt-ltb k c.loop-unit.unit-index (omega arith))
