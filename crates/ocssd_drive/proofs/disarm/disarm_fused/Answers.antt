use Rattle.std.proofs.Common.{◌<◌, ℕ, sym, subst, arith}
use Rattle.std.proofs.lemmas.List.{length-set}
use Rattle.std.proofs.lemmas.Option.{slice_get_within}
use Rattle.ocssd_drive.specs.Journal.{SeatTells}
use Rattle.ocssd_drive.proofs.Fusing.{join_more, skip_first, word_there, fused_there, other_there, all_joined, all_joined_by_arms, stopped_by_fuse, fused_first, keeper_there}
use Rattle.ocssd_drive.proofs.disarm.disarm_fused.Goals as goal
use Rattle.ocssd_drive.proofs.disarm.disarm_fused.Goals.{then-i-at, else-i-at}

pub loop-i-init : goal.loop-i-init
loop-i-init c = fused_first c.args.units.now c.args.at c.in-Some.keeper c.index-units-at.result c.disarm.new.self c.requires.together c.requires.there
    c.index-units-at.is c.disarm.ensures.unit c.disarm.ensures.by_arms (subst (SeatTells _ _) c.in-Some.is c.disarm.ensures.seat)

pub join_unit-requires-clause-word : goal.join_unit-requires-clause-word
join_unit-requires-clause-word c =
    word_there c.args.units.now c.args.at c.loop-i.i c.in-Some.keeper c.loop-i.units c.loop-i.keeper c.index-units-i.result c.loop-i.invariant (omega arith)
    (omega arith)

pub join_unit-requires-clause-fused : goal.join_unit-requires-clause-fused
join_unit-requires-clause-fused c =
    fused_there c.args.units.now c.args.at c.loop-i.i c.in-Some.keeper c.loop-i.units c.loop-i.keeper c.index-units-i.result c.loop-i.invariant (omega arith)
    (omega arith)

pub join_unit-requires-clause-other : goal.join_unit-requires-clause-other
join_unit-requires-clause-other c =
    other_there c.args.units.now c.args.at c.loop-i.i c.in-Some.keeper c.loop-i.units c.loop-i.keeper c.index-units-i.result c.loop-i.invariant (omega arith)
    (omega arith)

pub loop-i-preserved : goal.loop-i-preserved
loop-i-preserved c = elim c.if-i-at.branch [
  | then-i-at w ↦ rw (w.units-is, w.keeper-is)
      (join_more c.args.units.now c.args.at c.loop-i.i c.in-Some.keeper c.loop-i.units c.loop-i.keeper w.join_unit.new.keeper w.index-units-i.result
      w.join_unit.new.unit c.loop-i.invariant (omega arith)
      (omega arith) w.join_unit.ensures.unit w.join_unit.ensures.by_arms w.join_unit.ensures.keeper w.join_unit.ensures.stopped)
  | else-i-at w ↦ rw (w.units-is, w.keeper-is)
      (skip_first c.args.units.now c.args.at c.loop-i.i c.in-Some.keeper c.loop-i.units c.loop-i.keeper (omega arith) c.loop-i.invariant)
]

pub returns-clause-units : goal.returns-clause-units
returns-clause-units c = all_joined c.args.units.now c.args.at c.loop-i.i c.in-Some.keeper c.loop-i.units c.loop-i.keeper c.loop-i.invariant
    (omega (arith, length-set c.args.units.now c.args.at c.disarm.new.self))

pub returns-clause-stopped : goal.returns-clause-stopped
returns-clause-stopped c = stopped_by_fuse c.args.units.now c.args.at c.loop-i.i c.in-Some.keeper c.loop-i.units c.loop-i.keeper c.load.result
    c.loop-i.invariant (omega (arith, length-set c.args.units.now c.args.at c.disarm.new.self)) c.load.ensures.found c.load.ensures.fell

pub returns-clause-by_arms : goal.returns-clause-by_arms
returns-clause-by_arms c = all_joined_by_arms c.args.units.now c.args.at c.loop-i.i c.in-Some.keeper c.loop-i.units c.loop-i.keeper c.loop-i.invariant
    (omega (arith, length-set c.args.units.now c.args.at c.disarm.new.self))

pub bounds-units-at : goal.bounds-units-at
bounds-units-at c = slice_get_within c.args.units.now c.args.at c.requires.there.0 c.requires.there.1

pub unreachable-requires : goal.unreachable-requires
unreachable-requires c = keeper_there c.args.units.now c.args.at c.index-units-at.result c.disarm.result c.requires.there c.in_default.is c.disarm.ensures.seat

pub bounds-units-i : goal.bounds-units-i
bounds-units-i c = subst (λ (n : ℕ). c.loop-i.i < n) (sym c.loop-i.auto.units) c.loop-i-test.true
