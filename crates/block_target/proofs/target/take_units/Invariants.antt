use Rattle.std.proofs.Common.{◌≡◌, ◌≤◌, ◌++◌, List, length, map, reverse, vec_capacity}
use Rattle.pblk_engine.specs.Arms.{ArmView}
use Rattle.block_target.specs.Targets.{AreTakenOut}
use Rattle.block_target.proofs.target.take_units.Given as goal

-- those before the arms that are left are out
abbrev pub invariant-loop-arm : goal.invariant-loop-arm
invariant-loop-arm g l =
    (done : List ArmView) × AreTakenOut g.M.Mount.wear done (map g.U.Unit.model l.units.items) (map g.U.Unit.wear l.units.items)
    × (done ++ reverse l.arms.items ≡ l.fn.arms.items) × (length l.fn.arms.items ≤ vec_capacity l.units)

abbrev pub decreases-loop-arm : goal.decreases-loop-arm
decreases-loop-arm g l = length l.arms.items
