use Rattle.std.proofs.Common.{◌≡◌, ◌≤◌, ◌++◌, List, length, map, reverse}
use Rattle.std.specs.Prelude.{vec_capacity}
use Rattle.pblk_engine.specs.Arms.{ArmView}
use Rattle.pblk_engine.specs.Endings.{HasJoined}
use Rattle.pblk_engine.proofs.ending.join_arms.Given as goal

-- the author has joined those that aren't left
abbrev pub invariant-loop-arm : goal.invariant-loop-arm
invariant-loop-arm g l = (done : List ArmView)
    × HasJoined g.M.Mount.chronicle g.M.Mount.past g.M.Mount.handed g.M.Mount.wear l.fn.author done l.author
    (map g.U.Unit.model l.units.items) (map g.U.Unit.wear l.units.items)
    × (done ++ reverse l.arms.items ≡ l.fn.arms.items)
    × (length l.fn.arms.items ≤ vec_capacity l.units)

abbrev pub decreases-loop-arm : goal.decreases-loop-arm
decreases-loop-arm g l = length l.arms.items
