use Rattle.std.proofs.Common.{◌≡◌, ◌+◌, ◌≤◌, ◌++◌, length, map, reverse, vec_capacity}
use Rattle.std.specs.List.{range_with_len}
use Rattle.chronicle.specs.Handles.{first_author}
use Rattle.block_target.specs.Targets.{arms_of}
use Rattle.block_target.proofs.target.make_arms.Given as goal

-- those behind the units that are left have arms, the last of them first
abbrev pub invariant-loop-unit : goal.invariant-loop-unit
invariant-loop-unit g l =
    ((done : _) × (l.fn.units.items ≡ l.units.items ++ done)
    × (reverse l.arms.items ≡ arms_of g.M.Mount.past (length l.units.items) (map g.U.Unit.model done)))
    × (l.authors.items ≡ map (first_author g.M.Mount.chronicle g.M.Mount.past) (range_with_len 0 (length l.units.items + 1)))
    × (length l.arms.items + length l.units.items ≡ length l.fn.units.items) × (length l.fn.units.items ≤ vec_capacity l.arms)
    × (length l.fn.units.items ≤ vec_capacity l.units)

abbrev pub decreases-loop-unit : goal.decreases-loop-unit
decreases-loop-unit g l = length l.units.items
