use Rattle.std.proofs.Common.{◌≡◌, Bool, List, reverse}
use Rattle.write_ring.specs.Openings.{IsDrawn}
use Rattle.write_ring.proofs.opening.give_cells.Given as goal

-- to give the rest back is to give all back
abbrev pub invariant-loop-cell : goal.invariant-loop-cell
invariant-loop-cell l = (l.pool.region ≡ l.fn.pool.region)
    × ((before : List Bool) → IsDrawn l.fn.pool.region before l.fn.pool.left (reverse l.fn.cells.items)
    → IsDrawn l.fn.pool.region before l.pool.left (reverse l.cells.items))

abbrev pub decreases-loop-cell : goal.decreases-loop-cell
decreases-loop-cell l = goal.left-loop-cell l
