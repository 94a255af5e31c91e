use Rattle.std.proofs.Common.{◌≡◌, ◌+◌, ◌≤◌, length, reverse, vec_capacity}
use Rattle.std.specs.List.{AllByRecursion}
use Rattle.pblk_model.specs.Frames.{count_left, count_out}
use Rattle.write_ring.specs.Frames.{IsFreeOf}
use Rattle.write_ring.specs.Openings.{IsDrawn}
use Rattle.write_ring.proofs.opening.first_cells.Given as goal

-- so many frames were drawn
abbrev pub invariant-loop-number : goal.invariant-loop-number
invariant-loop-number l =
    (length l.cells.items ≡ l._number) × (l.n ≤ vec_capacity l.cells) × AllByRecursion (IsFreeOf l.fn.pool.region) l.cells.items
    × IsDrawn l.fn.pool.region l.fn.pool.left l.pool.left (reverse l.cells.items) × (l.pool.region ≡ l.fn.pool.region)
    × (count_left l.fn.pool.left ≡ count_left l.pool.left + l._number) × (count_out l.pool.left ≡ count_out l.fn.pool.left + l._number)
