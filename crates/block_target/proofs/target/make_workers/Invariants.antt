use Rattle.std.proofs.Common.{◌≡◌, ◌+◌, ◌≤◌, length, vec_capacity}
use Rattle.std.specs.List.{AllByRecursion}
use Rattle.block_target.specs.Rooms.{IsNewWorker}
use Rattle.block_target.specs.Targets.{first_workers, naming}
use Rattle.block_target.proofs.target.make_workers.Given as goal

-- so many were named
abbrev pub invariant-loop-number : goal.invariant-loop-number
invariant-loop-number g l =
    (l.workers.items ≡ first_workers g.M.Mount.past l.fn.from l.number) × (length l.workers.items ≡ l.number) × (l.fn.count ≤ vec_capacity l.workers)
    × (l.token ≡ naming g.M.Mount.chronicle g.M.Mount.past (l.fn.from + l.number)) × AllByRecursion (IsNewWorker g.M.Mount.past.image.shape) l.parts.items
    × (length l.fn.parts.items ≡ length l.parts.items + l.number)
