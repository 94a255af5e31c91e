use Rattle.std.proofs.Common.{◌≡◌, length}
use Rattle.std.specs.List.{AllByRecursion}
use Rattle.block_target.specs.Rooms.{IsNewWorker}
use Rattle.block_target.proofs.rooms.WorkerParts.of_all.Given as goal

-- so many were made
abbrev pub invariant-loop-number : goal.invariant-loop-number
invariant-loop-number l = AllByRecursion (IsNewWorker l.fn.shape) l.parts.items × (length l.parts.items ≡ l._number)
