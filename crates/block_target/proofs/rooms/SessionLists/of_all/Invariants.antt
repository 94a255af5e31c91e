use Rattle.std.proofs.Common.{◌≡◌, length}
use Rattle.std.specs.List.{AllByRecursion}
use Rattle.block_target.specs.Rooms.{AreNewLists}
use Rattle.block_target.proofs.rooms.SessionLists.of_all.Given as goal

-- so many were made
abbrev pub invariant-loop-number : goal.invariant-loop-number
invariant-loop-number l = AllByRecursion AreNewLists l.lists.items × (length l.lists.items ≡ l._number)
