use Rattle.std.proofs.Common.{◌≡◌, []}
use Rattle.numbered_locks.specs.Steps.{idle}
use Rattle.numbered_locks.proofs.locks.NumberedLocks.wait.Given as goal

abbrev pub invariant-loop : goal.invariant-loop
invariant-loop g l = (l.seat.table_id ≡ l.self.table.shared.table_id) × (l.seat.me ≡ (idle, []))
