use Rattle.std.proofs.Common.{◌≡◌, ◌+◌, ◌≤◌, [], length, vec_capacity}
use Rattle.numbered_locks.specs.Handles.{AreKept, places}
use Rattle.numbered_locks.specs.Steps.{filling}
use Rattle.numbered_locks.proofs.locks.NumberedLocks.fill.Given as goal

-- the values that are left are those of the first places, and the seat still has their slots
abbrev pub invariant-loop-value : goal.invariant-loop-value
invariant-loop-value g l = record {
  locks : l.seat.table_id ≡ l.self.table.shared.table_id;
  seat : l.seat.me ≡ (filling (length l.values.items + 1), []);
  few : length l.values.items ≤ places l.self;
  room : places l.self ≤ vec_capacity l.values;
  kept : AreKept g.L.Keeps.keeps l.values.items;
}

abbrev pub decreases-loop-value : goal.decreases-loop-value
decreases-loop-value g l = length l.values.items
