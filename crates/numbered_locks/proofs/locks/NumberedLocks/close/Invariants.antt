use Rattle.std.proofs.Common.{◌≡◌, ◌+◌, ◌*◌, ◌≤◌, length, vec_capacity}
use Rattle.std.specs.Slots.{slots_items, slots_filled, slots_len, IsFull}
use Rattle.numbered_locks.specs.Cells.{Fits}
use Rattle.numbered_locks.specs.Handles.{AreKept}
use Rattle.numbered_locks.specs.Kept.{IsLeft}
use Rattle.numbered_locks.proofs.Ends.{Emptied}
use Rattle.numbered_locks.proofs.locks.NumberedLocks.close.Given as goal

-- the values of the places so far, in their order
abbrev pub invariant-loop-place : goal.invariant-loop-place
invariant-loop-place g l = record {
  words : slots_len l.closed.words ≡ 16 * (l.count + 1);
  slots : slots_len l.closed.slots ≡ l.count + 1;
  full : IsFull l.closed.words;
  left : IsLeft (Fits g.L.Keeps.keeps l.count) (l.count + 1) (slots_items l.closed.words) (slots_items l.closed.slots);
  emptied : Emptied (l.count + 1) (l.place + 1) (slots_filled l.closed.slots);
  many : length l.values.items ≡ l.place;
  room : l.count ≤ vec_capacity l.values;
  kept : AreKept g.L.Keeps.keeps l.values.items;
}
