use Rattle.std.proofs.Common.{◌≡◌, ◌+◌}
use Rattle.std.specs.Slots.{slots_items, slots_filled, slots_len}
use Rattle.pblk_model.specs.Frames.{count_left, count_out}
use Rattle.write_ring.proofs.Leaving.{Walk}
use Rattle.write_ring.proofs.closing.give_slots.Given as goal

abbrev pub invariant-loop-at : goal.invariant-loop-at
invariant-loop-at l = Walk l.size l.freed l.at (slots_filled l.closed.slots) × (slots_items l.closed.slots ≡ slots_items l.fn.closed.slots)
    × (slots_len l.closed.slots ≡ l.size)

-- each of these slots had a frame
abbrev pub invariant-loop-at-2 : goal.invariant-loop-at-2
invariant-loop-at-2 l = Walk l.size l.freed l.at (slots_filled l.closed.slots) × (slots_items l.closed.slots ≡ slots_items l.fn.closed.slots)
    × (slots_len l.closed.slots ≡ l.size) × (l.pool.region ≡ l.fn.pool.region) × (count_left l.pool.left + l.taken ≡ count_left l.fn.pool.left + l.at)
    × (count_out l.pool.left + l.at ≡ count_out l.fn.pool.left + l.taken)
