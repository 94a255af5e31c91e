use Rattle.std.proofs.Common.{◌≡◌, ◌≤◌, ◌+◌, length, vec_capacity}
use Rattle.target_crew.specs.Numbers.{AreNumbered, EachFits}
use Rattle.target_crew.proofs.crew.seat_all.Given as goal

abbrev pub invariant-loop-tickets : goal.invariant-loop-tickets
invariant-loop-tickets g l = record {
  numbered : AreNumbered l.tickets.items;
  works : length l.works.items ≡ length l.tickets.items;
  count : length l.tickets.items + length l.seats.items ≡ length l.fn.tickets.items;
  seated : EachFits (λ k s. s.session.worker.number + k + 1 ≡ length l.fn.tickets.items) l.seats.items;
  room : length l.fn.tickets.items ≤ vec_capacity l.seats;
  tickets_room : length l.fn.tickets.items ≤ vec_capacity l.tickets;
  works_room : length l.fn.tickets.items ≤ vec_capacity l.works;
}

abbrev pub decreases-loop-tickets : goal.decreases-loop-tickets
decreases-loop-tickets g l = length l.tickets.items
