use Rattle.std.proofs.Common.{◌≡◌, ◌≤◌, ◌+◌, length, vec_capacity}
use Rattle.target_crew.specs.Numbers.{AreNumbered, EachFits}
use Rattle.target_crew.proofs.crew.end_all.Given as goal

abbrev pub invariant-loop-seats : goal.invariant-loop-seats
invariant-loop-seats g l = record {
  numbered : AreNumbered l.tickets.items;
  works : length l.works.items ≡ length l.tickets.items;
  count : length l.tickets.items + length l.seats.items ≡ length l.fn.seats.items;
  seated : EachFits (λ k s. s.session.worker.number + k + 1 ≡ length l.fn.seats.items) l.seats.items;
  tickets_room : length l.fn.seats.items ≤ vec_capacity l.tickets;
  works_room : length l.fn.seats.items ≤ vec_capacity l.works;
}

abbrev pub decreases-loop-seats : goal.decreases-loop-seats
decreases-loop-seats g l = length l.seats.items
