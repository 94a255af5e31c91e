use Rattle.std.proofs.Common.{◌≡◌, ◌≤◌, ◌+◌, ◌++◌, length, vec_capacity}
use Rattle.pblk_cli.proofs.serving.unseat.Given as goal

abbrev pub invariant-loop-tickets : goal.invariant-loop-tickets
invariant-loop-tickets g l = record {
  all : l.tickets.items ++ l.ports.items ≡ l.fn.tickets.items ++ l.fn.ports.items;
  room : length l.tickets.items + length l.ports.items ≤ vec_capacity l.tickets;
}

abbrev pub decreases-loop-tickets : goal.decreases-loop-tickets
decreases-loop-tickets g l = length l.ports.items
