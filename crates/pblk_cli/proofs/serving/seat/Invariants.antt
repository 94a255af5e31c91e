use Rattle.std.proofs.Common.{◌≡◌, ◌≤◌, take, drop, vec_capacity}
use Rattle.pblk_cli.proofs.serving.seat.Given as goal

abbrev pub invariant-loop : goal.invariant-loop
invariant-loop g l = record {
  ports : l.ports.items ≡ take l.counter l.fn.tickets.items;
  tickets : l.tickets.items ≡ drop l.counter l.fn.tickets.items;
  within : l.counter ≤ l.fn.count;
  capacity : vec_capacity l.tickets ≡ vec_capacity l.fn.tickets;
  room : l.fn.count ≤ vec_capacity l.ports;
}
