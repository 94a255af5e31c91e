use Rattle.std.proofs.Common.{◌≡◌, ◌≤◌, ◌+◌, ◌++◌, length, map, vec_capacity}
use Rattle.run_threads.proofs.runner.seat_all.Given as goal

abbrev pub invariant-loop-ports : goal.invariant-loop-ports
invariant-loop-ports g l = record {
  ports : map (λ t. t.port) l.threads.items ++ l.ports.items ≡ l.fn.ports.items;
  desks : map (λ t. t.desk) l.threads.items ++ l.desks.items ≡ l.fn.desks.items;
  count : length l.desks.items ≡ length l.ports.items;
  room : length l.threads.items + length l.ports.items ≤ vec_capacity l.threads;
  capacity : vec_capacity l.ports ≡ vec_capacity l.fn.ports;
}

abbrev pub decreases-loop-ports : goal.decreases-loop-ports
decreases-loop-ports g l = length l.ports.items
