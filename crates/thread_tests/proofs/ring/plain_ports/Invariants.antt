use Rattle.std.proofs.Common.{◌≡◌, ◌≤◌, length}
use Rattle.std.specs.List.{AllByRecursion}
use Rattle.thread_tests.proofs.ring.plain_ports.Given as goal

abbrev pub invariant-loop : goal.invariant-loop
invariant-loop l = record {
  count : length l.ports.items ≡ l.counter;
  capacity : AllByRecursion (λ port. 64 ≤ port.capacity) l.ports.items;
}
