use Rattle.std.proofs.Common.{ℕ, ◌≡◌, ◌≤◌, ◌+◌, ◌++◌, length, map, vec_capacity}
use Rattle.std.specs.List.{AllByRecursion}
use Rattle.run_threads.specs.Board.{IsSeatOf}
use Rattle.run_threads.specs.Rule.{AreTold}
use Rattle.run_threads.specs.Threads.{IsTold, row_of}
use Rattle.run_threads.proofs.runner.end_all.Given as goal

abbrev pub invariant-loop-threads : goal.invariant-loop-threads
invariant-loop-threads g l = record {
  of : IsSeatOf l.board l.seat;
  seats : AllByRecursion (λ t. IsSeatOf l.board t.desk.seat) l.threads.items;
  ports : l.ports.items ++ map (λ t. t.port) l.threads.items ≡ map (λ t. t.port) l.fn.threads.items;
  rows : l.rows.items ++ map row_of l.threads.items ≡ map row_of l.fn.threads.items;
  ports_room : length l.ports.items + length l.threads.items ≤ vec_capacity l.ports;
  rows_room : length l.rows.items + length l.threads.items ≤ vec_capacity l.rows;
  told : (at : ℕ → ℕ) → AreTold at l.seat.me.0.known → AllByRecursion (IsTold at) l.threads.items → AllByRecursion (IsTold at) l.fn.threads.items;
}

abbrev pub decreases-loop-threads : goal.decreases-loop-threads
decreases-loop-threads g l = length l.threads.items
