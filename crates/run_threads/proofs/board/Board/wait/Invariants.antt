use Rattle.std.proofs.Common.{◌≡◌}
use Rattle.run_threads.specs.Board.{IsSeatOf}
use Rattle.run_threads.proofs.board.Board.wait.Given as goal

abbrev pub invariant-loop : goal.invariant-loop
invariant-loop g l = IsSeatOf l.self l.seat × (l.seat.me.0 ≡ l.fn.seat.me.0)
