use Rattle.std.proofs.Common.{◌≡◌}
use Rattle.target_bench.proofs.pieces.turn.Given as goal

abbrev pub invariant-loop-offset : goal.invariant-loop-offset
invariant-loop-offset g l = l.session.worker.number ≡ l.fn.session.worker.number
