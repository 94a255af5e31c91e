use Rattle.std.proofs.Common.{◌≡◌}
use Rattle.target_bench.proofs.pieces.turns.Given as goal

abbrev pub invariant-loop-turn : goal.invariant-loop-turn
invariant-loop-turn g l = (l.session.worker.number ≡ l.fn.session.worker.number) × (l.worker.number ≡ l.fn.worker.number)
