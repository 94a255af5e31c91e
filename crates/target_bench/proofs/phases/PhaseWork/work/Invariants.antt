use Rattle.std.proofs.Common.{◌≡◌, length}
use Rattle.target_bench.proofs.phases.PhaseWork.work.Given as goal

abbrev pub invariant-loop-turn : goal.invariant-loop-turn
invariant-loop-turn g l = (l.session.worker.number ≡ l.fn.session.worker.number) × (length l.self.bytes.items ≡ 65536)
