use Rattle.std.proofs.Common.{◌≡◌}
use Rattle.pblk_engine.proofs.engine.Engine.look.Given as goal

abbrev pub invariant-loop : goal.invariant-loop
invariant-loop g l = l.worker ≡ l.fn.worker
