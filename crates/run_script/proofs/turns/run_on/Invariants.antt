use Rattle.std.proofs.Common.{length}
use Rattle.run_script.proofs.RunOnLoops.{IsRunOn}
use Rattle.run_script.proofs.turns.run_on.Given as goal

abbrev pub invariant-loop-numbered : goal.invariant-loop-numbered
invariant-loop-numbered l = IsRunOn l.initial.names l.names l.thread l.left

abbrev pub decreases-loop-numbered : goal.decreases-loop-numbered
decreases-loop-numbered l = length l.left
