use Rattle.pblk_core.proofs.FoundMap.{AreSet}
use Rattle.pblk_core.proofs.opening.found_map.Given as goal

abbrev pub invariant-loop-k : goal.invariant-loop-k
invariant-loop-k l = AreSet l.capacity l.winners l.k l.map
