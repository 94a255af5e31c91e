use Rattle.std.proofs.Common.{◌≡◌, map, drop}
use Rattle.pblk_model.specs.ScriptText.{least_standing}
use Rattle.run_script.specs.Turns.{lesser}
use Rattle.run_script.proofs.turns.least_standing.Given as goal

abbrev pub invariant-loop-thread : goal.invariant-loop-thread
invariant-loop-thread l = lesser l.least (least_standing (drop l.thread-index (map (λ x. x.now) l.left))) ≡ least_standing (map (λ x. x.now) l.left)
