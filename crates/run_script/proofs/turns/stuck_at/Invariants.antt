use Rattle.std.proofs.Common.{◌≡◌, List, [], None, map, length}
use Rattle.std.specs.List.{flat_map, sum_by}
use Rattle.pblk_model.specs.ScriptText.{Said, unposted}
use Rattle.run_script.specs.Turns.{lifted, AreLeft}
use Rattle.run_script.proofs.RunOnLoops.{AreTurned}
use Rattle.run_script.proofs.turns.stuck_at.Given as goal

abbrev pub invariant-loop-left : goal.invariant-loop-left
invariant-loop-left l = (all : List Said) → AreLeft all l.initial.names [] → unposted all (flat_map lifted (map (λ x. x.now) l.initial.left)) ≡ None
    → AreTurned all l.names (map (λ x. x.now) l.initial.left) (map (λ x. x.now) l.left)

abbrev pub decreases-loop-left : goal.decreases-loop-left
decreases-loop-left l = sum_by length (map (λ x. x.now) l.left)
