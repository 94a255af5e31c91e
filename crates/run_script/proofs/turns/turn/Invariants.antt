use Rattle.std.proofs.Common.{◌≡◌, List, map, length, drop, ◌++◌}
use Rattle.pblk_model.specs.ScriptText.{Numbered}
use Rattle.run_script.proofs.RunOnLoops.{IsTurned}
use Rattle.run_script.proofs.turns.turn.Given as goal

abbrev pub invariant-loop-index : goal.invariant-loop-index
invariant-loop-index l =
    let all = map (λ x. x.now) l.initial.left in
    (length l.left ≡ length l.initial.left) × (rests : List Numbered) × (length rests ≡ l.index)
    × (map (λ x. x.now) l.left ≡ rests ++ drop l.index all) × IsTurned l.initial.names l.names all l.index rests l.moved
