use Rattle.std.proofs.Common.{◌≡◌, ◌-◌, map, take, replicate, ◌++◌}
use Rattle.run_script.proofs.turns.stuck_among.Given as goal

abbrev pub invariant-loop-index : goal.invariant-loop-index
invariant-loop-index l = map (λ x. x.now) l.left ≡ take l.index l.ended ++ replicate (16 - l.index) l.last
