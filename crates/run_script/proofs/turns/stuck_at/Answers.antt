use Rattle.std.proofs.Common.{◌∙◌, map}
use Rattle.run_script.proofs.RunOnLoops.{turns-start, turns-next_turn, turns-end}
use Rattle.run_script.proofs.turns.stuck_at.Goals as goal

pub loop-left-init : goal.loop-left-init
loop-left-init c = λ all are known. turns-start all c.args.names.now (map (λ x. x.now) c.args.left.now) are known

pub returns-then-not-turn : goal.returns-then-not-turn
returns-then-not-turn c = λ all are known.
    c.least_standing.ensures
    ∙ turns-end all c.loop-left.names c.turn.new.names (map (λ x. x.now) c.args.left.now) (map (λ x. x.now) c.loop-left.left)
    (map (λ x. x.now) c.turn.new.left) (c.loop-left.invariant all are known) c.turn.ensures.rest (c.turn.ensures.stands c.if-not-turn.true)

pub loop-left-preserved : goal.loop-left-preserved
loop-left-preserved c = λ all are known.
    turns-next_turn all c.loop-left.names c.turn.new.names (map (λ x. x.now) c.args.left.now) (map (λ x. x.now) c.loop-left.left)
    (map (λ x. x.now) c.turn.new.left) (c.loop-left.invariant all are known) c.turn.ensures.rest (c.turn.ensures.moves c.if-not-turn.false)
