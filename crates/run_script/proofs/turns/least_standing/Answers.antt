use Rattle.std.proofs.Common.{ap, ◌∙◌, map, drop, length, ◌≤◌, ◌+◌}
use Rattle.std.proofs.lemmas.List.{length-map}
use Rattle.pblk_model.specs.ScriptText.{least_standing}
use Rattle.run_script.specs.Turns.{lesser}
use Rattle.run_script.proofs.RunOn.{next_mapped, least_turn, least_end}
use Rattle.run_script.proofs.turns.least_standing.Goals as goal
use Rattle.pblk_model.proofs.Parts.{drop_past}

pub loop-thread-preserved : goal.loop-thread-preserved
loop-thread-preserved c =
    let next = next_mapped (λ x. x.now) c.args.left.now c.loop-thread.thread-index c.thread-item.result c.loop-thread-test.true c.thread-item.is in
    let left = map (λ x. x.now) c.args.left.now in
    let step = least_turn c.loop-thread.least left c.loop-thread.thread-index c.thread-item.result.now next c.loop-thread.invariant in
    ap (λ least. lesser least (least_standing (drop (c.loop-thread.thread-index + 1) left))) (c.lesser-least.ensures
    ∙ ap (lesser c.loop-thread.least) c.line_of.ensures) ∙ step

pub returns : goal.returns
returns c =
    let left = map (λ x. x.now) c.args.left.now in
    let past : length left ≤ c.loop-thread.thread-index = rw (length-map) (c.loop-thread-test.false) in
    least_end c.loop-thread.least left c.loop-thread.thread-index (drop_past left c.loop-thread.thread-index past) c.loop-thread.invariant
