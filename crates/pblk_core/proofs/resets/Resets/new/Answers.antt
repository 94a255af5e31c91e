use Rattle.pblk_core.specs.Resets.{ResetQueue}
use Rattle.pblk_core.proofs.ResetLists.{keeps_found, left_found}
use Rattle.pblk_core.proofs.resets.Resets.new.Goals as goal

pub invariant_of-result : goal.invariant_of-result
invariant_of-result c =
    let r : ResetQueue = record { waiting = c.set_of-waiting.result; used = c.in_ok-used.used.items } in
    keeps_found c.args.shape.now c.args.states.now c.args.strays.now r c.in_ok-used.ensures.lines c.in_ok-used.ensures.each c.set_of-waiting.ensures
    c.requires.lines c.requires.accepted.drive.lines_high c.requires.some

pub returns-clause-left : goal.returns-clause-left
returns-clause-left c =
    let r : ResetQueue = record { waiting = c.set_of-waiting.result; used = c.in_ok-used.used.items } in
    left_found c.args.shape.now c.args.states.now c.args.strays.now r c.in_ok-used.ensures.lines c.in_ok-used.ensures.each c.set_of-waiting.ensures
    c.requires.lines c.requires.rise
