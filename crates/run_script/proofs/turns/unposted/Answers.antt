use Rattle.std.proofs.Common.{sym, ap, ◌∙◌}
use Rattle.pblk_model.specs.ScriptText.{unposted}
use Rattle.run_script.specs.Turns.{lifted}
use Rattle.run_script.proofs.RunOn.{found_here, found_past, found_none}
use Rattle.run_script.proofs.turns.unposted.Goals as goal
use Rattle.pblk_model.proofs.Parts.{drop_past, next_item}

pub returns-then-is_some : goal.returns-then-is_some
returns-then-is_some c = λ all are.
    found_here all c.args.threads.now _ c.loop-thread.thread-index c.thread-item.result c.unposted_in-found.result
    (next_item c.args.threads.now c.loop-thread.thread-index c.thread-item.result c.loop-thread-test.true c.thread-item.is)
    (c.loop-thread.invariant all are) (c.unposted_in-found.ensures all are ∙ ap (λ t. unposted all (lifted t)) c.as_slice.ensures) (sym c.is_some.ensures
    ∙ c.if-is_some.true)

pub loop-thread-preserved : goal.loop-thread-preserved
loop-thread-preserved c = λ all are.
    found_past all c.args.threads.now _ c.loop-thread.thread-index c.thread-item.result c.unposted_in-found.result
    (next_item c.args.threads.now c.loop-thread.thread-index c.thread-item.result c.loop-thread-test.true c.thread-item.is)
    (c.loop-thread.invariant all are) (c.unposted_in-found.ensures all are ∙ ap (λ t. unposted all (lifted t)) c.as_slice.ensures) (sym c.is_some.ensures
    ∙ c.if-is_some.false)

pub returns : goal.returns
returns c = λ all are. found_none all c.args.threads.now c.loop-thread.thread-index
    (drop_past c.args.threads.now c.loop-thread.thread-index c.loop-thread-test.false) (c.loop-thread.invariant all are)
