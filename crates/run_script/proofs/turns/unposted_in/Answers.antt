use Rattle.std.proofs.Common.{sym, ◌∙◌}
use Rattle.run_script.proofs.RunOn.{unposted_here, unposted_past, unposted_done}
use Rattle.run_script.proofs.turns.unposted_in.Goals as goal
use Rattle.pblk_model.proofs.Parts.{drop_past, next_item}

pub returns-then-is_unposted : goal.returns-then-is_unposted
returns-then-is_unposted c = λ all are.
    unposted_here all c.args.thread.now _ c.loop-numbered.numbered-index c.numbered-item.result
    (next_item c.args.thread.now c.loop-numbered.numbered-index c.numbered-item.result c.loop-numbered-test.true c.numbered-item.is)
    (c.loop-numbered.invariant all are) (sym (c.is_unposted.ensures all are) ∙ c.if-is_unposted.true)

pub loop-numbered-preserved : goal.loop-numbered-preserved
loop-numbered-preserved c = λ all are.
    unposted_past all c.args.thread.now _ c.loop-numbered.numbered-index c.numbered-item.result
    (next_item c.args.thread.now c.loop-numbered.numbered-index c.numbered-item.result c.loop-numbered-test.true c.numbered-item.is)
    (c.loop-numbered.invariant all are) (sym (c.is_unposted.ensures all are) ∙ c.if-is_unposted.false)

pub returns : goal.returns
returns c = λ all are. unposted_done all c.args.thread.now c.loop-numbered.numbered-index
    (drop_past c.args.thread.now c.loop-numbered.numbered-index c.loop-numbered-test.false) (c.loop-numbered.invariant all are)
