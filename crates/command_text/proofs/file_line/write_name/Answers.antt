use Rattle.std.proofs.Common.{sym}
use Rattle.command_text.proofs.Saying.{on_err}
use Rattle.command_text.proofs.Shown.{control_failed, control_shown, run_failed, run_shown}
use Rattle.command_text.proofs.file_line.write_name.Goals as goal

pub returns-in_err-write-clause-failed : goal.returns-in_err-write-clause-failed
returns-in_err-write-clause-failed g c = on_err c.from_residual.result _
    (control_failed c.args.name.now c.loop-rest.rest.now c.escaped.result _ _ _ _ c.in-len1-up.len_at_least c.escaped.ensures c.loop-rest.invariant
    c.in_err-write.ensures.failed)

pub loop-rest-preserved-then-is_control : goal.loop-rest-preserved-then-is_control
loop-rest-preserved-then-is_control g c =
    control_shown c.args.name.now c.loop-rest.rest.now c.escaped.result _ _ _ _ c.in-len1-up.len_at_least c.escaped.ensures c.loop-rest.invariant
    c.in_ok-write.ensures.took

pub returns-in_err-write-2-clause-failed : goal.returns-in_err-write-2-clause-failed
returns-in_err-write-2-clause-failed g c = on_err c.from_residual-in_err-write-2.result _
    (run_failed c.args.name.now c.loop-rest.rest.now c.split_at.result.0.now c.split_at.result.1.now c.plain_length.result _ _ _ _
    c.in-len1-up.len_at_least (sym c.if-is_control.ensures) c.plain_length.ensures.plain c.split_at.ensures.front c.split_at.ensures.back c.loop-rest.invariant
    c.in_err-write-2.ensures.failed)

pub loop-rest-preserved : goal.loop-rest-preserved
loop-rest-preserved g c = run_shown c.args.name.now c.loop-rest.rest.now c.split_at.result.0.now c.split_at.result.1.now c.plain_length.result _ _ _ _
    c.in-len1-up.len_at_least (sym c.if-is_control.ensures) c.plain_length.ensures.plain c.split_at.ensures.front c.split_at.ensures.back c.loop-rest.invariant
    c.in_ok-write-2.ensures.took
