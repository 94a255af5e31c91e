use Rattle.std.proofs.Common.{◌++◌, subst}
use Rattle.pblk_model.specs.Text.{newline}
use Rattle.pblk_model.specs.CommandText.{shown_name}
use Rattle.command_text.specs.Says.{HasTaken, HasFailed}
use Rattle.command_text.proofs.Saying.{on_err, on_err_map, taken_then, failed_then, failed_first}
use Rattle.command_text.proofs.file_line.write_file.Goals as goal

pub returns-in_err-write_name-clause-failed : goal.returns-in_err-write_name-clause-failed
returns-in_err-write_name-clause-failed g c =
    let failed = subst (λ x. HasFailed (shown_name x) (g.O.Sink.view c.write.new.out)
    (g.O.Sink.view c.write_name.new.out)) c.as_bytes.ensures.value c.in_err-write_name.ensures.failed in
    on_err c.from_residual-in_err-write_name.result _
    (failed_first (c.args.kind.now ++ shown_name c.args.name.now) newline _ _
    (failed_then c.args.kind.now (shown_name c.args.name.now) _ _ _ c.in_ok-write.ensures.took failed))

pub returns-clause-failed : goal.returns-clause-failed
returns-clause-failed g c =
    let took = subst (λ x. HasTaken (shown_name x) (g.O.Sink.view c.write.new.out)
    (g.O.Sink.view c.write_name.new.out)) c.as_bytes.ensures.value c.in_ok-write_name.ensures.took in
    on_err_map c.write-2.result _ _ c.write-2.ensures.failed
    (λ failed. failed_then (c.args.kind.now ++ shown_name c.args.name.now) newline _ _ _
    (taken_then c.args.kind.now (shown_name c.args.name.now) _ _ _ c.in_ok-write.ensures.took took) failed)
