use Rattle.std.proofs.Common.{◌∙◌, ap}
use Rattle.std.proofs.lemmas.Result.{IfOk-weaker}
use Rattle.pblk_cli.specs.declared.run.Telling.TheVariants as tellings
use Rattle.pblk_cli.specs.Running.{said_by}
use Rattle.pblk_cli.proofs.run.run_text.Goals as goal

pub returns-in-Transcript : goal.returns-in-Transcript
returns-in-Transcript c =
    rw c.in-Transcript.is (IfOk-weaker c.transcript.result _ _ (λ text h. h
    ∙ ap (said_by tellings.Transcript c.args.script.now) (c.in_ok-end.ensures c.args.script.now)) c.transcript.ensures)

pub returns-in-Totals : goal.returns-in-Totals
returns-in-Totals c =
    rw c.in-Totals.is (IfOk-weaker c.totals.result _ _ (λ text h. h
    ∙ ap (said_by tellings.Totals c.args.script.now) (c.in_ok-end.ensures c.args.script.now)) c.totals.ensures)
