use Rattle.std.proofs.Common.{sym, ◌∙◌}
use Rattle.run_report.specs.Report.{transcript_of}
use Rattle.pblk_cli.proofs.EventLines.{calm_is, drive_is, worn_is}
use Rattle.pblk_cli.proofs.status.status_of.Goals as goal

pub returns-then-has_event : goal.returns-then-has_event
returns-then-has_event c = λ script end.
    drive_is (transcript_of script c.args.records.now end) (sym (c.has_event.ensures script end) ∙ c.if-has_event.true)

pub returns-then-has_worn : goal.returns-then-has_worn
returns-then-has_worn c = λ script end.
    worn_is (transcript_of script c.args.records.now end) (sym (c.has_event.ensures script end) ∙ c.if-has_event.false)
    (sym (c.has_worn.ensures script end) ∙ c.if-has_worn.true)

pub returns-else-has_worn : goal.returns-else-has_worn
returns-else-has_worn c = λ script end.
    calm_is (transcript_of script c.args.records.now end) (sym (c.has_event.ensures script end) ∙ c.if-has_event.false)
    (sym (c.has_worn.ensures script end) ∙ c.if-has_worn.false)
