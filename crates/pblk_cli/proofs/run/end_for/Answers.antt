use Rattle.std.proofs.Common.{◌∙◌, ap, sym}
use Rattle.pblk_model.specs.Contents.{end}
use Rattle.pblk_model.specs.ImageFile.{image_of}
use Rattle.ocssd_drive.specs.Drive.{stored}
use Rattle.run_report.specs.Report.{transcript_of}
use Rattle.run_report.proofs.Unplaced.{same_whatever}
use Rattle.pblk_cli.proofs.run.end_for.Goals as goal

pub returns-in_ok-held : goal.returns-in_ok-held
returns-in_ok-held c = λ script. ap (transcript_of script c.args.records.now) c.in_ok-held.ensures.end

pub returns-else-has_history : goal.returns-else-has_history
returns-else-has_history c = λ script.
    same_whatever script c.args.records.now 0 (end (image_of (stored c.args.drive.now))) (sym c.has_history.ensures ∙ c.if-has_history.false)
