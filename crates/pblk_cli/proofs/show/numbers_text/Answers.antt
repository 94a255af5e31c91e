use Rattle.std.proofs.Common.{string_bytes}
use Rattle.std.proofs.lemmas.Result.{IfOk-weaker}
use Rattle.ocssd_drive.specs.Drive.{stored}
use Rattle.pblk_cli.proofs.Contents.{reports}
use Rattle.pblk_cli.proofs.show.numbers_text.Goals as goal

pub returns : goal.returns
returns c = IfOk-weaker c.report.result _ _ (λ text h. reports (stored c.args.drive.now) c.in_ok-held.held
    (string_bytes text) h c.in_ok-held.ensures) c.report.ensures
