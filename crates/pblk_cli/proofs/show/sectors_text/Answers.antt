use Rattle.std.proofs.lemmas.Result.{IfOk-weaker}
use Rattle.ocssd_drive.specs.Drive.{stored}
use Rattle.pblk_cli.proofs.Contents.{shows}
use Rattle.pblk_cli.proofs.show.sectors_text.Goals as goal

pub returns : goal.returns
returns c = IfOk-weaker c.listing.result _ _ (λ text h. shows (stored c.args.drive) c.in_ok-held.held text.items h c.in_ok-held.ensures) c.listing.ensures
