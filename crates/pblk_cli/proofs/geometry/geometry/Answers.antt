use Rattle.std.proofs.Common.{◌∙◌, refl}
use Rattle.ocssd_drive.specs.Drive.{stored}
use Rattle.pblk_cli.proofs.Reading.{drive_is_there}
use Rattle.pblk_cli.proofs.geometry.geometry.Goals as goal

pub returns-clause-comes : goal.returns-clause-comes
returns-clause-comes g c =
    (drive_is_there c.args.image.now (g.F.Files.view c.args.files.now) (stored c.in-Ok.drive) c.in-Ok.ensures.drive, c.in-Ok.ensures.untouched)
