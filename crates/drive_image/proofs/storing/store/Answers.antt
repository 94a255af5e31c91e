use Rattle.std.proofs.Common.{subst}
use Rattle.pblk_laws.specs.GeometryFields.{FitsFields}
use Rattle.ocssd_geometry.specs.Numbers.{numbers_of}
use Rattle.ocssd_drive.specs.Drive.{DriveView, IsWhole, stored}
use Rattle.drive_image.proofs.Wholes.{all_wears, is_fit}
use Rattle.drive_image.proofs.storing.store.Goals as goal

pub returns-clause-read_back : goal.returns-clause-read_back
returns-clause-read_back c =
    let d = c.args.drive.now in
    let whole : IsWhole d = c.image_length.ensures.whole in
    let fields = subst (λ (v : DriveView). FitsFields (numbers_of v.geometry)) c.drive.view_is c.has_fields.ensures in
    c.spelled_image_is_read.ensures (stored d) fields whole.geometry_is whole.accepted (is_fit d whole) (all_wears d whole)

pub returns-in_err-reserve-clause-read_back : goal.returns-in_err-reserve-clause-read_back
returns-in_err-reserve-clause-read_back c =
    let d = c.args.drive.now in
    let whole : IsWhole d = c.image_length.ensures.whole in
    let fields = subst (λ (v : DriveView). FitsFields (numbers_of v.geometry)) c.drive.view_is c.has_fields.ensures in
    c.spelled_image_is_read.ensures (stored d) fields whole.geometry_is whole.accepted (is_fit d whole) (all_wears d whole)
