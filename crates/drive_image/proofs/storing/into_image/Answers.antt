use Rattle.std.proofs.Common.{subst, arith}
use Rattle.pblk_model.specs.ImageFile.{blocks_bytes, image_bytes}
use Rattle.pblk_laws.specs.GeometryFields.{FitsFields}
use Rattle.ocssd_geometry.specs.Numbers.{numbers_of}
use Rattle.ocssd_drive.specs.Drive.{DriveView, IsWhole, stored}
use Rattle.drive_image.specs.Storing.{HasCapacity, front_bytes}
use Rattle.drive_image.proofs.Adding.{room_here}
use Rattle.drive_image.proofs.Wholes.{all_wears, is_fit}
use Rattle.drive_image.proofs.storing.into_image.Goals as goal

pub returns-in_err-out-clause-read_back : goal.returns-in_err-out-clause-read_back
returns-in_err-out-clause-read_back c =
    let d = c.args.drive in
    let whole : IsWhole d = c.image_length-length.ensures.whole in
    let fields = subst (λ (v : DriveView). FitsFields (numbers_of v.geometry)) c.drive.view_is c.has_fields.ensures in
    c.spelled_image_is_read.ensures (stored d) fields whole.geometry_is whole.accepted (is_fit d whole) (all_wears d whole)

pub put_numbers-requires-clause-room : goal.put_numbers-requires-clause-room
put_numbers-requires-clause-room c =
    let d = stored c.args.drive in
    let room : HasCapacity c.in_ok-out.out (image_bytes d) = omega (arith, c.image_length-length.ensures.length, c.in_ok-out.ensures) in
    room_here c.in_ok-out.out (front_bytes d) (blocks_bytes d) room

pub returns-clause-read_back : goal.returns-clause-read_back
returns-clause-read_back c =
    let d = c.args.drive in
    let whole : IsWhole d = c.image_length-length.ensures.whole in
    let fields = subst (λ (v : DriveView). FitsFields (numbers_of v.geometry)) c.drive.view_is c.has_fields.ensures in
    c.spelled_image_is_read.ensures (stored d) fields whole.geometry_is whole.accepted (is_fit d whole) (all_wears d whole)
