use Rattle.std.proofs.Common.{◌++◌, sym, ap, subst}
use Rattle.pblk_model.specs.Geometry.{geometry_bytes}
use Rattle.pblk_model.specs.ImageFile.{descriptors_bytes, header_bytes}
use Rattle.ocssd_geometry.specs.Numbers.{numbers_of}
use Rattle.ocssd_drive.specs.Drive.{DriveView, stored}
use Rattle.drive_image.specs.Storing.{HasCapacity, WasAdded, numbers_bytes}
use Rattle.drive_image.proofs.Adding.{room_here, room_then, added_both}
use Rattle.drive_image.proofs.storing.put_numbers.Goals as goal
use Rattle.drive_image.proofs.storing.put_numbers.Goals.{After-put_header, After-put_geometry, After-put_descriptors}

added_header : (c : After-put_header) → WasAdded c.args.out.now c.put_header.new.out (header_bytes 1 (stored c.args.drive.now))
added_header c = subst (WasAdded c.args.out.now c.put_header.new.out) (ap numbers_bytes c.shape-shape.ensures.shape) c.put_header.ensures

added_geometry : (c : After-put_geometry) → WasAdded c.args.out.now c.put_geometry.new.out
    (header_bytes 1 (stored c.args.drive.now) ++ geometry_bytes (numbers_of c.args.drive.now.geometry))
added_geometry c =
    let d = stored c.args.drive.now in
    let added = subst (λ (v : DriveView). WasAdded c.put_header.new.out c.put_geometry.new.out
    (geometry_bytes (numbers_of v.geometry))) c.drive.view_is c.put_geometry.ensures in
    added_both c.args.out.now c.put_header.new.out c.put_geometry.new.out (header_bytes 1 d) (geometry_bytes d.geometry)
    (added_header (goal.at.After-put_geometry c).After-put_header) added

added_descriptors : (c : After-put_descriptors)
    → WasAdded c.args.out.now c.put_descriptors.new.out
    (header_bytes 1 (stored c.args.drive.now) ++ geometry_bytes (numbers_of c.args.drive.now.geometry) ++ descriptors_bytes (stored c.args.drive.now))
added_descriptors c =
    let d = stored c.args.drive.now in
    added_both c.args.out.now c.put_geometry.new.out c.put_descriptors.new.out (header_bytes 1 d ++ geometry_bytes d.geometry) (descriptors_bytes d)
    (added_geometry (goal.at.After-put_descriptors c).After-put_geometry) c.put_descriptors.ensures

pub put_header-requires : goal.put_header-requires
put_header-requires c =
    let d = stored c.args.drive.now in
    let v = c.args.out.now in
    let h = header_bytes 1 d in
    let g = geometry_bytes d.geometry in
    subst (HasCapacity v) (sym (ap numbers_bytes c.shape-shape.ensures.shape))
    (room_here v h g (room_here v (h ++ g) (descriptors_bytes d) c.requires.room))

pub put_geometry-requires-clause-room : goal.put_geometry-requires-clause-room
put_geometry-requires-clause-room c =
    let d = stored c.args.drive.now in
    let v = c.args.out.now in
    let h = header_bytes 1 d in
    let g = geometry_bytes d.geometry in
    subst (λ (v : DriveView). HasCapacity c.put_header.new.out (geometry_bytes (numbers_of v.geometry))) (sym c.drive.view_is)
    (room_then v c.put_header.new.out h g (room_here v (h ++ g) (descriptors_bytes d) c.requires.room)
    (added_header (goal.at.put_geometry-requires-clause-room c).After-put_header))

pub put_descriptors-requires-clause-room : goal.put_descriptors-requires-clause-room
put_descriptors-requires-clause-room c =
    let d = stored c.args.drive.now in
    let v = c.args.out.now in
    let h = header_bytes 1 d in
    let g = geometry_bytes d.geometry in
    room_then v c.put_geometry.new.out (h ++ g) (descriptors_bytes d) c.requires.room
    (added_geometry (goal.at.put_descriptors-requires-clause-room c).After-put_geometry)

pub returns : goal.returns
returns c = added_descriptors (goal.at.returns c).After-put_descriptors
