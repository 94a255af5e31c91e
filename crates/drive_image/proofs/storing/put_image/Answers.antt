use Rattle.pblk_model.specs.ImageFile.{blocks_bytes}
use Rattle.ocssd_drive.specs.Drive.{stored}
use Rattle.drive_image.specs.Storing.{front_bytes}
use Rattle.drive_image.proofs.Adding.{room_here, room_then, added_both}
use Rattle.drive_image.proofs.storing.put_image.Goals as goal

pub put_numbers-requires-clause-room : goal.put_numbers-requires-clause-room
put_numbers-requires-clause-room c =
    let d = stored c.args.drive.now in
    room_here c.args.out.now (front_bytes d) (blocks_bytes d) c.requires.room

pub put_blocks-requires-clause-room : goal.put_blocks-requires-clause-room
put_blocks-requires-clause-room c =
    let d = stored c.args.drive.now in
    room_then c.args.out.now c.put_numbers.new.out (front_bytes d) (blocks_bytes d) c.requires.room c.put_numbers.ensures

pub returns : goal.returns
returns c =
    let d = stored c.args.drive.now in
    added_both c.args.out.now c.put_numbers.new.out c.put_blocks.new.out (front_bytes d) (blocks_bytes d) c.put_numbers.ensures c.put_blocks.ensures
