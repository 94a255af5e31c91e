use Rattle.pblk_laws.proofs.ImageBytesExample.{drive, geometry_fits, geometry_taken, drive_accepted, drive_fits, drive_wears, drive_blocks}
use Rattle.pblk_laws.proofs.ImageBytesTaken.{spelled_is_image}
use Rattle.pblk_laws.proofs.image_file.a_drive_is_spelled.Goals as goal

pub returns : goal.returns
returns c = (
  drive,
  spelled_is_image drive
      (record { fields = geometry_fits; taken = geometry_taken; accepted = drive_accepted; fit = drive_fits; wears = drive_wears }),
  drive_blocks,
)
