use Rattle.std.specs.List.{flat_map}
use Rattle.drive_image.specs.Storing.{chunk_bytes}
use Rattle.ocssd_drive.specs.Drive.{stored}
use Rattle.drive_image.proofs.Adding.{FirstAdded}
use Rattle.drive_image.proofs.storing.put_blocks.Given as goal

abbrev pub invariant-loop-unit : goal.invariant-loop-unit
invariant-loop-unit l = FirstAdded (flat_map chunk_bytes) (stored l.drive).units l.unit l.fn.out l.out
