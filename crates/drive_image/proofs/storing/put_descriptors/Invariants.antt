use Rattle.std.specs.List.{enumerate_from}
use Rattle.pblk_model.specs.ImageFile.{unit_descriptors}
use Rattle.ocssd_geometry.specs.Numbers.{numbers_of}
use Rattle.ocssd_drive.specs.Drive.{stored}
use Rattle.drive_image.proofs.Adding.{FirstAdded}
use Rattle.drive_image.proofs.storing.put_descriptors.Given as goal

abbrev pub invariant-loop-unit : goal.invariant-loop-unit
invariant-loop-unit l = FirstAdded (unit_descriptors (numbers_of l.drive.geometry)) (enumerate_from 0 (stored l.drive).units) l.unit l.fn.out l.out
