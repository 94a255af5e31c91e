use Rattle.std.proofs.Common.{◌≡◌, ◌*◌, ◌≤◌, take}
use Rattle.std.specs.List.{sum_by}
use Rattle.ocssd_drive.specs.Drive.{shape_of, stored}
use Rattle.drive_image.specs.Storing.{written_in}
use Rattle.drive_image.proofs.counting.written_blocks.Given as goal

abbrev pub invariant-loop-unit : goal.invariant-loop-unit
invariant-loop-unit l = record {
  counted : l.blocks ≡ sum_by written_in (take l.unit (stored l.drive).units);
  few : l.blocks ≤ l.unit * ((shape_of l.drive).chunks * (shape_of l.drive).clba);
}
