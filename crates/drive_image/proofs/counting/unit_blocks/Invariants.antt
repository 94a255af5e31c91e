use Rattle.std.proofs.Common.{◌≡◌, ◌*◌, ◌≤◌, take}
use Rattle.ocssd_drive.specs.Units.{stored_chunks}
use Rattle.drive_image.specs.Storing.{written_in}
use Rattle.drive_image.proofs.counting.unit_blocks.Given as goal

abbrev pub invariant-loop-chunk : goal.invariant-loop-chunk
invariant-loop-chunk l = record {
  counted : l.blocks ≡ written_in (take l.chunk (stored_chunks l.kept));
  few : l.blocks ≤ l.chunk * l.kept.unit.shape.clba;
}
