use Rattle.std.proofs.Common.{◌≡◌, ◌≤◌, length}
use Rattle.std.specs.List.{filter, range_with_len}
use Rattle.pblk_world.specs.Tidy.{has_free_chunks}
use Rattle.image_check.proofs.DriveImage.{image}
use Rattle.image_check.proofs.tidy.free_lines.Given as goal

abbrev pub invariant-loop-number : goal.invariant-loop-number
invariant-loop-number l = record {
  is : l.count ≡ length (filter (has_free_chunks (image l.drive)) (range_with_len 0 l.number));
  few : l.count ≤ l.number;
}
