use Rattle.std.proofs.Common.{◌≡◌, ◌*◌, ◌≤◌, length}
use Rattle.std.specs.List.{flat_map, range_with_len}
use Rattle.pblk_model.specs.Records.{line_records}
use Rattle.image_check.proofs.DriveImage.{image}
use Rattle.image_check.proofs.maker.records_in.Given as goal

abbrev pub invariant-loop-number : goal.invariant-loop-number
invariant-loop-number l = record {
  count : l.count ≡ length (flat_map (line_records (image l.drive)) (range_with_len 0 l.number));
  few : l.count ≤ l.number * 65536;
}
