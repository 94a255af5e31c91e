use Rattle.std.specs.List.{flat_map, range_with_len}
use Rattle.pblk_model.specs.Records.{line_records}
use Rattle.pblk_meta.specs.Records.{start_numbers}
use Rattle.image_check.specs.Bearers.{IsSeen}
use Rattle.image_check.proofs.DriveImage.{image}
use Rattle.image_check.proofs.bearers.seen_of.Given as goal

abbrev pub invariant-loop-number : goal.invariant-loop-number
invariant-loop-number l = IsSeen (start_numbers l.newest) l.bears l.last (flat_map (line_records (image l.drive)) (range_with_len 0 l.number)) l.seen
