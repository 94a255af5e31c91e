use Rattle.std.proofs.Common.{filter}
use Rattle.std.specs.List.{flat_map, range_with_len}
use Rattle.pblk_model.specs.Contents.{counts, winner}
use Rattle.pblk_model.specs.Records.{line_records}
use Rattle.pblk_meta.specs.Records.{start_numbers}
use Rattle.pblk_model.specs.Tables.{IsTable}
use Rattle.image_check.proofs.DriveImage.{image}
use Rattle.image_check.proofs.winners.best_of.Given as goal

abbrev pub invariant-loop-number : goal.invariant-loop-number
invariant-loop-number l = IsTable (image l.drive).shape.capacity
    (winner (filter (counts (start_numbers l.newest) l.last) (flat_map (line_records (image l.drive)) (range_with_len 0 l.number)))) l.best.items
