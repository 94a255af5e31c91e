use Rattle.std.specs.List.{flat_map, range_with_len}
use Rattle.std.proofs.Common.{length}
use Rattle.pblk_model.specs.Records.{line_records, records}
use Rattle.pblk_meta.specs.Records.{start_numbers}
use Rattle.image_check.specs.Makes.{bearer_behind}
use Rattle.pblk_model.specs.Tables.{IsTable}
use Rattle.image_check.proofs.DriveImage.{image}
use Rattle.image_check.proofs.maker.first_of.Given as goal

abbrev pub invariant-loop-number : goal.invariant-loop-number
invariant-loop-number l = IsTable (length (records (image l.drive)))
    (bearer_behind (start_numbers l.newest) (flat_map (line_records (image l.drive)) (range_with_len 0 l.number))) l.first.items
