use Rattle.std.proofs.Common.{◌≡◌, drop, map}
use Rattle.std.specs.List.{list_any}
use Rattle.pblk_meta.specs.Records.{row_numbers}
use Rattle.image_check.specs.Counting.{bounds}
use Rattle.image_check.proofs.winners.is_below_row.Given as goal

abbrev pub invariant-loop-row : goal.invariant-loop-row
invariant-loop-row l = list_any (bounds l.record) (map row_numbers (drop l.row-index l.rows)) ≡ list_any (bounds l.record) (map row_numbers l.rows)
