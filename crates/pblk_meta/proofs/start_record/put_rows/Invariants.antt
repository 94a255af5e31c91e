use Rattle.std.proofs.Common.{◌≡◌, ◌+◌, ◌*◌, ◌++◌, length, map, take}
use Rattle.std.specs.List.{flat_map}
use Rattle.pblk_model.specs.StartRecord.{row_bytes}
use Rattle.pblk_meta.specs.Records.{row_numbers}
use Rattle.pblk_meta.proofs.start_record.put_rows.Given as goal

abbrev pub invariant-loop-row : goal.invariant-loop-row
invariant-loop-row l = record {
  placed : take l.place l.out ≡ take l.at l.initial.out ++ flat_map row_bytes (map row_numbers (take l.row-index l.rows));
  place : l.place ≡ l.at + 24 * l.row-index;
  len : length l.out ≡ length l.initial.out;
}
