use Rattle.std.proofs.Common.{◌≡◌, ◌≤◌, ◌*◌, vec_len}
use Rattle.std.specs.List.{flat_map, range_with_len}
use Rattle.pblk_reference.specs.Reading.{records_on}
use Rattle.pblk_reference.proofs.record.records.Given as goal

abbrev pub invariant-loop-line : goal.invariant-loop-line
invariant-loop-line l = record {
  records : l.all.items ≡ flat_map (records_on l.image) (range_with_len 0 l.line);
  few : vec_len l.all ≤ 65536 * l.line;
}
