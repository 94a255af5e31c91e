use Rattle.std.proofs.Common.{◌≡◌, ◌≤◌, vec_len}
use Rattle.std.specs.List.{filter_map, range_with_len}
use Rattle.pblk_reference.specs.Reading.{record_with}
use Rattle.pblk_reference.proofs.record.records_with.Given as goal

abbrev pub invariant-loop-at : goal.invariant-loop-at
invariant-loop-at l = record {
  records : l.found.items ≡ filter_map (record_with l.image l.line l.seq l.end) (range_with_len 0 l.at);
  few : vec_len l.found ≤ l.at;
}
