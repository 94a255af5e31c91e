use Rattle.std.proofs.Common.{◌≡◌, ◌++◌, ◌-◌, vec_len}
use Rattle.pblk_model.specs.EndRecord.{pairs_in}
use Rattle.pblk_reference.proofs.end_record.pairs_in.Given as goal

abbrev pub invariant-loop : goal.invariant-loop
invariant-loop l = record {
  pairs : l.pairs.items ++ pairs_in (l.count - l.counter) l.rest ≡ pairs_in l.count l.bytes;
  len : vec_len l.pairs ≡ l.counter;
}
