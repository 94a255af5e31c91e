use Rattle.std.proofs.Common.{◌≡◌, ◌++◌, ◌-◌, vec_len}
use Rattle.pblk_model.specs.StartRecord.{rows_in}
use Rattle.pblk_reference.proofs.start.rows_in.Given as goal

abbrev pub invariant-loop : goal.invariant-loop
invariant-loop l = record {
  rows : l.rows.items ++ rows_in (l.count - l.counter) l.rest ≡ rows_in l.count l.bytes;
  len : vec_len l.rows ≡ l.counter;
}
