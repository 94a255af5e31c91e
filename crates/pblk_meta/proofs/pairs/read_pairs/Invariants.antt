use Rattle.std.proofs.Common.{◌≡◌, ◌≤◌, ◌*◌, ◌-◌, ◌++◌, length}
use Rattle.pblk_model.specs.EndRecord.{pairs_in}
use Rattle.pblk_meta.proofs.pairs.read_pairs.Given as goal

abbrev pub invariant-loop : goal.invariant-loop
invariant-loop l = record {
  long : 16 * (l.count - l.counter) ≤ length l.rest;
  pairs : l.pairs ++ pairs_in (l.count - l.counter) l.rest ≡ pairs_in l.count l.bytes;
}
