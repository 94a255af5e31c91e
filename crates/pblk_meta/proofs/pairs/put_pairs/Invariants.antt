use Rattle.std.proofs.Common.{◌≡◌, ◌+◌, ◌*◌, ◌++◌, length, take}
use Rattle.std.specs.List.{AllByRecursion, flat_map}
use Rattle.pblk_laws.specs.EndBlocks.{FitsBytes}
use Rattle.pblk_model.specs.EndRecord.{pair_bytes}
use Rattle.pblk_meta.proofs.pairs.put_pairs.Given as goal

abbrev pub invariant-loop-pair : goal.invariant-loop-pair
invariant-loop-pair l = record {
  placed : take l.place l.out ≡ take l.at l.initial.out ++ flat_map pair_bytes (take l.pair-index l.pairs);
  place : l.place ≡ l.at + 16 * l.pair-index;
  fit : AllByRecursion FitsBytes (take l.pair-index l.pairs);
  len : length l.out ≡ length l.initial.out;
}
