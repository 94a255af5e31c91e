use Rattle.std.proofs.Common.{◌≡◌, ◌≤◌, ◌*◌, take}
use Rattle.std.specs.List.{sum_by}
use Rattle.stripe_parity.specs.declared.kept.KeptChunk.{KeptChunk}
use Rattle.stripe_parity.specs.Rebuilding.{kept_of_unit}
use Rattle.stripe_parity.proofs.rebuilding.lost_blocks.Given as goal

abbrev pub invariant-loop-chunk : goal.invariant-loop-chunk
invariant-loop-chunk l = record {
  sum : l.blocks ≡ sum_by (λ (k : KeptChunk). k.pointer) (take l.chunk (kept_of_unit l.parity.chunks l.lost));
  few : l.blocks ≤ l.chunk * l.parity.shape.clba;
}
