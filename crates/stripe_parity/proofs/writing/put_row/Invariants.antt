use Rattle.std.proofs.Common.{◌≡◌, ◌++◌, take}
use Rattle.std.specs.List.{flat_map}
use Rattle.pblk_model.specs.ImageFile.{block_bytes}
use Rattle.stripe_parity.proofs.writing.put_row.Given as goal

abbrev pub invariant-loop-block : goal.invariant-loop-block
invariant-loop-block l = l.out.items ≡ l.fn.out.items ++ flat_map block_bytes (take l.block l.row.chunk.blocks)
