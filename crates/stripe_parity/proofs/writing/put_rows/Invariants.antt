use Rattle.std.proofs.Common.{◌≡◌, ◌++◌, take, map}
use Rattle.std.specs.List.{flat_map}
use Rattle.ocssd_chunks.specs.DriveChunk.{DriveChunk}
use Rattle.pblk_model.specs.ImageFile.{block_bytes}
use Rattle.stripe_parity.proofs.writing.put_rows.Given as goal

abbrev pub invariant-loop-row : goal.invariant-loop-row
invariant-loop-row l = l.out.items ≡ l.fn.out.items ++ flat_map (flat_map block_bytes) (take l.row-index (map (λ (r : DriveChunk). r.chunk.blocks) l.rows))
