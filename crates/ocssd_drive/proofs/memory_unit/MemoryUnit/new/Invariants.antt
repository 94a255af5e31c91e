use Rattle.std.proofs.Common.{◌≡◌, replicate}
use Rattle.std.specs.List.{AllByRecursion}
use Rattle.pblk_model.specs.Chunk.{free_chunk}
use Rattle.ocssd_drive.specs.Units.{IsChunkIn}
use Rattle.ocssd_drive.proofs.UnitChunks.{chunks_of}
use Rattle.ocssd_drive.proofs.memory_unit.MemoryUnit.new.Given as goal

abbrev pub invariant-loop-chunk : goal.invariant-loop-chunk
invariant-loop-chunk l = record {
  media : chunks_of l.chunks.items ≡ replicate l._chunk free_chunk;
  chunks : AllByRecursion (IsChunkIn l.fn.shape) l.chunks.items;
  worn : l.wear.items ≡ replicate l._chunk 0;
}
