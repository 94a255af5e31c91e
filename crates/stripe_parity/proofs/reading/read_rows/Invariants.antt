use Rattle.std.proofs.Common.{map}
use Rattle.std.specs.List.{AllByRecursion}
use Rattle.ocssd_chunks.specs.DriveChunk.{DriveChunk}
use Rattle.ocssd_drive.specs.Units.{IsChunkIn}
use Rattle.stripe_parity.specs.ParityBytes.{AreRowsOf}
use Rattle.stripe_parity.proofs.reading.read_rows.Given as goal

abbrev pub invariant-loop-chunk : goal.invariant-loop-chunk
invariant-loop-chunk l = record {
  rows : AreRowsOf l.shape l.bytes (map (λ of. of.items) l.kept) l.chunk l.at (map (λ (c : DriveChunk). c.chunk.blocks) l.rows.items);
  fits : AllByRecursion (IsChunkIn l.shape) l.rows.items;
}
