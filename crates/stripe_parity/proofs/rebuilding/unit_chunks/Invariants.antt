use Rattle.std.proofs.Common.{◌≡◌, ℕ, map, length, slice_get, None, Some}
use Rattle.std.specs.List.{AllByRecursion}
use Rattle.pblk_model.specs.Chunk.{Chunk}
use Rattle.ocssd_chunks.specs.DriveChunk.{DriveChunk}
use Rattle.ocssd_drive.specs.Units.{IsChunkIn}
use Rattle.unit_port.specs.Commands.{AreKept}
use Rattle.scan_recovery.specs.Units.{image_of}
use Rattle.scan_recovery.proofs.FetchSteps.{Fetched}
use Rattle.stripe_parity.specs.Rebuilding.{IsRebuiltChunk}
use Rattle.stripe_parity.proofs.rebuilding.unit_chunks.Given as goal

abbrev pub invariant-loop-chunk : goal.invariant-loop-chunk
invariant-loop-chunk g l = record {
  ran : Fetched l.parity.shape (map g.U.Unit.model l.fn.units) (map g.U.Unit.model l.units) None;
  kept : AreKept (map g.U.Unit.model l.fn.units) (map g.U.Unit.model l.units);
  wear : map g.U.Unit.wear l.units ≡ map g.U.Unit.wear l.fn.units;
  count : length l.chunks.items ≡ l.chunk;
  each : (k : ℕ) (c : Chunk) → slice_get (map (λ (x : DriveChunk). x.chunk) l.chunks.items) k ≡ Some c
      → IsRebuiltChunk l.parity (image_of l.parity.shape (map g.U.Unit.model l.fn.units)) l.lost k c;
  fits : AllByRecursion (IsChunkIn l.parity.shape) l.chunks.items;
}
