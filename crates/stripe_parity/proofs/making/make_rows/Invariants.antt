use Rattle.std.proofs.Common.{◌≡◌, map, None}
use Rattle.std.specs.List.{AllByRecursion, range_with_len}
use Rattle.ocssd_chunks.specs.DriveChunk.{DriveChunk}
use Rattle.ocssd_drive.specs.Units.{IsChunkIn}
use Rattle.unit_port.specs.Commands.{AreKept}
use Rattle.scan_recovery.specs.Units.{image_of}
use Rattle.scan_recovery.proofs.FetchSteps.{Fetched}
use Rattle.stripe_parity.specs.ParityFile.{parity_row}
use Rattle.stripe_parity.proofs.making.make_rows.Given as goal

abbrev pub invariant-loop-chunk : goal.invariant-loop-chunk
invariant-loop-chunk g l = record {
  ran : Fetched l.shape (map g.U.Unit.model l.fn.units) (map g.U.Unit.model l.units) None;
  kept : AreKept (map g.U.Unit.model l.fn.units) (map g.U.Unit.model l.units);
  rows : map (λ (c : DriveChunk). c.chunk.blocks) l.rows.items ≡ map (parity_row (image_of l.shape (map g.U.Unit.model l.fn.units))) (range_with_len 0 l.chunk);
  wear : map g.U.Unit.wear l.units ≡ map g.U.Unit.wear l.fn.units;
  fits : AllByRecursion (IsChunkIn l.shape) l.rows.items;
}
