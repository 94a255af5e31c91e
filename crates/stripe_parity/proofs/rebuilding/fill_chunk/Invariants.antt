use Rattle.std.proofs.Common.{◌≡◌, ℕ, ◌*◌, map, length, slice_get, None, Some}
use Rattle.pblk_model.specs.Blocks.{blocks_of}
use Rattle.pblk_model.specs.Chunk.{Block}
use Rattle.unit_port.specs.Commands.{AreKept}
use Rattle.scan_recovery.specs.Units.{image_of}
use Rattle.scan_recovery.proofs.FetchSteps.{Fetched}
use Rattle.stripe_parity.specs.Rebuilding.{IsRebuiltBlock}
use Rattle.stripe_parity.proofs.rebuilding.fill_chunk.Given as goal

abbrev pub invariant-loop-block : goal.invariant-loop-block
invariant-loop-block g l = record {
  ran : Fetched l.parity.shape (map g.U.Unit.model l.fn.units) (map g.U.Unit.model l.units) None;
  kept : AreKept (map g.U.Unit.model l.fn.units) (map g.U.Unit.model l.units);
  wear : map g.U.Unit.wear l.units ≡ map g.U.Unit.wear l.fn.units;
  many : length l.marks.items ≡ l.block;
  whole : length l.bytes.items ≡ length l.marks.items * l.parity.shape.sector;
  each : (k : ℕ) (b : Block) → slice_get (blocks_of l.parity.shape.sector l.bytes.items l.marks.items) k ≡ Some b
      → IsRebuiltBlock l.parity (image_of l.parity.shape (map g.U.Unit.model l.fn.units)) l.lost l.fn.chunk k b;
}
