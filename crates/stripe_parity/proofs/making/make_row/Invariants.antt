use Rattle.std.proofs.Common.{◌≡◌, ◌*◌, length, map, None}
use Rattle.std.specs.List.{range_with_len}
use Rattle.pblk_model.specs.Blocks.{blocks_of}
use Rattle.unit_port.specs.Commands.{AreKept}
use Rattle.scan_recovery.specs.Units.{image_of}
use Rattle.scan_recovery.proofs.FetchSteps.{Fetched}
use Rattle.stripe_parity.specs.ParityFile.{parity_block}
use Rattle.stripe_parity.proofs.making.make_row.Given as goal

abbrev pub invariant-loop-block : goal.invariant-loop-block
invariant-loop-block g l = record {
  ran : Fetched l.shape (map g.U.Unit.model l.fn.units) (map g.U.Unit.model l.units) None;
  kept : AreKept (map g.U.Unit.model l.fn.units) (map g.U.Unit.model l.units);
  wear : map g.U.Unit.wear l.units ≡ map g.U.Unit.wear l.fn.units;
  blocks : blocks_of l.shape.sector l.bytes.items l.marks.items ≡ map (parity_block (image_of l.shape (map g.U.Unit.model l.fn.units)) l.chunk)
      (range_with_len 0 l.block);
  whole : length l.bytes.items ≡ length l.marks.items * l.shape.sector;
}
