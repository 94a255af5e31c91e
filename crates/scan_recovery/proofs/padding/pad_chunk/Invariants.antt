use Rattle.std.proofs.Common.{◌≡◌, map, Ok}
use Rattle.unit_port.specs.Commands.{AreKept}
use Rattle.scan_recovery.specs.Units.{image_of}
use Rattle.scan_recovery.specs.Pads.{NoneOpenBefore, room_at}
use Rattle.scan_recovery.proofs.PadLoops.{HasRun}
use Rattle.scan_recovery.proofs.padding.pad_chunk.Given as goal

abbrev pub invariant-loop-at : goal.invariant-loop-at
invariant-loop-at g l = record {
  ran : HasRun l.shape (map g.U.Unit.model l.fn.units) (map g.U.Unit.model l.units) (Ok tt);
  before : NoneOpenBefore (image_of l.shape (map g.U.Unit.model l.units)) l.line l.unit;
  kept : AreKept (map g.U.Unit.model l.fn.units) (map g.U.Unit.model l.units);
  wear : map g.U.Unit.wear l.units ≡ map g.U.Unit.wear l.fn.units;
}

abbrev pub decreases-loop-at : goal.decreases-loop-at
decreases-loop-at g l = room_at l.shape (image_of l.shape (map g.U.Unit.model l.units)) l.line l.unit
