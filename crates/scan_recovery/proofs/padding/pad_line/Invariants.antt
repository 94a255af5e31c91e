use Rattle.std.proofs.Common.{◌≡◌, map, Ok}
use Rattle.unit_port.specs.Commands.{AreKept}
use Rattle.scan_recovery.specs.Units.{image_of}
use Rattle.scan_recovery.specs.Pads.{NoneOpenBefore}
use Rattle.scan_recovery.proofs.PadLoops.{HasRun}
use Rattle.scan_recovery.proofs.padding.pad_line.Given as goal

abbrev pub invariant-loop-unit : goal.invariant-loop-unit
invariant-loop-unit g l = record {
  ran : HasRun l.shape (map g.U.Unit.model l.fn.units) (map g.U.Unit.model l.units) (Ok tt);
  before : NoneOpenBefore (image_of l.shape (map g.U.Unit.model l.units)) l.line l.unit;
  kept : AreKept (map g.U.Unit.model l.fn.units) (map g.U.Unit.model l.units);
  wear : map g.U.Unit.wear l.units ≡ map g.U.Unit.wear l.fn.units;
}
