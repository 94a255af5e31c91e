use Rattle.std.proofs.Common.{◌≡◌, ◌-◌, map, None}
use Rattle.unit_port.specs.Commands.{AreKept}
use Rattle.scan_recovery.specs.Fetches.{WereFewFetched, only_of}
use Rattle.scan_recovery.specs.Reading.{blocks_at}
use Rattle.scan_recovery.specs.Units.{image_of}
use Rattle.scan_recovery.proofs.fetching.fetch_run.Given as goal

abbrev pub invariant-loop-at : goal.invariant-loop-at
invariant-loop-at g l = record {
  ran : WereFewFetched l.shape (map g.U.Unit.model l.fn.units) (map g.U.Unit.model l.units) None (only_of l.line (l.at - l.from));
  blocks : l.buffer.blocks ≡ blocks_at (image_of l.shape (map g.U.Unit.model l.fn.units)) l.line l.from (l.at - l.from);
  size : l.buffer.size ≡ l.shape.sector;
  kept : AreKept (map g.U.Unit.model l.fn.units) (map g.U.Unit.model l.units);
  wear : map g.U.Unit.wear l.units ≡ map g.U.Unit.wear l.fn.units;
}
