use Rattle.std.proofs.Common.{◌++◌, ◌≡◌, length, map, Some, None}
use Rattle.pblk_model.specs.Contents.{head}
use Rattle.pblk_model.specs.StartRecord.{StartRecord, start_of}
use Rattle.unit_port.specs.Commands.{AreKept}
use Rattle.scan_recovery.specs.Fetches.{WereFewFetched, only_of, written_to}
use Rattle.scan_recovery.specs.Mounts.{IsCount}
use Rattle.scan_recovery.specs.Reading.{records_to}
use Rattle.scan_recovery.specs.Survey.{records_before}
use Rattle.scan_recovery.specs.Units.{image_of}
use Rattle.scan_recovery.proofs.scanning.count_marks.Given as goal

abbrev pub invariant-loop-at : goal.invariant-loop-at
invariant-loop-at g l = record {
  ran : WereFewFetched l.shape (map g.U.Unit.model l.fn.units) (map g.U.Unit.model l.units) None
      (only_of l.line (written_to (image_of l.shape (map g.U.Unit.model l.fn.units)) l.line l.at));
  count : let i = image_of l.shape (map g.U.Unit.model l.fn.units) in
      (start : StartRecord) → start_of i l.line ≡ Some start
      → IsCount i.shape.capacity i.shape.chunks (head i) (records_before i l.line ++ records_to i l.line start l.at) l.count;
  sector : length l.out ≡ l.shape.sector;
  kept : AreKept (map g.U.Unit.model l.fn.units) (map g.U.Unit.model l.units);
  wear : map g.U.Unit.wear l.units ≡ map g.U.Unit.wear l.fn.units;
}
