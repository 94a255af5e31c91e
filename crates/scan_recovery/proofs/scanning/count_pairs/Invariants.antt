use Rattle.std.proofs.Common.{◌++◌, ◌≡◌, map, Some}
use Rattle.pblk_model.specs.Contents.{head}
use Rattle.pblk_model.specs.StartRecord.{StartRecord, start_of}
use Rattle.scan_recovery.specs.Mounts.{IsCount}
use Rattle.scan_recovery.specs.Reading.{records_to}
use Rattle.scan_recovery.specs.Survey.{records_before}
use Rattle.scan_recovery.specs.Units.{image_of}
use Rattle.scan_recovery.proofs.scanning.count_pairs.Given as goal

abbrev pub invariant-loop-at : goal.invariant-loop-at
invariant-loop-at g l =
    let i = image_of l.shape (map g.U.Unit.model l.units) in
    (start : StartRecord) → start_of i l.line ≡ Some start
    → IsCount i.shape.capacity i.shape.chunks (head i) (records_before i l.line ++ records_to i l.line start l.at) l.count
