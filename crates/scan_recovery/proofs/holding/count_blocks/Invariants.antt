use Rattle.std.proofs.Common.{◌++◌, ◌≡◌, Some}
use Rattle.pblk_model.specs.Contents.{head}
use Rattle.pblk_model.specs.StartRecord.{StartRecord, start_of}
use Rattle.scan_recovery.specs.Mounts.{IsCount}
use Rattle.scan_recovery.specs.Reading.{records_to}
use Rattle.scan_recovery.specs.Survey.{records_before}
use Rattle.scan_recovery.proofs.holding.count_blocks.Given as goal

abbrev pub invariant-loop-at : goal.invariant-loop-at
invariant-loop-at l = (start : StartRecord) → start_of l.media l.line ≡ Some start
    → IsCount l.media.shape.capacity l.media.shape.chunks (head l.media) (records_before l.media l.line ++ records_to l.media l.line start l.at) l.count
