use Rattle.std.proofs.Common.{List, ◌++◌, take}
use Rattle.pblk_model.specs.Records.{Record}
use Rattle.pblk_meta.specs.Records.{start_numbers}
use Rattle.image_check.specs.Bearers.{IsSeen}
use Rattle.image_check.proofs.bearers.Seen.note_all.Given as goal

abbrev pub invariant-loop-record : goal.invariant-loop-record
invariant-loop-record l = (rs : List Record) → IsSeen (start_numbers l.newest) l.bears l.last rs l.initial.self
    → IsSeen (start_numbers l.newest) l.bears l.last (rs ++ take l.record-index l.more) l.self
