use Rattle.std.proofs.Common.{◌≡◌, take}
use Rattle.std.specs.List.{filter}
use Rattle.pblk_model.specs.Contents.{counts}
use Rattle.pblk_reference.proofs.recovery.counted_by.Given as goal

abbrev pub invariant-loop-r : goal.invariant-loop-r
invariant-loop-r l = l.kept.items ≡ filter (counts l.head l.end) (take l.r-index l.records)
