use Rattle.std.proofs.Common.{ℕ, List, ◌++◌, filter, take}
use Rattle.pblk_model.specs.Contents.{counts, winner}
use Rattle.pblk_model.specs.Records.{Record}
use Rattle.pblk_meta.specs.Records.{start_numbers}
use Rattle.pblk_model.specs.Tables.{IsTable}
use Rattle.image_check.proofs.winners.note_all.Given as goal

abbrev pub invariant-loop-record : goal.invariant-loop-record
invariant-loop-record l = (n : ℕ) (rs : List Record) → IsTable n (winner (filter (counts (start_numbers l.newest) l.last) rs)) l.initial.best
    → IsTable n (winner (filter (counts (start_numbers l.newest) l.last) (rs ++ take l.record-index l.more))) l.best
