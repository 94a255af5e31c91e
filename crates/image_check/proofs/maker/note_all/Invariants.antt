use Rattle.std.proofs.Common.{List, ◌++◌, length, take}
use Rattle.pblk_model.specs.Records.{Record}
use Rattle.pblk_meta.specs.Records.{start_numbers}
use Rattle.image_check.specs.Makes.{bearer_behind}
use Rattle.pblk_model.specs.Tables.{IsTable}
use Rattle.image_check.proofs.maker.note_all.Given as goal

abbrev pub invariant-loop-record : goal.invariant-loop-record
invariant-loop-record l = (rs : List Record) → IsTable (length l.initial.first) (bearer_behind (start_numbers l.newest) rs) l.initial.first
    → IsTable (length l.initial.first) (bearer_behind (start_numbers l.newest) (rs ++ take l.record-index l.more)) l.first
