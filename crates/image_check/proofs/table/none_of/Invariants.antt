use Rattle.std.proofs.Common.{None}
use Rattle.pblk_model.specs.Tables.{IsTable}
use Rattle.image_check.proofs.table.none_of.Given as goal

abbrev pub invariant-loop-place : goal.invariant-loop-place
invariant-loop-place g l = IsTable l._place (λ k. None) l.none.items
