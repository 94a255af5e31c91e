use Rattle.std.proofs.Common.{◌≡◌, false, take}
use Rattle.std.specs.Prelude.{◌==◌, ◌&&◌, nat_lt}
use Rattle.std.specs.List.{list_any}
use Rattle.pblk_reference.proofs.recovery.has_row.Given as goal

abbrev pub invariant-loop-row : goal.invariant-loop-row
invariant-loop-row l = list_any (λ row. (row.line == l.r.line) && (row.seq == l.r.seq) && nat_lt l.r.position row.bound) (take l.row-index l.rows) ≡ false
