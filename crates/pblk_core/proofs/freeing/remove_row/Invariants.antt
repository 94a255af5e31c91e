use Rattle.std.proofs.Common.{◌≡◌, ◌≢◌, take}
use Rattle.std.specs.List.{AllByRecursion}
use Rattle.pblk_meta.specs.declared.rows.Row.{Row}
use Rattle.pblk_core.proofs.freeing.remove_row.Given as goal

abbrev pub invariant-loop-index : goal.invariant-loop-index
invariant-loop-index l = (l.rows ≡ l.fn.rows) × AllByRecursion (λ (row : Row). row.line ≢ l.line) (take l.index l.rows)
