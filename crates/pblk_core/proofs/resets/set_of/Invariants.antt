use Rattle.std.proofs.Common.{◌≡◌, ℕ, eqb, take}
use Rattle.std.specs.List.{list_any}
use Rattle.line_table.specs.LineSets.{has}
use Rattle.pblk_core.proofs.resets.set_of.Given as goal

abbrev pub invariant-loop-line : goal.invariant-loop-line
invariant-loop-line l = (n : ℕ) → has l.set n ≡ list_any (λ line. eqb line n) (take l.line-index l.lines)
