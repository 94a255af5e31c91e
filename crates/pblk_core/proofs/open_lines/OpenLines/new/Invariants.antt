use Rattle.std.proofs.Common.{ℕ, ◌≡◌, List, length}
use Rattle.std.specs.List.{AllByRecursion}
use Rattle.pblk_model.specs.declared.shape.Shape.{Shape}
use Rattle.pblk_core.specs.declared.open_lines.OpenLine.{OpenLine}
use Rattle.pblk_core.proofs.open_lines.OpenLines.new.Given as goal

-- so many lines of a shape
pub record AreMade (s : Shape) (n : ℕ) (lines : List OpenLine) : Type 0 where
  pub count : length lines ≡ n
  pub shapes : AllByRecursion (λ (l : OpenLine). l.records.shape ≡ s) lines

abbrev pub invariant-loop : goal.invariant-loop
invariant-loop l = AreMade l.fn.layout l.counter l.slots.items
