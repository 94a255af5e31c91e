use Rattle.std.proofs.Common.{ℕ, ◌≡◌, ◌<◌, ◌≤◌, false}
use Rattle.line_table.specs.Rows.{is_outlived_at}
use Rattle.line_table.specs.LineSets.{has}
use Rattle.line_table.proofs.opening.outlived_lines.Given as goal

abbrev pub invariant-loop-line : goal.invariant-loop-line
invariant-loop-line l = record {
  before : (n : ℕ) → n < l.line → has l.outlived n ≡ is_outlived_at l.rows n;
  behind : (n : ℕ) → l.line ≤ n → has l.outlived n ≡ false;
}
