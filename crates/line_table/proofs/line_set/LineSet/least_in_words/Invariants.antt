use Rattle.std.proofs.Common.{ℕ, ◌≡◌, ◌<◌, ◌≤◌, ◌*◌, false}
use Rattle.line_table.specs.LineSets.{has}
use Rattle.line_table.proofs.line_set.LineSet.least_in_words.Given as goal

-- no line of the words from the first to here is in the set
abbrev pub invariant-loop-index : goal.invariant-loop-index
invariant-loop-index l = (m : ℕ) → l.first * 64 ≤ m → m < l.index * 64 → has l.self-inside.words m ≡ false
