use Rattle.std.specs.Prelude.{◌≡◌}
use Rattle.table_bench.proofs.victims.Index.fill.Given as goal

abbrev pub invariant-loop-line : goal.invariant-loop-line
invariant-loop-line l = l.self.count ≡ l.line-end
