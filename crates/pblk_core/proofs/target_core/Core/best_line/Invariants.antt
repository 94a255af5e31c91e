use Rattle.std.proofs.Common.{ℕ, ◌≡◌, ◌<◌, Some, length}
use Rattle.std.specs.Prelude.{slice_get}
use Rattle.pblk_core.specs.Collecting.{weighed}
use Rattle.pblk_core.proofs.target_core.Core.best_line.Given as goal

abbrev pub invariant-loop-line : goal.invariant-loop-line
invariant-loop-line l = record {
  unchanged : l.self ≡ record l.initial.self { collection = record l.initial.self.collection { lines = l.self.collection.lines } };
  count : length l.self.collection.lines ≡ length l.initial.self.collection.lines;
  each : (line : ℕ) → line < l.line → slice_get l.self.collection.lines line ≡ Some (weighed l.initial.self line);
}
