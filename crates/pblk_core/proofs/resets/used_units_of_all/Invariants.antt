use Rattle.std.proofs.Common.{◌≡◌, ◌<◌, ℕ, length}
use Rattle.std.specs.List.{slice_index_or}
use Rattle.pblk_model.specs.Shape.{units}
use Rattle.pblk_layout.specs.Online.{units_in}
use Rattle.pblk_core.specs.Resets.{used_below}
use Rattle.pblk_core.proofs.resets.used_units_of_all.Given as goal

abbrev pub invariant-loop-line : goal.invariant-loop-line
invariant-loop-line l = record {
  lines : length l.used.items ≡ l.line;
  each : (n : ℕ) → n < l.line → units_in (slice_index_or l.used.items n 0) ≡ used_below l.shape l.states n (units l.shape);
}
