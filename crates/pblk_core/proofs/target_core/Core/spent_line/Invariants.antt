use Rattle.std.proofs.Common.{ℕ, ◌≡◌, ◌-◌, ◌<◌, length}
use Rattle.write_window.specs.Window as view
use Rattle.pblk_core.specs.Freeing.{IsSpentIn}
use Rattle.pblk_core.proofs.target_core.Core.spent_line.Given as goal

abbrev pub invariant-loop-line : goal.invariant-loop-line
invariant-loop-line l = (l.synced ≡ (view.synced l.self.window).position) × ((m : ℕ) → m < l.from → ¬ IsSpentIn l.self m)

abbrev pub decreases-loop-line : goal.decreases-loop-line
decreases-loop-line l = length l.self.lines.rows - l.from
