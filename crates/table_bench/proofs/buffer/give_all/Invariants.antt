use Rattle.std.proofs.Common.{◌≡◌, ◌+◌, List, length}
use Rattle.std.specs.List.{AllByRecursion}
use Rattle.pblk_model.specs.Frames.{FrameView, PoolView, count_out}
use Rattle.table_bench.proofs.buffer.give_all.Given as goal

-- the rest is still out
pub record Gives (all rest : List FrameView) (before now : PoolView) : Type 0 where
  pub own : AllByRecursion (λ (f : FrameView). f.region ≡ now.region) rest
  pub region : now.region ≡ before.region
  pub out : count_out now.left + length all ≡ count_out before.left + length rest

abbrev pub invariant-loop-frame : goal.invariant-loop-frame
invariant-loop-frame l = Gives l.fn.frames.items l.frames.items l.fn.pool l.pool

abbrev pub decreases-loop-frame : goal.decreases-loop-frame
decreases-loop-frame l = length l.frames.items
