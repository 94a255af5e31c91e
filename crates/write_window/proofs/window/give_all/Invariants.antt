use Rattle.std.proofs.Common.{◌≡◌, ◌+◌, List, length}
use Rattle.pblk_model.specs.Frames.{PoolView, count_left, count_out}
use Rattle.write_window.specs.declared.held.Held.{Held}
use Rattle.write_window.specs.Window.{AreOf, given}
use Rattle.write_window.proofs.window.give_all.Given as goal

-- to give the rest back is to give all back
pub record Gives (all rest : List Held) (before now : PoolView) : Type 0 where
  pub own : AreOf now.region rest
  pub region : now.region ≡ before.region
  pub given : given rest now.left ≡ given all before.left
  pub left : count_left now.left + length rest ≡ count_left before.left + length all
  pub out : count_out now.left + length all ≡ count_out before.left + length rest

abbrev pub invariant-loop-held : goal.invariant-loop-held
invariant-loop-held l = Gives l.fn.entries.items l.entries.items l.fn.pool l.pool

abbrev pub decreases-loop-held : goal.decreases-loop-held
decreases-loop-held l = length l.entries.items
