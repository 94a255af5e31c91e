-- Stripes that were placed, with their turns.
use Rattle.std.specs.Prelude.{ℕ, ◌≡◌, List, slice_get, Some}
use Rattle.pblk_world.specs.EngineLog.{Placed, placements}
use Rattle.pblk_world.specs.Events.{Logged}
use Rattle.pblk_core.specs.Filling.{Filling}
use Rattle.pblk_core.specs.Stands.{turn_told}

-- The stripe was placed, and tells its turn: how many stripes of its unit were placed before it, or
-- 2^64 - 1 where that is less.
pub record IsPlacedAs (log : List Logged) (f : Filling) : Type 0 where
  pub number : ℕ
  pub placed : Placed
  pub there : slice_get (placements log) number ≡ Some placed
  pub stripe : placed.stripe ≡ f.stripe
  pub turn : turn_told log placed ≡ f.turn
