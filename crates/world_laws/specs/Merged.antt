-- What two authors know together.
use Rattle.std.specs.Prelude.{ℕ, suc, ◌≡◌, ◌⊎◌, ◌++◌, List}
use Rattle.pblk_world.specs.Events.{Logged}
use Rattle.pblk_world.specs.World.{Logs}

-- a log begins another
abbrev pub Begins : List Logged → List Logged → Type 0
Begins some all = (rest : List Logged) × (all ≡ some ++ rest)

-- The engine's log is at least what either of them knows of it. Each unit's log is no longer than
-- what one of them knows of it.
pub record AreMerged (a b merged : Logs) : Type 0 where
  pub engine_of_first : Begins (a 0) (merged 0)
  pub engine_of_second : Begins (b 0) (merged 0)
  pub units : (unit : ℕ) → Begins (merged (suc unit)) (a (suc unit)) ⊎ Begins (merged (suc unit)) (b (suc unit))
