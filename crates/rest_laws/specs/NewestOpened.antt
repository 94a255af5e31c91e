-- The line that was opened last.
use Rattle.std.specs.Prelude.{◌≤◌, List}
use Rattle.std.specs.List.{Contains}
use Rattle.pblk_world.specs.EngineLog.{Opening, openings}
use Rattle.pblk_world.specs.Events.{Logged}

-- No line was opened after it.
pub record IsLastOpened (log : List Logged) (o : Opening) : Type 0 where
  pub opened : Contains (openings log) o
  pub last : (other : Opening) → Contains (openings log) other → other.number ≤ o.number
