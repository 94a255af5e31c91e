-- Logs that say the same to whoever reads the engine's log and the unit events that it names.
use Rattle.std.specs.Prelude.{ℕ, suc, ◌≡◌, take}
use Rattle.std.specs.List.{Contains}
use Rattle.pblk_model.specs.Image.{Image}
use Rattle.pblk_world.specs.Events.{Logged}
use Rattle.pblk_world.specs.World.{Logs, prefixes}
use Rattle.pblk_world.specs.Lines.{found_image, told_by}

-- The engine's log is the same, and so are the image that the mount found and each event of a unit
-- that the engine's log names as landed, lost or reset. What a unit did beside these events may be
-- anything.
pub record AreSameTold (i : Image) (logs other : Logs) : Type 0 where
  pub own : other 0 ≡ logs 0
  pub found : found_image i other ≡ found_image i logs
  pub told : (unit : ℕ) (l : Logged) → Contains (logs 0) l → told_by other unit l.event ≡ told_by logs unit l.event

-- The engine's log is the same, and each unit's log is as far as an event of the engine knew it.
pub record AreSameNamed (logs other : Logs) : Type 0 where
  pub own : other 0 ≡ logs 0
  pub named : (unit : ℕ) (l : Logged) → Contains (logs 0) l
      → prefixes l other (suc unit) ≡ prefixes l logs (suc unit)

-- The engine's log is the same, and each unit's log goes on from what it was.
pub record UnitsWentOn (logs other : Logs) : Type 0 where
  pub own : other 0 ≡ logs 0
  pub units : (unit : ℕ) → (n : ℕ) × (logs (suc unit) ≡ take n (other (suc unit)))
