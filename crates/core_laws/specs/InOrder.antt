-- What holds of the logs of each legal mount.
use Rattle.std.specs.Prelude.{ℕ, ◌*◌, ◌<◌, ◌≤◌, ◌≡◌, false, List, length, slice_index, Option}
use Rattle.std.specs.List.{AllByRecursion}
use Rattle.pblk_model.specs.declared.shape.Shape.{Shape}
use Rattle.pblk_model.specs.LineOrder.{data_len}
use Rattle.pblk_model.specs.Marks.{meta_lba}
use Rattle.pblk_model.specs.Image.{Image}
use Rattle.pblk_world.specs.Events.{Logged}
use Rattle.pblk_world.specs.World.{Logs}
use Rattle.pblk_world.specs.EngineLog.{Freed, Opening, Opened, life_of, Placed, placements, placed_on, stripes_of, answers, is_answered}
use Rattle.pblk_world.specs.Placing.{line_end}
use Rattle.core_laws.specs.Positions.{AreNumbered, AreMarked, AreTaken}
use Rattle.core_laws.specs.PlacedEntries.{AreSectorsOrVoid}

-- A placed stripe is in a line of the drive. Until it is answered the line is opened by the opening
-- that it had when the stripe was placed.
pub record IsInPlace (i : Image) (log : List Logged) (p : Placed) : Type 0 where
  pub in_range : p.stripe.line < i.shape.chunks
  pub chunk : p.stripe.chunk ≡ p.stripe.line
  pub opening : Opening
  pub life : p.life ≡ Opened opening
  pub stands : is_answered log p ≡ false → life_of log p.stripe.line ≡ Opened opening

-- What each line that was freed was freed by names a part of the engine's log, as that is now.
abbrev pub FreedBefore : List Logged → Type 0
FreedBefore log = (line : ℕ) (past : Option Opening) (knows : List ℕ) → life_of log line ≡ Freed past knows
    → slice_index knows 0 ≤ length log

pub record AreSoundLogs (i : Image) (logs : Logs) : Type 0 where
  pub small : i.shape.capacity ≤ meta_lba
  pub numbered : AreNumbered (logs 0)
  pub marked : AreMarked (logs 0)
  pub named : AreSectorsOrVoid i.shape (logs 0)
  pub taken : AreTaken i.shape (logs 0)
  pub placed : AllByRecursion (IsInPlace i (logs 0)) (placements (logs 0))
  pub answered : (unit : ℕ) → length (answers (logs 0) unit) ≤ length (placed_on (logs 0) unit)
  pub freed : FreedBefore (logs 0)

-- an opened line has no more stripes than it has room for
pub record FitsItsLine (s : Shape) (log : List Logged) (o : Opening) : Type 0 where
  pub some : 0 < data_len s o.start.width
  pub within : length (stripes_of log o) * s.ws_opt ≤ line_end s o
