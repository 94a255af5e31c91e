-- Steps of the engine in a mount that has begun, and events of its log over which a victim is at
-- work.
use Rattle.std.specs.Prelude.{ℕ, suc, ◌<◌, ◌≡◌, ◌∷◌, length, slice_get, Some}
use Rattle.pblk_model.specs.Image.{Image}
use Rattle.pblk_model.specs.UnitLog.{UnitEvent}
use Rattle.pblk_world.specs.Events.{Decides, EngineEvent, Logged, ResetDone, Step}
use Rattle.pblk_world.specs.Victims.{victim}
use Rattle.pblk_world.specs.World.{World, log_of, unit_event_at}
use Rattle.pblk_world.specs.LegalMounts.{IsLegalMount}

-- The step of a legal mount that has begun is the engine's, and decides so.
pub record IsEngineStep (i : Image) (s : Step) (w : World) (e : EngineEvent) : Type 0 where
  pub mount : IsLegalMount i (s ∷ w)
  pub has_begun : 0 < length (log_of w 0)
  pub own : s.author ≡ 0
  pub decides : s.logged.event ≡ Decides e

-- The engine notes in it that this event of a unit, a reset, was done.
pub record NotesReset (i : Image) (s : Step) (w : World) (e : UnitEvent) : Type 0 where
  pub unit : ℕ
  pub number : ℕ
  pub step : IsEngineStep i s w (ResetDone unit number)
  pub there : unit_event_at (log_of w) unit number ≡ Some e

-- In a legal mount that had begun, the engine's log has this event at this number. The line is at
-- work as the victim before the event and after it.
pub record IsAtWorkOver (i : Image) (w : World) (line number : ℕ) (l : Logged) : Type 0 where
  pub mount : IsLegalMount i w
  pub has_begun : 0 < number
  pub there : slice_get (log_of w 0) number ≡ Some l
  pub before : victim i (log_of w) number ≡ Some line
  pub after : victim i (log_of w) (suc number) ≡ Some line
