-- The commands of a chunk that change it.
use Rattle.std.specs.Prelude.{ℕ, suc, ◌≡◌, ◌||◌, true, false, slice_get, Some}
use Rattle.pblk_model.specs.UnitLog.{UnitEvent}
use Rattle.pblk_world.specs.Events.{Logged}
use Rattle.pblk_world.specs.World.{Logs, unit_event_of}
use Rattle.pblk_world.specs.Commanding.{is_program, is_reset, was_stopped}

-- The event of this number is a program or a reset of the unit's chunk of a line, and it wasn't
-- stopped.
pub record IsChange (logs : Logs) (line unit number : ℕ) : Type 0 where
  pub logged : Logged
  pub there : slice_get (logs (suc unit)) number ≡ Some logged
  pub event : UnitEvent
  pub is_event : unit_event_of logged.event ≡ Some event
  pub its_chunk : event.chunk ≡ line
  pub kind : (is_program event.command || is_reset event.command) ≡ true
  pub going : was_stopped event.outcome ≡ false
