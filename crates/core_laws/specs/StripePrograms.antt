-- The events of a legal world, by the prefixes that they name, and the programs of stripes.
use Rattle.std.specs.Prelude.{ℕ, ◌≡◌, ◌≤◌, length, Some}
use Rattle.pblk_model.specs.ChunkStep.{Write, Done}
use Rattle.pblk_model.specs.UnitLog.{UnitEvent, Answered}
use Rattle.pblk_model.specs.Image.{Image}
use Rattle.pblk_world.specs.Events.{Logged}
use Rattle.pblk_world.specs.World.{Logs, known, prefixes, unit_event_at}
use Rattle.pblk_world.specs.EngineLog.{Placed}
use Rattle.pblk_world.specs.Legal.{IsAllowed}

-- The event of this number in its author's log was allowed by the prefixes that it names, of the
-- logs as they are now.
pub record HasHappened (i : Image) (logs : Logs) (author k : ℕ) (l : Logged) : Type 0 where
  pub own : known l author ≡ k
  pub within : (other : ℕ) → known l other ≤ length (logs other)
  pub allowed : IsAllowed i author l.event (prefixes l logs)

-- the event of this number in a unit's log is the program of a stripe, and it was done
pub record IsProgramDone (logs : Logs) (unit n : ℕ) (p : Placed) : Type 0 where
  pub event : UnitEvent
  pub is_event : unit_event_at logs unit n ≡ Some event
  pub chunk : event.chunk ≡ p.stripe.chunk
  pub command : event.command ≡ Write p.stripe.at p.stripe.blocks
  pub done : event.outcome ≡ Answered Done
