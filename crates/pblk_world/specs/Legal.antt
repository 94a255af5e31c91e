-- Which worlds are legal: each event is allowed by the prefixes that it names.
use Rattle.std.specs.Prelude.{ℕ, zero, suc, ◌+◌, ◌≤◌, ◌≡◌, true, ⊤, [], ◌∷◌, length, Some}
use Rattle.std.specs.List.{Contains}
use Rattle.pblk_model.specs.Shape.{units}
use Rattle.pblk_model.specs.Image.{Image}
use Rattle.pblk_world.specs.Events.{EngineEvent, Begin, Take, Open, Place, Landed, Lost, Again, ResetDone, Free, Event, Decides, Does, Logged, Step}
use Rattle.pblk_model.specs.UnitLog.{UnitEvent}
use Rattle.pblk_world.specs.World.{World, Logs, log_of, known, prefixes, unit_event_of}
use Rattle.pblk_world.specs.EngineLog.{Begun, begun}
use Rattle.pblk_world.specs.Opening.{MayBegin, MayOpen}
use Rattle.pblk_world.specs.Placing.{MayPlace}
use Rattle.pblk_world.specs.Taking.{MayTake}
use Rattle.pblk_world.specs.Commanding.{was_stopped, MayDo}
use Rattle.pblk_world.specs.Answering.{MayLand, MayLose, MayOfferAgain, MayNoteReset}
use Rattle.pblk_world.specs.Freeing.{MayFree}

-- What the engine may do in a mount that has begun.
abbrev pub IsDecision : Image → Logs → Begun → EngineEvent → Type 0
IsDecision i logs beginning (Begin b) = ⊥
IsDecision i logs beginning (Take entry mark) = MayTake i logs entry mark
IsDecision i logs beginning (Open line start) = MayOpen i logs beginning line start
IsDecision i logs beginning (Place stripe) = MayPlace i logs stripe
IsDecision i logs beginning (Landed unit event) = MayLand logs unit event
IsDecision i logs beginning (Lost unit event) = MayLose logs unit event
IsDecision i logs beginning (Again unit event) = MayOfferAgain logs unit event
IsDecision i logs beginning (ResetDone unit event) = MayNoteReset logs unit event
IsDecision i logs beginning (Free line) = MayFree i logs line

abbrev pub MayDecide : Image → Logs → EngineEvent → Type 0
MayDecide i logs (Begin b) = MayBegin i logs b
MayDecide i logs e = (beginning : Begun) × (begun (logs 0) ≡ Some beginning) × IsDecision i logs beginning e

-- What an author may do by these prefixes of the logs. That of its own log is whole.
abbrev pub IsAllowed : Image → ℕ → Event → Logs → Type 0
IsAllowed i zero (Decides e) logs = MayDecide i logs e
IsAllowed i (suc unit) (Does e maker) logs = MayDo i logs unit e
IsAllowed i zero (Does e maker) logs = ⊥
IsAllowed i (suc unit) (Decides e) logs = ⊥

-- An event names a prefix of each log as it then is: of its author's own log the whole, and of no
-- log a shorter one than an earlier event of that author names.
pub record IsKnowledge (i : Image) (logs : Logs) (author : ℕ) (l : Logged) : Type 0 where
  pub authors : length l.knows ≡ units i.shape + 1
  pub own : known l author ≡ length (logs author)
  pub within : (other : ℕ) → known l other ≤ length (logs other)
  pub rising : (earlier : Logged) (other : ℕ) → Contains (logs author) earlier → known earlier other ≤ known l other

pub record IsLegalStep (i : Image) (logs : Logs) (step : Step) : Type 0 where
  pub author : step.author ≤ units i.shape
  pub knowledge : IsKnowledge i logs step.author step.logged
  pub allowed : IsAllowed i step.author step.logged.event (prefixes step.logged logs)

unfoldable pub IsLegal : Image → World → Type 0
IsLegal i [] = ⊤
IsLegal i (step ∷ w) = IsLegalStep i (log_of w) step × IsLegal i w

-- A cut of a unit: what a stop leaves of it and of a command in flight. It is what a Stopped event
-- leaves that would be legal as the unit's next one.
pub record IsUnitCut (i : Image) (w : World) (unit : ℕ) (step : Step) : Type 0 where
  pub author : step.author ≡ suc unit
  pub event : UnitEvent
  pub is_event : unit_event_of step.logged.event ≡ Some event
  pub stopped : was_stopped event.outcome ≡ true
  pub legal : IsLegalStep i (log_of w) step
