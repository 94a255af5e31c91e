-- When the engine may note an answer of a unit: of the stripe that is in flight there, or of a
-- reset.
use Rattle.std.specs.Prelude.{ℕ, suc, ◌<◌, ◌≡◌, true, ⊤, take, length, slice_get, Some}
use Rattle.std.specs.List.{Contains}
use Rattle.pblk_model.specs.ChunkStep.{Reset, Done}
use Rattle.pblk_model.specs.UnitLog.{UnitOutcome, Answered, Failed, Stopped, UnitEvent}
use Rattle.pblk_world.specs.Events.{Logged}
use Rattle.pblk_world.specs.World.{Logs, knows_engine, unit_event_of}
use Rattle.pblk_world.specs.EngineLog.{placed_on, answers, named_events}
use Rattle.pblk_world.specs.Commanding.{is_program, ended_stripes}

-- The event of this number is known of the unit's log, and no earlier event of the engine names it.
pub record IsNew (logs : Logs) (unit number : ℕ) (e : UnitEvent) : Type 0 where
  pub logged : Logged
  pub is_known : slice_get (logs (suc unit)) number ≡ Some logged
  pub event : unit_event_of logged.event ≡ Some e
  pub once : ¬ Contains (named_events (logs 0) unit) number

-- It is a program of the stripe that is in flight on the unit: the first one placed there that
-- isn't answered.
pub record IsOfStripe (logs : Logs) (unit number : ℕ) (e : UnitEvent) : Type 0 where
  pub program : is_program e.command ≡ true
  pub logged : Logged
  pub is_logged : slice_get (logs (suc unit)) number ≡ Some logged
  pub after_begin : 0 < knows_engine logged
  pub placed : length (answers (logs 0) unit) < length (placed_on (logs 0) unit)
  pub its_turn : ended_stripes (take number (logs (suc unit))) ≡ length (answers (logs 0) unit)

-- a program that was done
pub record MayLand (logs : Logs) (unit number : ℕ) : Type 0 where
  pub program : UnitEvent
  pub new : IsNew logs unit number program
  pub stripe : IsOfStripe logs unit number program
  pub done : program.outcome ≡ Answered Done

-- a program that failed
pub record MayLose (logs : Logs) (unit number : ℕ) : Type 0 where
  pub program : UnitEvent
  pub new : IsNew logs unit number program
  pub stripe : IsOfStripe logs unit number program
  pub landed_before : ℕ
  pub failed : program.outcome ≡ Failed landed_before

-- a program that was stopped: the stripe stays placed
pub record MayOfferAgain (logs : Logs) (unit number : ℕ) : Type 0 where
  pub program : UnitEvent
  pub new : IsNew logs unit number program
  pub stripe : IsOfStripe logs unit number program
  pub landed_before : ℕ
  pub stopped : program.outcome ≡ Stopped landed_before

-- a reset that wasn't stopped
abbrev pub IsDoneReset : UnitOutcome → Type 0
IsDoneReset (Answered answer) = answer ≡ Done
IsDoneReset (Failed k) = ⊤
IsDoneReset (Stopped k) = ⊥

pub record MayNoteReset (logs : Logs) (unit number : ℕ) : Type 0 where
  pub reset : UnitEvent
  pub new : IsNew logs unit number reset
  pub is_reset : reset.command ≡ Reset
  pub not_stopped : IsDoneReset reset.outcome
