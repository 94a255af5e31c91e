-- Resets of chunks that a worker had a unit make, noted by the engine unless they were stopped.
use Rattle.std.specs.Prelude.{ℕ, ◌≡◌, false, true, [], ◌∷◌, List, Result, Ok, Err}
use Rattle.pblk_model.specs.ChunkStep.{Reset}
use Rattle.pblk_model.specs.UnitLog.{UnitOutcome}
use Rattle.unit_port.specs.Armed.{is_stop}
use Rattle.unit_port.specs.Unit.{ModelUnit}
use Rattle.pblk_engine.specs.Arms.{number_told}
use Rattle.pblk_engine.specs.Pumps.{GoesOn}
use Rattle.pblk_engine.specs.Workers.{Made, WorkerView}

-- A reset was done, or has failed; or it was stopped, and its number in the unit's log is told.
abbrev pub TellsReset : ℕ → Result (Unit {0}) ℕ → UnitOutcome → Type 0
TellsReset number (Ok _) outcome = is_stop outcome ≡ false
TellsReset number (Err event) outcome = (is_stop outcome ≡ true) × (event ≡ number)

-- The worker had the unit reset its chunk of the line, and made no other command.
pub record HasReset (handed : List ModelUnit) (unit line : ℕ) (old new : WorkerView) (result : Result (Unit {0}) ℕ) : Type 0 where
  pub made : Made
  pub on : GoesOn old new (made ∷ [])
  pub of : made.unit ≡ unit
  pub chunk : made.event.chunk ≡ line
  pub asked : made.event.command ≡ Reset
  pub tells : TellsReset (number_told handed unit made.number) result made.event.outcome
