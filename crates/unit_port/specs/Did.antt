-- One command of one unit out of several.
use Rattle.std.specs.Prelude.{ℕ, ◌≡◌, Bool, true, false, List, slice_get, Some}
use Rattle.pblk_model.specs.ChunkStep.{ChunkCommand, ChunkAnswer, Done, Gave, Empty, Refused}
use Rattle.pblk_model.specs.UnitLog.{UnitOutcome, Answered, Failed, Stopped}
use Rattle.unit_port.specs.Unit.{ModelUnit}
use Rattle.unit_port.specs.Commands.{UnitCommand, EventAt, command_of, IsNext, after_one}

abbrev pub command_at : ℕ → ℕ → ChunkCommand → UnitCommand
command_at unit chunk command = record { unit = unit; chunk = chunk; command = command }

-- all units have sectors of this size
abbrev pub AreOfSize : ℕ → List ModelUnit → Type 0
AreOfSize size units = (i : ℕ) (u : ModelUnit) → slice_get units i ≡ Some u → u.shape.sector ≡ size

-- the command became this event, and left these units
pub record Did (old : List ModelUnit) (c : UnitCommand) (e : EventAt) (new : List ModelUnit) : Type 0 where
  pub command : command_of e ≡ c
  pub next : IsNext old e
  pub units : new ≡ after_one old e

-- some event was what the command became, and its outcome is what was told
abbrev pub DidAt : List ModelUnit → UnitCommand → (UnitOutcome → Type 0) → List ModelUnit → Type 0
DidAt old c tells new = (e : EventAt) × Did old c e new × tells e.event.outcome

-- the command failed or was stopped
abbrev pub failed_or_stopped : UnitOutcome → Bool
failed_or_stopped (Answered answer) = false
failed_or_stopped (Failed k) = true
failed_or_stopped (Stopped k) = true

abbrev pub is_empty_answer : ChunkAnswer → Bool
is_empty_answer Done = false
is_empty_answer (Gave block) = false
is_empty_answer Empty = true
is_empty_answer (Refused e) = false

-- the command answered Empty
abbrev pub is_empty : UnitOutcome → Bool
is_empty (Answered answer) = is_empty_answer answer
is_empty (Failed k) = false
is_empty (Stopped k) = false
