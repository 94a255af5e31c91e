-- What plans, fuse and stop word make of a unit's command.
use Rattle.std.specs.Prelude.{ℕ, ◌≡◌, true, ◌++◌, [], ◌∷◌, Option}
use Rattle.std.specs.Option.{IsSome}
use Rattle.pblk_model.specs.ChunkStep.{ChunkCommand}
use Rattle.pblk_model.specs.UnitLog.{UnitOutcome}
use Rattle.unit_port.specs.Armed.{events_since, has_stopped}
use Rattle.ocssd_drive.specs.StopWord.{SeatView}
use Rattle.ocssd_drive.specs.Faults.{IsOutcomeBy, fault_of, fuse_is_at, kind_of}
use Rattle.ocssd_drive.specs.Arming.{IsLoaded, finds, seat_after}
use Rattle.ocssd_drive.specs.Units.{WornUnit}

-- A command loaded the stop word once, where the unit has a seat at it, and added an event whose outcome is by what the load
-- found, the fuse and the plans. Where the fuse fell it set the word. `looked` is the seat after the load.
pub record IsPlanned (old : WornUnit) (chunk : ℕ) (command : ChunkCommand) (new : WornUnit) : Type 0 where
  pub looked : Option SeatView
  pub loaded : IsLoaded old.seat looked (finds looked)
  pub seat : new.seat ≡ seat_after (fault_of old.unit.armed (events_since old.unit.armed old.unit.log) (finds looked) (kind_of command)) looked
  -- only a unit that was armed with a fuse finds the word set, and the fuse's unit only where it was stopped before
  pub has_word : finds looked ≡ true → IsSome old.unit.armed.fuse
  pub own : fuse_is_at old.unit.armed ≡ true → finds looked ≡ true → has_stopped old.unit.armed old.unit.log ≡ true
  pub outcome : UnitOutcome
  pub log : new.unit.log ≡ old.unit.log ++ record { chunk = chunk; command = command; outcome = outcome } ∷ []
  pub by : IsOutcomeBy old.unit.shape command (fault_of old.unit.armed (events_since old.unit.armed old.unit.log) (finds looked) (kind_of command)) outcome
