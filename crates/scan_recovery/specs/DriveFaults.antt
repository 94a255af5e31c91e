-- Commands that weren't done: those that were stopped, and fetches that failed. What a call lost,
-- and what a worker lost.
use Rattle.std.specs.Prelude.{ℕ, suc, ◌-◌, ◌≡◌, ◌<◌, ◌≤◌, ◌==◌, ◌||◌, ◌&&◌, ⊤, if◌then◌else◌, Bool, true, false, List, [], ◌∷◌, ◌++◌, length, drop, slice_get, Some}
use Rattle.std.specs.List.{AllByRecursion}
use Rattle.pblk_model.specs.ChunkStep.{ChunkCommand, Write, Read, Reset}
use Rattle.pblk_model.specs.UnitLog.{UnitEvent}
use Rattle.pblk_world.specs.Events.{Event, Decides, Does, Step}
use Rattle.pblk_world.specs.World.{World, log_of, unit_events}
use Rattle.unit_port.specs.Armed.{is_fail, is_stop}
use Rattle.unit_port.specs.Unit.{ModelUnit}
use Rattle.scan_recovery.specs.Units.{IsLastEvent}

-- what a unit did between the two: what its log grew by
abbrev pub grown_by : ModelUnit → ModelUnit → List UnitEvent
grown_by old new = drop (length old.log) new.log

abbrev pub is_fetch : ChunkCommand → Bool
is_fetch (Write at blocks) = false
is_fetch (Read block) = true
is_fetch Reset = false

-- the command was stopped, or is a fetch that failed
abbrev pub is_drive_fault : UnitEvent → Bool
is_drive_fault e = is_stop e.outcome || (is_fetch e.command && is_fail e.outcome)

-- No event that the units have beyond those that they had was one.
abbrev pub NoDriveFaults : List ModelUnit → List ModelUnit → Type 0
NoDriveFaults old new = (number : ℕ) (u v : ModelUnit) → slice_get old number ≡ Some u
    → slice_get new number ≡ Some v → AllByRecursion (λ e. is_drive_fault e ≡ false) (grown_by u v)

-- At this index of a unit's log stands a command that was lost, and the unit hadn't got it before.
pub record IsDriveFault (old new : List ModelUnit) (unit index : ℕ) : Type 0 where
  pub before : ModelUnit
  pub was : slice_get old unit ≡ Some before
  pub since : length before.log ≤ index
  pub after : ModelUnit
  pub there : slice_get new unit ≡ Some after
  pub event : UnitEvent
  pub at : slice_get after.log index ≡ Some event
  pub lost : is_drive_fault event ≡ true

-- The last event of this unit was one, and this is its number in the unit's log, from 1. The unit
-- hadn't got it before. It is the only one that the units have beyond those that they had.
pub record IsDriveFaultAt (old new : List ModelUnit) (unit number : ℕ) : Type 0 where
  pub event : UnitEvent
  pub last : IsLastEvent new unit number event
  pub lost : is_drive_fault event ≡ true
  pub earlier : ModelUnit
  pub there : slice_get old unit ≡ Some earlier
  pub since : length earlier.log < length last.of.log
  pub only : (other index : ℕ) → IsDriveFault old new other index
      → (other ≡ unit) × (suc index ≡ length last.of.log)

-- Workers.

-- the worker made this command, and it was lost
abbrev pub is_drive_fault_of : ℕ → Event → Bool
is_drive_fault_of worker (Decides e) = false
is_drive_fault_of worker (Does e maker) = (maker.worker == worker) && is_drive_fault e

-- where the event of a unit's step stands that comes next in this world: the unit, and the event's
-- index in the unit's log
abbrev pub place_in : World → Step → ℕ × ℕ
place_in w step = let unit = step.author - 1 in (unit, length (unit_events (log_of w) unit))

-- Where the commands stand that a worker made and that were lost, in the order of the world's
-- steps: of each its unit, and its index in the unit's log, from 0.
abbrev pub drive_faults_of : ℕ → World → List (ℕ × ℕ)
drive_faults_of worker [] = []
drive_faults_of worker (step ∷ w) = if is_drive_fault_of worker step.logged.event
    then drive_faults_of worker w ++ place_in w step ∷ [] else drive_faults_of worker w

-- this author makes the event as a decision, or as a command of a unit that this worker gives
abbrev pub IsGivenBy : ℕ → ℕ → Event → Type 0
IsGivenBy worker author (Decides e) = ⊤
IsGivenBy worker author (Does e maker) = (maker.worker ≡ worker) × (0 < author)

-- Steps among which each command of a unit was made by this worker.
abbrev pub AreStepsOf : ℕ → World → Type 0
AreStepsOf worker steps =
    AllByRecursion (λ step. IsGivenBy worker step.author step.logged.event) steps

-- A world grew by such steps.
pub record GrewBy (worker : ℕ) (old new : World) : Type 0 where
  pub later : World
  pub whole : new ≡ later ++ old
  pub made : AreStepsOf worker later
