-- What comes of the plans and the stop that a run is told, and which events its lines name.
use Rattle.std.specs.Prelude.{ℕ, ◌+◌, ◌-◌, ◌^◌, ◌<◌, ◌≤◌, ◌≡◌, ◌≢◌, ⊤, true, List, [], ◌++◌, map, max, min, length, slice_get, Option, Some, None}
use Rattle.std.specs.List.{AllByRecursion, Contains, flat_map}
use Rattle.std.specs.Option.{unwrap_or}
use Rattle.pblk_model.specs.Image.{Image}
use Rattle.pblk_model.specs.Text.{Transcript}
use Rattle.pblk_model.specs.Transcript.{IsDistinct, closing_event, opening_event, outcome_event}
use Rattle.pblk_model.specs.UnitLog.{UnitEvent}
use Rattle.pblk_world.specs.EngineLog.{Begun}
use Rattle.pblk_world.specs.Makers.{opening_worker}
use Rattle.pblk_world.specs.World.{Logs, World, unit_events}
use Rattle.unit_port.specs.declared.armed.CommandKind.{CommandKind}
use Rattle.unit_port.specs.declared.armed.FaultPlan.{FaultPlan}
use Rattle.unit_port.specs.declared.armed.Fuse.{Fuse}
use Rattle.unit_port.specs.Armed.{Armed}
use Rattle.ocssd_drive.specs.Drive.{fitting_fuse}
use Rattle.ocssd_drive.specs.Faults.{changes_of}
use Rattle.ocssd_drive.specs.Outcomes.{AreEventsBy, any_stop}
use Rattle.scan_recovery.specs.DriveFaults.{drive_faults_of, is_drive_fault}

-- a fuse for a unit that the drive doesn't have is none
abbrev pub fuse_on : Image → Option Fuse → Option Fuse
fuse_on i stop = fitting_fuse (length i.units) stop

-- what the unit of this number is armed with: these plans and this fuse
abbrev pub arms_of : List FaultPlan → Option Fuse → ℕ → Armed
arms_of plans fuse unit = record { unit = unit; plans = plans; fuse = fuse; word = None; since = 0 }

-- One of these plans has a command of this kind of that unit fail.
pub record HasPlan (plans : List FaultPlan) (kind : CommandKind) (unit : ℕ) : Type 0 where
  pub plan : FaultPlan
  pub named : Contains plans plan
  pub of_kind : plan.kind ≡ kind
  pub of_unit : plan.unit ≡ unit

-- The fuse fell: its unit had as many programs and resets as it names.
pub record HasFallen (fuse : Option Fuse) (logs : Logs) : Type 0 where
  pub of : Fuse
  pub is : fuse ≡ Some of
  pub counted : 0 < of.nth
  pub fell : of.nth ≤ changes_of (unit_events logs of.unit)

-- The outcomes in these logs are those that the plans and the fuse give, and no others. A unit was
-- stopped only where the fuse fell.
pub record AreOutcomesBy (i : Image) (plans : List FaultPlan) (fuse : Option Fuse) (logs : Logs) : Type 0 where
  pub outcomes : (unit : ℕ) → unit < length i.units
      → AreEventsBy i.shape (arms_of plans fuse unit) (unit_events logs unit)
  pub fallen : (unit : ℕ) → unit < length i.units → any_stop (unit_events logs unit) ≡ true
      → HasFallen fuse logs

-- the mount has begun exactly where opening answered no event
abbrev pub HasBegun : Option (ℕ × ℕ) → Option Begun → Type 0
HasBegun None None = ⊥
HasBegun None (Some beginning) = ⊤
HasBegun (Some event) None = ⊤
HasBegun (Some event) (Some beginning) = ⊥

-- at this place, a unit of the drive and the number of an event from 0, stands a command that was
-- stopped, or a fetch that failed
pub record IsDriveFaultIn (i : Image) (logs : Logs) (place : ℕ × ℕ) : Type 0 where
  pub unit : place.0 < length i.units
  pub event : UnitEvent
  pub there : slice_get (unit_events logs place.0) place.1 ≡ Some event
  pub lost : is_drive_fault event ≡ true

-- as lines name it: events are numbered from 1, and the numbers stand still at 2^64 - 1
abbrev pub name_at : ℕ × ℕ → ℕ × ℕ
name_at place = (place.0, min (place.1 + 1) (2 ^ 64 - 1))

-- the same of places in a world that began when each unit's log had so many events
abbrev pub names_after : (ℕ → ℕ) → List (ℕ × ℕ) → List (ℕ × ℕ)
names_after before places = map (λ place. name_at (place.0, before place.0 + place.1)) places

-- the events that the lines of a thread name, in their order
abbrev pub thread_events : Transcript → ℕ → List (ℕ × ℕ)
thread_events t thread = flat_map outcome_event (unwrap_or (slice_get t.outcomes thread) [])

-- No command that was lost is left out, but for those of lanes and of a collector, of which no line
-- tells. Those of a worker, in the order of the world's steps, are the ones that its lines name, in
-- their order: the opening's by the line of the opening, and a thread's by its lines. Worker 0, which
-- is the first thread's where there is one, makes the close, too, whose line comes last. Lanes and a
-- collector, of which there are so many, have the numbers behind the threads'. There is no other
-- worker that lost a command.
pub record AreAllTold (threads helpers : ℕ) (before : ℕ → ℕ) (w : World) (t : Transcript) : Type 0 where
  pub opening : names_after before (drive_faults_of opening_worker w) ≡ opening_event t.opening
  pub first : names_after before (drive_faults_of 0 w) ≡ thread_events t 0 ++ closing_event t.closing
  pub others : (thread : ℕ) → 0 < thread → thread < threads
      → names_after before (drive_faults_of thread w) ≡ thread_events t thread
  pub alone : (worker : ℕ) → max 1 threads + helpers ≤ worker → worker ≢ opening_worker
      → drive_faults_of worker w ≡ []

-- Each of these names is of such an event, and no two are of the same.
pub record AreNames (i : Image) (logs : Logs) (names : List (ℕ × ℕ)) : Type 0 where
  pub places : List (ℕ × ℕ)
  pub names_are : names ≡ map name_at places
  pub each : AllByRecursion (IsDriveFaultIn i logs) places
  pub distinct : IsDistinct places
