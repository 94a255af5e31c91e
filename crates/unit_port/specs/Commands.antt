-- Commands on the units of a drive, one after another, and what they leave.
use Rattle.std.specs.Prelude.{ℕ, ◌*◌, ◌≡◌, ◌==◌, if◌then◌else◌, ⊤, false, List, [], ◌∷◌, ◌++◌, length, map, slice_get, slice_set, Some}
use Rattle.std.specs.List.{fold}
use Rattle.std.specs.Option.{option_map_or}
use Rattle.pblk_model.specs.ChunkStep.{ChunkCommand}
use Rattle.pblk_model.specs.Geometry.{Geometry}
use Rattle.pblk_model.specs.UnitLog.{UnitEvent, Stopped, IsEvent, IsUnitLog, after_event, after_log}
use Rattle.unit_port.specs.Armed.{IsUnarmed, is_fail, is_stop}
use Rattle.unit_port.specs.Unit.{ModelUnit, IsStopped, IsFitUnit, Takes}

-- a command on a chunk of the unit with this number
pub record UnitCommand : Type 0 where
  pub unit : ℕ
  pub chunk : ℕ
  pub command : ChunkCommand

-- an event of the unit with this number
pub record EventAt : Type 0 where
  pub unit : ℕ
  pub event : UnitEvent

-- the command that it became of
abbrev pub command_of : EventAt → UnitCommand
command_of e = record { unit = e.unit; chunk = e.event.chunk; command = e.event.command }

-- the unit after an event: its log has it at its end, and its chunks are what it leaves of them
abbrev pub with_event : ModelUnit → UnitEvent → ModelUnit
with_event u e = record {
  shape = u.shape;
  media = after_event u.shape u.media e;
  log = u.log ++ e ∷ [];
  armed = u.armed;
}

-- units after an event of one of them
abbrev pub after_one : List ModelUnit → EventAt → List ModelUnit
after_one units e =
    option_map_or (λ u. slice_set units e.unit (with_event u e.event)) (slice_get units e.unit) units

-- and after events, one after another
abbrev pub after_all : List ModelUnit → List EventAt → List ModelUnit
after_all units events = fold after_one units events

-- an event that may come next: it is one over its unit's chunks, of a stopped unit a stop that did nothing, and of a unit
-- that is armed with nothing neither a failure nor a stop
pub record IsNext (units : List ModelUnit) (e : EventAt) : Type 0 where
  pub unit : ModelUnit
  pub there : slice_get units e.unit ≡ Some unit
  pub event : IsEvent unit.shape unit.media e.event
  pub stopped : IsStopped unit → e.event.outcome ≡ Stopped 0
  pub quiet : IsUnarmed unit.armed → (is_fail e.event.outcome ≡ false) × (is_stop e.event.outcome ≡ false)

-- each is the next one after those before it
abbrev pub AreNext : List ModelUnit → List EventAt → Type 0
AreNext units [] = ⊤
AreNext units (e ∷ events) = IsNext units e × AreNext (after_one units e) events

-- units that were given these commands, one after another, each of which became an event
pub record Ran (old : List ModelUnit) (commands : List UnitCommand) (events : List EventAt)
    (new : List ModelUnit) : Type 0 where
  pub same : map command_of events ≡ commands
  pub next : AreNext old events
  pub units : new ≡ after_all old events

-- the events of one unit, in their order
abbrev pub events_of : ℕ → List EventAt → List UnitEvent
events_of i [] = []
events_of i (e ∷ events) = if e.unit == i then e.event ∷ events_of i events else events_of i events

-- a unit that had these events: its log has them at its end, each was one over the chunks that it found, and
-- its chunks are what they leave
pub record HadEvents (old : ModelUnit) (events : List UnitEvent) (new : ModelUnit) : Type 0 where
  pub log : new.log ≡ old.log ++ events
  pub legal : IsUnitLog old.shape old.media events
  pub media : new.media ≡ after_log old.shape old.media events

-- what stays of a unit
pub record IsKept (old new : ModelUnit) : Type 0 where
  pub shape : new.shape ≡ old.shape
  pub armed : new.armed ≡ old.armed
  pub fits : IsFitUnit old → IsFitUnit new

-- what stays of units: their number and their order
pub record AreKept (old new : List ModelUnit) : Type 0 where
  pub count : length new ≡ length old
  pub each : (i : ℕ) (v : ModelUnit) → slice_get new i ≡ Some v
      → (u : ModelUnit) × (slice_get old i ≡ Some u) × IsKept u v

-- units of a drive of this geometry: as many, each with as many chunks of as many blocks
pub record AreUnitsOf (g : Geometry) (units : List ModelUnit) : Type 0 where
  pub count : length units ≡ g.groups * g.pus
  pub chunks : (i : ℕ) (u : ModelUnit) → slice_get units i ≡ Some u → length u.media ≡ g.chunks
  pub clba : (i : ℕ) (u : ModelUnit) → slice_get units i ≡ Some u → u.shape.clba ≡ g.clba

-- the command's unit may be given it: its chunk doesn't refuse it, unless the unit is stopped
pub record IsTaken (units : List ModelUnit) (c : UnitCommand) : Type 0 where
  pub unit : ModelUnit
  pub there : slice_get units c.unit ≡ Some unit
  pub takes : Takes unit c.chunk c.command

-- all are armed with nothing
abbrev pub AreUnarmed : List ModelUnit → Type 0
AreUnarmed us = (k : ℕ) (u : ModelUnit) → slice_get us k ≡ Some u → IsUnarmed u.armed

abbrev pub AreTaken : List ModelUnit → List UnitCommand → Type 0
AreTaken units commands = (i : ℕ) (c : UnitCommand) → slice_get commands i ≡ Some c → IsTaken units c
