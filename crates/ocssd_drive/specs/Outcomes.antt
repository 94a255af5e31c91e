-- Which outcomes the commands of a unit have, by what its drive is armed with.
use Rattle.std.specs.Prelude.{ℕ, ◌≤◌, ◌≡◌, Bool, true, List, length, take, slice_get, Some}
use Rattle.std.specs.List.{list_any}
use Rattle.std.specs.Option.{IsSome}
use Rattle.pblk_model.specs.declared.shape.Shape.{Shape}
use Rattle.pblk_model.specs.UnitLog.{UnitEvent}
use Rattle.unit_port.specs.Armed.{Armed, events_since, is_stop}
use Rattle.ocssd_drive.specs.Faults.{IsOutcomeBy, fault_of, fuse_is_at, kind_of}
use Rattle.ocssd_drive.specs.Journal.{IsCalm}
use Rattle.ocssd_drive.specs.Units.{WornUnit}

-- one of these events was stopped
abbrev pub any_stop : List UnitEvent → Bool
any_stop events = list_any (λ e. is_stop e.outcome) events

-- The event of a command that came after these events, of a unit that was armed so before them
-- all. `found` says whether the command found the stop word set. It does so only where there is a
-- fuse, and always once the unit was stopped. Where the fuse falls at the unit's own commands it
-- does so only then.
pub record IsEventBy (s : Shape) (a : Armed) (before : List UnitEvent) (e : UnitEvent) : Type 0 where
  pub found : Bool
  pub by : IsOutcomeBy s e.command (fault_of a before found (kind_of e.command)) e.outcome
  pub has_fuse : found ≡ true → IsSome a.fuse
  pub stays : any_stop before ≡ true → found ≡ true
  pub own : fuse_is_at a ≡ true → found ≡ true → any_stop before ≡ true

-- each of these events is one after those before it
abbrev pub AreEventsBy : Shape → Armed → List UnitEvent → Type 0
AreEventsBy s a events = (k : ℕ) (e : UnitEvent) → slice_get events k ≡ Some e → IsEventBy s a (take k events) e

-- the events since a unit was armed are such ones
pub record IsByArms (s : Shape) (a : Armed) (log : List UnitEvent) : Type 0 where
  pub since : a.since ≤ length log
  pub events : AreEventsBy s a (events_since a log)

-- What a unit did since it was armed is by its arms. Without plans nothing failed, and without a
-- fuse nothing was stopped.
pub record GoesByArms (u : WornUnit) : Type 0 where
  pub calm : IsCalm u.unit.armed u.unit.log
  pub outcomes : AreEventsBy u.unit.shape u.unit.armed (events_since u.unit.armed u.unit.log)
