-- What a unit is armed with, and when it was.
use Rattle.std.specs.Prelude.{ℕ, Bool, true, false, List, [], drop, Option, None, ◌≡◌}
use Rattle.std.specs.List.{list_any}
use Rattle.atomic_table.specs.Seated.{TableId}
use Rattle.pblk_model.specs.UnitLog.{UnitEvent, UnitOutcome, Answered, Failed, Stopped}
use Rattle.unit_port.specs.declared.armed.FaultPlan.{FaultPlan}
use Rattle.unit_port.specs.declared.armed.Fuse.{Fuse}

-- The unit's number in its drive, the plans and the fuse that its drive was armed with, the drive's stop word where there
-- is a fuse, and how long the unit's log then was.
pub record Armed : Type 0 where
  pub unit : ℕ
  pub plans : List FaultPlan
  pub fuse : Option Fuse
  pub word : Option TableId
  pub since : ℕ

-- with neither plans nor a fuse, when the log had this length
abbrev pub unarmed : ℕ → Armed
unarmed since = record { unit = 0; plans = []; fuse = None; word = None; since = since }

-- neither a plan nor a fuse
abbrev pub IsUnarmed : Armed → Type 0
IsUnarmed a = (a.plans ≡ []) × (a.fuse ≡ None)

-- the events since
abbrev pub events_since : Armed → List UnitEvent → List UnitEvent
events_since a log = drop a.since log

abbrev pub is_stop : UnitOutcome → Bool
is_stop (Answered answer) = false
is_stop (Failed k) = false
is_stop (Stopped k) = true

abbrev pub is_fail : UnitOutcome → Bool
is_fail (Answered answer) = false
is_fail (Failed k) = true
is_fail (Stopped k) = false

-- there was a Failed event since
abbrev pub has_failed : Armed → List UnitEvent → Bool
has_failed a log = list_any (λ e. is_fail e.outcome) (events_since a log)

-- there was a Stopped event since
abbrev pub has_stopped : Armed → List UnitEvent → Bool
has_stopped a log = list_any (λ e. is_stop e.outcome) (events_since a log)
