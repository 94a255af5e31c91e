-- What the units of a drive did while it was made ready for a mount, and the world that these steps
-- make.
use Rattle.std.specs.Prelude.{ℕ, suc, ◌≡◌, ◌≤◌, ◌⊎◌, List, [], ◌∷◌, length, slice_get, Some}
use Rattle.std.specs.List.{fold}
use Rattle.pblk_model.specs.declared.shape.Shape.{Shape}
use Rattle.pblk_model.specs.UnitLog.{UnitEvent}
use Rattle.pblk_world.specs.World.{World}
use Rattle.unit_port.specs.Armed.{IsUnarmed}
use Rattle.unit_port.specs.Unit.{ModelUnit}
use Rattle.scan_recovery.specs.DriveFaults.{grown_by}
use Rattle.step_laws.specs.Whole.{unit_step, opening_maker}

-- The unit is armed with nothing, or was armed when its log was at most as long as it is now. So
-- its log tells of each command that a plan or a fuse stops.
abbrev pub IsArmed : ModelUnit → Type 0
IsArmed u = IsUnarmed u.armed ⊎ (u.armed.since ≤ length u.log)

abbrev pub AreArmed : List ModelUnit → Type 0
AreArmed us = (number : ℕ) (u : ModelUnit) → slice_get us number ≡ Some u → IsArmed u

-- what each unit did, in the order of the units
abbrev pub new_events : List ModelUnit → List ModelUnit → List (List UnitEvent)
new_events [] new = []
new_events (u ∷ old) [] = []
new_events (u ∷ old) (v ∷ new) = grown_by u v ∷ new_events old new

-- The world: the steps of one unit, one after another, and those of all units from a number on. The
-- command of each was made by the opening.
abbrev pub after_events : Shape → ℕ → World → List UnitEvent → World
after_events s unit w events = fold (λ w e. unit_step s unit e (opening_maker w) w ∷ w) w events

abbrev pub after_units : Shape → ℕ → World → List (List UnitEvent) → World
after_units s unit w [] = w
after_units s unit w (events ∷ others) = after_units s (suc unit) (after_events s unit w events) others
