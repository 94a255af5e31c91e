-- Who made the commands of an opening.
use Rattle.std.proofs.Common.{◌≡◌, ℕ, ◌^◌, ◌<◌, ◌==◌, suc, false, List, [], ◌∷◌, length, if◌then◌else◌, refl, ap, ◌∙◌, arith}
use Rattle.std.specs.List.{filter}
use Rattle.pblk_model.specs.declared.found.Found.{Found}
use Rattle.pblk_model.specs.declared.shape.Shape.{Shape}
use Rattle.pblk_model.specs.UnitLog.{UnitEvent}
use Rattle.pblk_model.proofs.Tests.{other_number}
use Rattle.pblk_world.specs.Events.{Step}
use Rattle.pblk_world.specs.Makers.{HasMakers, commands_of, is_made_by, opening_worker}
use Rattle.pblk_world.specs.World.{World}
use Rattle.step_laws.specs.Opened.{after_events, after_units, new_events}
use Rattle.step_laws.specs.Whole.{opening_maker, unit_step}
use Rattle.unit_port.specs.Unit.{ModelUnit}
use Rattle.pblk_engine.specs.Beginnings.{opened_world}

-- ---- each command says how many there were before it

events_numbered : (s : Shape) (unit : ℕ) (events : List UnitEvent) (w : World) → HasMakers w → HasMakers (after_events s unit w events)
unfolding HasMakers
events_numbered s unit [] w is = is
events_numbered s unit (e ∷ events) w is = events_numbered s unit events (unit_step s unit e (opening_maker w) w ∷ w) (refl, is)

units_numbered : (s : Shape) (all : List (List UnitEvent)) (unit : ℕ) (w : World) → HasMakers w → HasMakers (after_units s unit w all)
units_numbered s [] unit w is = is
units_numbered s (events ∷ all) unit w is = units_numbered s all (suc unit) (after_events s unit w events) (events_numbered s unit events w is)

pub opening_numbered : (s : Shape) (old new : List ModelUnit) (f : Found) → HasMakers (opened_world s old new f)
unfolding HasMakers
opening_numbered s old new f = (tt, units_numbered s (new_events old new) 0 [] tt)

-- ---- and the opening made it

others : (worker : ℕ) → worker < 2 ^ 64 → (opening_worker == worker) ≡ false
others worker low = other_number opening_worker worker (λ same. absurd (omega arith))

events_of_opening : (s : Shape) (unit worker : ℕ) (events : List UnitEvent) (w : World) → worker < 2 ^ 64 → commands_of worker w ≡ 0
    → commands_of worker (after_events s unit w events) ≡ 0
events_of_opening s unit worker [] w low none = none
events_of_opening s unit worker (e ∷ events) w low none =
    events_of_opening s unit worker events (unit_step s unit e (opening_maker w) w ∷ w) low
    (ap (λ b. length (if b then unit_step s unit e (opening_maker w) w ∷ filter (λ (x : Step). is_made_by worker x.logged.event) w
    else filter (λ (x : Step). is_made_by worker x.logged.event) w)) (others worker low) ∙ none)

units_of_opening : (s : Shape) (worker : ℕ) (all : List (List UnitEvent)) (unit : ℕ) (w : World) → worker < 2 ^ 64 → commands_of worker w ≡ 0
    → commands_of worker (after_units s unit w all) ≡ 0
units_of_opening s worker [] unit w low none = none
units_of_opening s worker (events ∷ all) unit w low none =
    units_of_opening s worker all (suc unit) (after_events s unit w events) low (events_of_opening s unit worker events w low none)

pub opening_alone : (s : Shape) (old new : List ModelUnit) (f : Found) (worker : ℕ) → worker < 2 ^ 64 → commands_of worker (opened_world s old new f) ≡ 0
opening_alone s old new f worker low = units_of_opening s worker (new_events old new) 0 [] low refl
