-- A stripe that is under way or was stopped, and its entries as they land.
use Rattle.std.specs.Prelude.{ℕ, ◌≡◌, ◌≢◌, if◌then◌else◌, nat_le, Bool, true, false, List, length, slice_get, Some}
use Rattle.std.specs.List.{filter, fold}
use Rattle.line_table.specs.declared.row.LineState.{LineState}
use Rattle.line_table.specs.declared.row.LineState.TheVariants.{Free, Open, Full, Failed, Freed, Dead}
use Rattle.stripe_placer.specs.Placing.{Program}
use Rattle.stripe_placer.specs.Placing.UnitRow.{Idle, UnderWay, Stopped}
use Rattle.pblk_world.specs.Events.{Stripe, Logged}
use Rattle.pblk_world.specs.EngineLog.{Placed}
use Rattle.core_laws.specs.PlacerOf.{unanswered_on, was_stopped_on}
use Rattle.write_window.specs.Window.{WindowView, has_landed_at, turned}
use Rattle.write_window.specs.declared.held.Progress.TheVariants.{Landed}
use Rattle.pblk_core.specs.declared.target_core.Core.{Core}

-- a program is under way on the unit
abbrev pub IsUnderWayOn : Core → ℕ → Type 0
IsUnderWayOn c unit = (of : Program) × (slice_get c.placer.units unit ≡ Some (UnderWay of))

-- the program of the unit's stripe was stopped, and is offered again
abbrev pub IsOfferedOn : Core → ℕ → Type 0
IsOfferedOn c unit = (of : Program) × (slice_get c.placer.units unit ≡ Some (Stopped of))

-- it has no stripe
abbrev pub IsIdleOn : Core → ℕ → Type 0
IsIdleOn c unit = slice_get c.placer.units unit ≡ Some Idle

-- no program is under way
abbrev pub NoneUnderWay : Core → Type 0
NoneUnderWay c = (unit : ℕ) (of : Program) → slice_get c.placer.units unit ≢ Some (UnderWay of)

-- no unit has another row than it had, but for this one
abbrev pub AreKeptBeside : ℕ → Core → Core → Type 0
AreKeptBeside unit old new = (other : ℕ) → other ≢ unit → slice_get new.placer.units other ≡ slice_get old.placer.units other

-- The stripe was placed before and isn't answered. Its program was stopped since.
pub record WasStopped (log : List Logged) (stripe : Stripe) : Type 0 where
  pub placed : Placed
  pub unanswered : unanswered_on log stripe.unit ≡ Some placed
  pub same : placed.stripe ≡ stripe
  pub stopped : was_stopped_on log stripe.unit ≡ true

-- an entry has landed
abbrev pub one_landed : WindowView → ℕ → WindowView
one_landed w position = if has_landed_at w position then w else turned w position Landed

abbrev pub all_landed : WindowView → List ℕ → WindowView
all_landed w positions = fold one_landed w positions

-- a line is in the state of one that was opened and of which no stripe was lost
abbrev pub is_open : LineState → Bool
is_open Free = false
is_open Open = true
is_open Full = false
is_open Failed = false
is_open Freed = false
is_open Dead = false

-- How many of these positions are placed for the first time: those from the placed front on.
abbrev pub new_count : ℕ → List ℕ → ℕ
new_count front positions = length (filter (λ q. nat_le front q) positions)
