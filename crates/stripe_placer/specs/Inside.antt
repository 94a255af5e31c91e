-- What the fields of a placer stand for, and what they keep.
use Rattle.std.specs.Prelude.{ℕ, ◌≡◌, ◌≢◌, ◌*◌, ◌/◌, ◌<◌, ◌≤◌, ◌^◌, ⊤, Bool, List, [], ◌∷◌, length, slice_get, Option, Some}
use Rattle.std.specs.List.{AllByRecursion, find, filter_map}
use Rattle.std.specs.Vec.{vec_capacity}
use Rattle.pblk_model.specs.declared.shape.Shape.{Shape}
use Rattle.pblk_model.specs.Accepted.{IsAccepted}
use Rattle.pblk_model.specs.Shape.{units}
use Rattle.stripe_placer.specs.OpenLines.{OpenLine, width, unit_of}
use Rattle.stripe_placer.specs.OpenLines.Stripe.{Unanswered}
use Rattle.stripe_placer.specs.Placing.{Program, UnitRow, Placing}
use Rattle.stripe_placer.specs.Placing.UnitRow.{Idle, UnderWay, Stopped}
use Rattle.stripe_placer.specs.declared.placer.Placer.TheInside as inside

abbrev pub placing : inside.Inside → Placing
placing p = record { shape = p.layout; entries = p.queue.entries; units = p.units.items; lines = p.slots.items }

-- a line is one of these
abbrev pub IsAmongLines : List OpenLine → OpenLine → Type 0
IsAmongLines lines l = (i : ℕ) × (slice_get lines i ≡ Some l)

-- a stripe is placed in a line and isn't answered
abbrev pub IsUnanswered : OpenLine → ℕ → Type 0
IsUnanswered l j = slice_get l.stripes j ≡ Some Unanswered

-- no two of them have one number
abbrev pub AreApart : List OpenLine → Type 0
AreApart [] = ⊤
AreApart (l ∷ lines) = AllByRecursion (λ m. m.line ≢ l.line) lines × AreApart lines

-- a line is one of this shape
pub record FitsShape (s : Shape) (l : OpenLine) : Type 0 where
  pub online : l.online < 2 ^ units s
  pub some : 0 < width l
  pub few : width l ≤ units s
  pub stripes : length l.stripes ≡ width l * (s.clba / s.ws_opt)

-- the program of a row is that of its unit and of a stripe that isn't answered
pub record IsProgramOf (s : Shape) (lines : List OpenLine) (unit : ℕ) (of : Program) : Type 0 where
  pub unit_is : of.unit ≡ unit
  pub line : (l : OpenLine) × IsAmongLines lines l × (l.line ≡ of.line)
  pub stripe : (l : OpenLine) → IsAmongLines lines l → l.line ≡ of.line
      → IsUnanswered l (of.at / s.ws_opt) × (unit_of l (of.at / s.ws_opt) ≡ unit)

abbrev pub IsRowOf : Shape → List OpenLine → ℕ → UnitRow → Type 0
IsRowOf s lines unit Idle = ⊤
IsRowOf s lines unit (UnderWay of) = IsProgramOf s lines unit of
IsRowOf s lines unit (Stopped of) = IsProgramOf s lines unit of

-- a row has the program of this stripe
abbrev pub HasStripe : Shape → ℕ → ℕ → UnitRow → Type 0
HasStripe s line j Idle = ⊥
HasStripe s line j (UnderWay of) = (of.line ≡ line) × (of.at / s.ws_opt ≡ j)
HasStripe s line j (Stopped of) = (of.line ≡ line) × (of.at / s.ws_opt ≡ j)

-- The rows and the lines agree.
pub record Agree (s : Shape) (rows : List UnitRow) (lines : List OpenLine) : Type 0 where
  pub apart : AreApart lines
  pub fit : (l : OpenLine) → IsAmongLines lines l → FitsShape s l
  pub rows_of : (unit : ℕ) (r : UnitRow) → slice_get rows unit ≡ Some r → IsRowOf s lines unit r
  pub stripes_of : (l : OpenLine) (j : ℕ) → IsAmongLines lines l → IsUnanswered l j
      → (r : UnitRow) × (slice_get rows (unit_of l j) ≡ Some r) × HasStripe s l.line j r

pub record IsPlacer (p : inside.Inside) : Type 0 where
  pub accepted : IsAccepted p.layout
  pub ring : p.queue.room ≡ p.layout.ring
  pub rows : length p.units.items ≡ units p.layout
  pub few : length p.slots.items ≤ 2
  pub room : 2 ≤ vec_capacity p.slots
  pub agree : Agree p.layout p.units.items p.slots.items

-- the program of each stopped unit is one of its own
abbrev pub OwnUnits : List UnitRow → Type 0
OwnUnits rows = (unit : ℕ) (of : Program) → slice_get rows unit ≡ Some (Stopped of) → of.unit ≡ unit

-- the first of what a function gives that passes a test
abbrev pub first_given : {X Y : Type 0} → (Y → Bool) → (X → Option Y) → List X → Option Y
first_given test give xs = find test (filter_map give xs)
