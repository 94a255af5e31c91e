-- Which stripe a target places next, and what its answer changes (this project's rules of placing and padding; Bjørling,
-- González, Bonnet, FAST 2017, write buffering).
use Rattle.std.specs.Prelude.{ℕ, ◌*◌, ◌/◌, ◌≡◌, ◌&&◌, not, if◌then◌else◌, Bool, true, false, List, [], ◌∷◌, ◌++◌, map, length, replicate, take, slice_get, slice_set, Option, Some, None}
use Rattle.std.specs.List.{filter, filter_map, find, flat_map}
use Rattle.std.specs.Option.{option_map_or}
use Rattle.pblk_model.specs.declared.shape.Shape.{Shape}
use Rattle.pblk_model.specs.Shape.{units}
use Rattle.pblk_layout.specs.Online.{is_in}
use Rattle.stripe_placer.specs.declared.placement.StripeKind.{StripeKind}
use Rattle.stripe_placer.specs.declared.placement.StripeKind.TheVariants as kinds
use Rattle.stripe_placer.specs.declared.placement.Placement.{Placement}
use Rattle.stripe_placer.specs.Entries.{Entries, waiting, has_stripe, without_first, with_entry, with_pad}
use Rattle.stripe_placer.specs.OpenLines.{Stripe, OpenLine, opened, width, unit_of, next_of, kind_of, has_left, start_has_landed, data_has_landed, in_line}
use Rattle.stripe_placer.specs.OpenLines.Stripe.{Unanswered, Landed, Lost}

-- The program of a stripe: its line, its first line address, the unit and the block there, its kind, and the positions of its
-- entries in their order.
pub record Program : Type 0 where
  pub line : ℕ
  pub at : ℕ
  pub unit : ℕ
  pub block : ℕ
  pub kind : StripeKind
  pub count : ℕ
  pub positions : List ℕ

-- what a placement says of a program: all but the positions
abbrev pub placement : Program → Placement
placement o = record { line = o.line; at = o.at; unit = o.unit; block = o.block; kind = o.kind; count = o.count }

abbrev pub program_with : Placement → List ℕ → Program
program_with o positions = record {
  line = o.line;
  at = o.at;
  unit = o.unit;
  block = o.block;
  kind = o.kind;
  count = o.count;
  positions = positions;
}

-- What a unit has of the target.
pub data UnitRow : Type 0 where
  Idle : UnitRow
  UnderWay : Program → UnitRow
  -- the program was stopped, and is to be made again
  Stopped : Program → UnitRow

-- The entries that wait, a row for each unit, and the lines that have a stripe left, in the order in which they were opened.
pub record Placing : Type 0 where
  pub shape : Shape
  pub entries : Entries
  pub units : List UnitRow
  pub lines : List OpenLine

-- at the beginning
abbrev pub nothing_placed : Shape → Placing
nothing_placed s = record {
  shape = s;
  entries = record { lost = []; fresh = []; pad = 0 };
  units = replicate (units s) Idle;
  lines = [];
}

-- What may be placed in a line: stripes of its start record and pads at any time; data once the start record has landed whole
-- and there are entries for a stripe; the end record once every data stripe has landed.
abbrev pub allows : Shape → Entries → OpenLine → StripeKind → Bool
allows s e l kinds.Start = true
allows s e l kinds.Data = start_has_landed l && has_stripe s.ws_opt e
allows s e l kinds.Pad = true
allows s e l kinds.End = data_has_landed l

-- the entries of the next stripe of a kind: only data have any, and then the first that wait
abbrev pub next_positions : Shape → Entries → StripeKind → List ℕ
next_positions s e kinds.Start = []
next_positions s e kinds.Data = take s.ws_opt (waiting e)
next_positions s e kinds.Pad = []
next_positions s e kinds.End = []

-- The program of stripe j of a line, with these entries. It is in the row j div g of the line's g chunks.
abbrev pub program_of : Shape → OpenLine → ℕ → StripeKind → List ℕ → Program
program_of s l j kind positions = record {
  line = l.line;
  at = j * s.ws_opt;
  unit = unit_of l j;
  block = j / width l * s.ws_opt;
  kind = kind;
  count = length positions;
  positions = positions;
}

-- the program of the next stripe of a line, where it is allowed
abbrev pub allowed_at : Shape → Entries → OpenLine → Option ℕ → Option Program
allowed_at s e l None = None
allowed_at s e l (Some j) =
    let kind = kind_of l j in
    if allows s e l kind then Some (program_of s l j kind (next_positions s e kind)) else None

abbrev pub next_in : Shape → Entries → OpenLine → Option Program
next_in s e l = allowed_at s e l (next_of l)

-- the program of a unit that was stopped
abbrev pub stopped_in : UnitRow → Option Program
stopped_in Idle = None
stopped_in (UnderWay of) = None
stopped_in (Stopped of) = Some of

-- the program of a unit that is under way
abbrev pub under_way_in : UnitRow → Option Program
under_way_in Idle = None
under_way_in (UnderWay of) = Some of
under_way_in (Stopped of) = None

-- What can be placed, in this order: what was stopped, by unit; then the next stripe in line order of each line, the line
-- that was opened first before the other.
abbrev pub offers : Placing → List Program
offers p = filter_map stopped_in p.units ++ filter_map (next_in p.shape p.entries) p.lines

abbrev pub is_under_way : UnitRow → Bool
is_under_way Idle = false
is_under_way (UnderWay of) = true
is_under_way (Stopped of) = false

-- a unit takes a program where it isn't busy and has none under way
abbrev pub is_ready : List UnitRow → ℕ → ℕ → Bool
is_ready rows busy unit = not (is_in busy unit) && not (option_map_or is_under_way (slice_get rows unit) false)

-- The next stripe: the first of these whose unit is ready.
abbrev pub next_stripe : Placing → ℕ → Option Program
next_stripe p busy = find (λ of. is_ready p.units busy of.unit) (offers p)

-- it is the next stripe for some busy units
abbrev pub IsNext : Placing → Program → Type 0
IsNext p of = (busy : ℕ) × (next_stripe p busy ≡ Some of)

-- it was placed and hasn't been answered
abbrev pub IsUnderWay : Placing → Program → Type 0
IsUnderWay p of = slice_get p.units of.unit ≡ Some (UnderWay of)

-- the positions of the entries of a unit's stripe
abbrev pub positions_in : UnitRow → List ℕ
positions_in Idle = []
positions_in (UnderWay of) = of.positions
positions_in (Stopped of) = of.positions

-- The program that a placement names: that of the stripe that its unit has; else that of a new stripe, which takes the first
-- entries that wait.
abbrev pub or_first : Option UnitRow → List ℕ → List ℕ
or_first None first = first
or_first (Some Idle) first = first
or_first (Some (UnderWay of)) first = of.positions
or_first (Some (Stopped of)) first = of.positions

abbrev pub program : Placing → Placement → Program
program p of = program_with of (or_first (slice_get p.units of.unit) (take of.count (waiting p.entries)))

-- The positions of all entries that wait or stand in a stripe that is neither landed nor lost.

abbrev pub held : Placing → List ℕ
held p = waiting p.entries ++ flat_map positions_in p.units

-- What changes.

-- an entry waits
abbrev pub waits : Placing → ℕ → Bool → Placing
waits p position lost = record {
  shape = p.shape;
  entries = with_entry p.entries position lost;
  units = p.units;
  lines = p.lines;
}

-- the pad target is raised
abbrev pub padded_to : Placing → ℕ → Placing
padded_to p position = record { shape = p.shape; entries = with_pad p.entries position; units = p.units; lines = p.lines }

-- a line is opened, behind the other
abbrev pub begun : Placing → ℕ → ℕ → Placing
begun p line online = record {
  shape = p.shape;
  entries = p.entries;
  units = p.units;
  lines = p.lines ++ opened p.shape line online ∷ [];
}

-- the lines with what became of a program's stripe
abbrev pub with_outcome : Placing → Program → Stripe → List OpenLine
with_outcome p of to = map (in_line of.line (of.at / p.shape.ws_opt) to) p.lines

-- the units with another row for a program's unit
abbrev pub with_row : Placing → Program → UnitRow → List UnitRow
with_row p of row = slice_set p.units of.unit row

-- A program is under way: one that was stopped, again; or that of a new stripe, whose entries wait no more.
abbrev pub placed_again : Placing → Program → Placing
placed_again p of = record { shape = p.shape; entries = p.entries; units = with_row p of (UnderWay of); lines = p.lines }

abbrev pub placed_first : Placing → Program → Placing
placed_first p of = record {
  shape = p.shape;
  entries = without_first of.count p.entries;
  units = with_row p of (UnderWay of);
  lines = with_outcome p of Unanswered;
}

abbrev pub is_stopped : UnitRow → Bool
is_stopped Idle = false
is_stopped (UnderWay of) = false
is_stopped (Stopped of) = true

abbrev pub placed : Placing → Program → Placing
placed p of = if option_map_or is_stopped (slice_get p.units of.unit) false then placed_again p of else placed_first p of

-- A program is answered: its unit is idle again, and a line without a stripe left is none of the open ones.
abbrev pub answered : Placing → Program → Stripe → Placing
answered p of to = record {
  shape = p.shape;
  entries = p.entries;
  units = with_row p of Idle;
  lines = filter has_left (with_outcome p of to);
}

abbrev pub landed : Placing → Program → Placing
landed p of = answered p of Landed

abbrev pub lost : Placing → Program → Placing
lost p of = answered p of Lost

-- A program is stopped: its stripe stays placed.
abbrev pub stopped : Placing → Program → Placing
stopped p of = record { shape = p.shape; entries = p.entries; units = with_row p of (Stopped of); lines = p.lines }
