-- What the engine's log says by itself: how the mount began, what was taken, and what became of
-- each line and each stripe.
use Rattle.std.specs.Prelude.{ℕ, ◌==◌, ◌&&◌, if◌then◌else◌, nat_lt, Bool, true, false, List, [], ◌∷◌, take, length, slice_get, Option, Some, None}
use Rattle.std.specs.List.{fold, filter, filter_map, list_any, enumerate_from}
use Rattle.std.specs.Option.{is_some}
use Rattle.pblk_model.specs.declared.shape.Shape.{Shape}
use Rattle.pblk_model.specs.declared.chunk.Mark.{Mark}
use Rattle.pblk_model.specs.Chunk.{Block}
use Rattle.pblk_model.specs.StartRecord.{StartRecord}
use Rattle.pblk_model.specs.Records.{named}
use Rattle.pblk_world.specs.Events.{Entry, Stripe, Beginning, Begin, Take, Open, Place, Landed, Lost, Again, ResetDone, Free, Event, Decides, Logged}

-- The beginning: what the first event says, and which prefixes it names.
pub record Begun : Type 0 where
  pub beginning : Beginning
  pub knows : List ℕ

abbrev pub begun_by : List ℕ → Event → Option Begun
begun_by knows (Decides (Begin b)) = Some (record { beginning = b; knows = knows })
begun_by knows event = None

abbrev pub begun : List Logged → Option Begun
begun [] = None
begun (l ∷ log) = begun_by l.knows l.event

-- Entries that were taken, each with its mark, in the order of their positions.
pub record Taken : Type 0 where
  pub entry : Entry
  pub mark : Mark

abbrev pub taken_by : Event → Option Taken
taken_by (Decides (Take entry mark)) = Some (record { entry = entry; mark = mark })
taken_by event = None

abbrev pub takes : List Logged → List Taken
takes log = filter_map (λ l. taken_by l.event) log

-- the block in which an entry is written
abbrev pub block_of_taken : Taken → Block
block_of_taken t = record { sector = t.entry.sector; mark = t.mark }

-- Lines. An opening of one has the number of its event in the engine's log, from 0.
pub record Opening : Type 0 where
  pub number : ℕ
  pub line : ℕ
  pub start : StartRecord
  pub knows : List ℕ

-- what became of a line in this mount
pub data LineLife : Type 0 where
  -- it is as the mount found it
  AsFound : LineLife
  Opened : Opening → LineLife
  -- it was freed, by an event that named these prefixes; and how it had been opened, if it was
  Freed : Option Opening → List ℕ → LineLife

-- how it was opened last
abbrev pub last_opening : LineLife → Option Opening
last_opening AsFound = None
last_opening (Opened o) = Some o
last_opening (Freed was knows) = was

abbrev pub turned_by : ℕ → LineLife → ℕ → List ℕ → Event → LineLife
turned_by line life number knows (Decides (Open other start)) =
    if other == line then Opened (record { number = number; line = line; start = start; knows = knows }) else life
turned_by line life number knows (Decides (Free other)) = if other == line then Freed (last_opening life) knows else life
turned_by line life number knows event = life

abbrev pub turned : ℕ → LineLife → ℕ × Logged → LineLife
turned line life event = turned_by line life event.0 event.1.knows event.1.event

abbrev pub life_of : List Logged → ℕ → LineLife
life_of log line = fold (turned line) AsFound (enumerate_from 0 log)

abbrev pub is_as_found : LineLife → Bool
is_as_found AsFound = true
is_as_found (Opened o) = false
is_as_found (Freed was knows) = false

abbrev pub is_opened : LineLife → Bool
is_opened AsFound = false
is_opened (Opened o) = true
is_opened (Freed was knows) = false

-- whether it is the life that began with the opening of this number
abbrev pub is_life : ℕ → LineLife → Bool
is_life number AsFound = false
is_life number (Opened o) = o.number == number
is_life number (Freed was knows) = false

-- all openings, oldest first
abbrev pub opened_by : ℕ → List ℕ → Event → Option Opening
opened_by number knows (Decides (Open line start)) = Some (record { number = number; line = line; start = start; knows = knows })
opened_by number knows event = None

abbrev pub openings : List Logged → List Opening
openings log = filter_map (λ event. opened_by event.0 event.1.knows event.1.event) (enumerate_from 0 log)

-- Stripes that were placed: each with the number of its event, and with what its line was then.
pub record Placed : Type 0 where
  pub number : ℕ
  pub stripe : Stripe
  pub life : LineLife

abbrev pub placed_by : List Logged → ℕ → Event → Option Placed
placed_by log number (Decides (Place stripe)) = Some (record {
  number = number;
  stripe = stripe;
  life = life_of (take number log) stripe.line;
})
placed_by log number event = None

abbrev pub placements : List Logged → List Placed
placements log = filter_map (λ event. placed_by log event.0 event.1.event) (enumerate_from 0 log)

-- those on a unit
abbrev pub placed_on : List Logged → ℕ → List Placed
placed_on log unit = filter (λ p. p.stripe.unit == unit) (placements log)

-- those of an opening of a line
abbrev pub stripes_of : List Logged → Opening → List Placed
stripes_of log o = filter (λ p. is_life o.number p.life) (placements log)

-- those of an opening on a unit
abbrev pub stripes_on : List Logged → Opening → ℕ → List Placed
stripes_on log o unit = filter (λ p. p.stripe.unit == unit) (stripes_of log o)

-- Answers. A unit has at most one stripe at a time that has neither landed nor was lost, so the
-- k-th of these answers of a unit is that of the k-th stripe placed on it.
pub data Answer : Type 0 where
  -- with the number of the event in the unit's log
  DidLand : ℕ → Answer
  WasLost : ℕ → Answer

abbrev pub answer_by : ℕ → Event → Option Answer
answer_by unit (Decides (Landed other event)) = if other == unit then Some (DidLand event) else None
answer_by unit (Decides (Lost other event)) = if other == unit then Some (WasLost event) else None
answer_by unit event = None

abbrev pub answers : List Logged → ℕ → List Answer
answers log unit = filter_map (λ l. answer_by unit l.event) log

-- how many stripes were placed on its unit before a stripe
abbrev pub turn : List Logged → Placed → ℕ
turn log p = length (filter (λ q. nat_lt q.number p.number) (placed_on log p.stripe.unit))

abbrev pub answer_of : List Logged → Placed → Option Answer
answer_of log p = slice_get (answers log p.stripe.unit) (turn log p)

abbrev pub is_land : Option Answer → Bool
is_land None = false
is_land (Some (DidLand event)) = true
is_land (Some (WasLost event)) = false

abbrev pub is_loss : Option Answer → Bool
is_loss None = false
is_loss (Some (DidLand event)) = false
is_loss (Some (WasLost event)) = true

abbrev pub has_landed : List Logged → Placed → Bool
has_landed log p = is_land (answer_of log p)

abbrev pub was_lost : List Logged → Placed → Bool
was_lost log p = is_loss (answer_of log p)

abbrev pub is_answered : List Logged → Placed → Bool
is_answered log p = is_some (answer_of log p)

-- the numbers of the events of a unit that the engine has named
abbrev pub named_by : ℕ → Event → Option ℕ
named_by unit (Decides (Landed other event)) = if other == unit then Some event else None
named_by unit (Decides (Lost other event)) = if other == unit then Some event else None
named_by unit (Decides (Again other event)) = if other == unit then Some event else None
named_by unit (Decides (ResetDone other event)) = if other == unit then Some event else None
named_by unit event = None

abbrev pub named_events : List Logged → ℕ → List ℕ
named_events log unit = filter_map (λ l. named_by unit l.event) log

-- an opened line is Failed once a stripe of it was lost
abbrev pub has_failed : List Logged → Opening → Bool
has_failed log o = list_any (was_lost log) (stripes_of log o)

-- Positions.

-- the block of an entry at this position: a sector's or a Void one
abbrev pub bears_position : Shape → ℕ → Block → Bool
bears_position s position b = is_some (named s b.mark) && (b.mark.position == position)

abbrev pub holds_position : Shape → ℕ → Placed → Bool
holds_position s position p = list_any (bears_position s position) p.stripe.blocks
