-- What a placer holds, by the logs of a mount.
use Rattle.std.specs.Prelude.{ℕ, ◌+◌, ◌*◌, ◌≡◌, ◌<◌, ◌==◌, ◌&&◌, not, if◌then◌else◌, Bool, true, false, List, map, length, slice_get, Option, Some}
use Rattle.std.specs.List.{find, filter, filter_map, fold, list_any, range_with_len}
use Rattle.std.specs.Option.{option_map_or, unwrap_or}
use Rattle.pblk_model.specs.declared.shape.Shape.{Shape}
use Rattle.pblk_model.specs.Shape.{units}
use Rattle.pblk_model.specs.Image.{Image}
use Rattle.pblk_world.specs.Events.{Stripe, Place, Again, Event, Decides, Logged}
use Rattle.pblk_world.specs.World.{Logs}
use Rattle.pblk_world.specs.EngineLog.{Taken, takes, LineLife, AsFound, Opened, Freed, Opening, Placed, placed_on, answers, life_of}
use Rattle.pblk_world.specs.Fronts.{waits, was_placed}
use Rattle.pblk_world.specs.Victims.{position_in, engine_prefix}
use Rattle.stripe_placer.specs.Entries.{Entries}
use Rattle.stripe_placer.specs.OpenLines.{OpenLine, numbers, kind_of}
use Rattle.stripe_placer.specs.Placing.{Program, UnitRow, Placing, next_in, IsUnderWay}
use Rattle.stripe_placer.specs.Placing.UnitRow.{Idle, UnderWay, Stopped}
use Rattle.stripe_placer.specs.Inside.{IsProgramOf}
use Rattle.core_laws.specs.OpenedLines.{is_stripe_at, open_line, open_lines}

-- Entries: those that were lost with each stripe that had them, and those that were never placed.

abbrev pub positions_of : List Taken → List ℕ
positions_of ts = map (λ t. t.entry.position) ts

abbrev pub lost_entries : Shape → List Logged → List Taken
lost_entries s log = filter (λ t. waits s log t && was_placed s log t) (takes log)

abbrev pub fresh_entries : Shape → List Logged → List Taken
fresh_entries s log = filter (λ t. not (was_placed s log t)) (takes log)

abbrev pub entries_of : Shape → List Logged → ℕ → Entries
entries_of s log pad = record {
  lost = positions_of (lost_entries s log);
  fresh = positions_of (fresh_entries s log);
  pad = pad;
}

-- Programs.

-- the positions of the entries in a stripe
abbrev pub positions_in_stripe : Shape → Stripe → List ℕ
positions_in_stripe s stripe = filter_map (position_in s) stripe.blocks

-- which of its line's stripes it is, in line order
abbrev pub number_of : Shape → OpenLine → Stripe → ℕ
number_of s l stripe = unwrap_or (find (is_stripe_at s l stripe.unit stripe.at) (numbers l)) 0

-- the program of a stripe of this number, with the kind that the line then asked for
abbrev pub program_at : Shape → OpenLine → Stripe → ℕ → Program
program_at s l stripe j = record {
  line = l.line;
  at = j * s.ws_opt;
  unit = stripe.unit;
  block = stripe.at;
  kind = kind_of l j;
  count = length (positions_in_stripe s stripe);
  positions = positions_in_stripe s stripe;
}

abbrev pub program_of_stripe : Shape → OpenLine → Stripe → Program
program_of_stripe s l stripe = program_at s l stripe (number_of s l stripe)

-- the program of a stripe that was placed in an opened line, by the line as it was before
abbrev pub program_of_placed : Image → Logs → Opening → Placed → Program
program_of_placed i logs o p = program_of_stripe i.shape (open_line i (engine_prefix p.number logs) o) p.stripe

-- Units.

-- the stripe of a unit that is neither landed nor lost
abbrev pub unanswered_on : List Logged → ℕ → Option Placed
unanswered_on log unit = slice_get (placed_on log unit) (length (answers log unit))

-- whether a unit's stripe was stopped since the last one was placed on it
abbrev pub stopped_by : ℕ → Bool → Event → Bool
stopped_by unit was (Decides (Place stripe)) = if stripe.unit == unit then false else was
stopped_by unit was (Decides (Again other event)) = if other == unit then true else was
stopped_by unit was event = was

abbrev pub was_stopped_on : List Logged → ℕ → Bool
was_stopped_on log unit = fold (λ was l. stopped_by unit was l.event) false log

abbrev pub contains_unit : List ℕ → ℕ → Bool
contains_unit units unit = list_any (λ u. u == unit) units

abbrev pub without_unit : ℕ → List ℕ → List ℕ
without_unit unit units = filter (λ u. not (u == unit)) units

-- A program that was stopped is offered again, until it is under way again. The engine notes only
-- the answer to that, so these units are named beside the logs.
abbrev pub waits_again : List Logged → List ℕ → ℕ → Bool
waits_again log again unit = was_stopped_on log unit && not (contains_unit again unit)

abbrev pub row_of_program : Bool → Program → UnitRow
row_of_program true of = Stopped of
row_of_program false of = UnderWay of

abbrev pub row_in : Image → Logs → Bool → LineLife → Placed → UnitRow
row_in i logs stopped AsFound p = Idle
row_in i logs stopped (Opened o) p = row_of_program stopped (program_of_placed i logs o p)
row_in i logs stopped (Freed past knows) p = Idle

abbrev pub unit_row_in : Image → Logs → List ℕ → ℕ → UnitRow
unit_row_in i logs again unit =
    option_map_or (λ p. row_in i logs (waits_again (logs 0) again unit) p.life p) (unanswered_on (logs 0) unit) Idle

-- The placer of these logs, for a pad target and the units whose stopped programs are under way
-- again.
abbrev pub placing_of : Image → Logs → ℕ → List ℕ → Placing
placing_of i logs pad again = record {
  shape = i.shape;
  entries = entries_of i.shape (logs 0) pad;
  units = map (unit_row_in i logs again) (range_with_len 0 (units i.shape));
  lines = open_lines i logs;
}

-- The next program of an opened line, and a stripe at its place with its entries, on a unit whose
-- stripes are all answered.
pub record IsStripeOf (i : Image) (logs : Logs) (pad : ℕ) (o : Opening) (stripe : Stripe) (of : Program) : Type 0 where
  pub opened : life_of (logs 0) stripe.line ≡ Opened o
  pub next : next_in i.shape (entries_of i.shape (logs 0) pad) (open_line i logs o) ≡ Some of
  pub unit : stripe.unit ≡ of.unit
  pub block : stripe.at ≡ of.block
  pub positions : positions_in_stripe i.shape stripe ≡ of.positions
  pub in_range : stripe.unit < units i.shape
  pub idle : length (answers (logs 0) stripe.unit) ≡ length (placed_on (logs 0) stripe.unit)

-- A program is under way, of the one stripe of its unit that isn't answered.
pub record IsAwaited (i : Image) (logs : Logs) (pad : ℕ) (again : List ℕ) (of : Program) : Type 0 where
  pub under_way : IsUnderWay (placing_of i logs pad again) of
  pub stripe : IsProgramOf i.shape (open_lines i logs) of.unit of
  pub one : length (placed_on (logs 0) of.unit) ≡ length (answers (logs 0) of.unit) + 1
