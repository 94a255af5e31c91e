-- What a core names as its next work, by its tables and by the logs.
use Rattle.std.specs.Prelude.{ℕ, List, ◌+◌, ◌^◌, ◌==◌, ◌&&◌, ◌||◌, not, if◌then◌else◌, nat_lt, Bool, length, position, slice_get, Option, Some, None}
use Rattle.std.specs.Option.{is_some, unwrap_or, option_map_or}
use Rattle.std.specs.List.{slice_index_or}
use Rattle.pblk_model.specs.Image.{Image}
use Rattle.pblk_model.specs.StartRecord.{StartRecord}
use Rattle.pblk_meta.specs.Records.{start_numbers}
use Rattle.pblk_world.specs.World.{Logs}
use Rattle.pblk_world.specs.EngineLog.{Begun, begun, openings}
use Rattle.pblk_world.specs.Fronts.{synced, waiting}
use Rattle.pblk_world.specs.Space.{open_addresses}
use Rattle.pblk_layout.specs.Online.{units_in}
use Rattle.line_table.specs.Rows.{is_free}
use Rattle.stripe_placer.specs.Entries.{waiting as entries_waiting}
use Rattle.stripe_placer.specs.Placing.{Placing, next_stripe, padded_to}
use Rattle.write_window.specs.Window as view
use Rattle.core_laws.specs.OpenedLines.{open_lines}
use Rattle.core_laws.specs.PlacerOf.{placing_of}
use Rattle.core_laws.specs.RowsOf.{rows_of}
use Rattle.pblk_core.specs.Copies.{copy_due, is_copying, is_copy_due}
use Rattle.pblk_core.specs.Resets.{resets_left, resets_of}
use Rattle.pblk_core.specs.Stands.{under_way}
use Rattle.pblk_core.specs.declared.resets.LineChunk.{LineChunk}
use Rattle.pblk_core.specs.declared.work.Work.{Work}
use Rattle.pblk_core.specs.declared.work.Work.TheVariants.{Program, Reset, Open, Copy, Nothing}
use Rattle.pblk_core.specs.declared.work.Why.{Why}
use Rattle.pblk_core.specs.declared.work.Why.TheVariants.{Busy, NoLine, Rest}
use Rattle.pblk_core.specs.declared.target_core.Core.{Core}

-- Why nothing can be done: something is in flight; or an entry waits for an address, and no line is
-- Free.
abbrev pub why : Bool → Bool → Why
why in_flight lacks_line = if in_flight then Busy else if lacks_line then NoLine else Rest

-- A program; or, where an entry waits for an address, the opening of a line, if one is Free and may
-- be opened; or a copy.
abbrev pub choice : Bool → Bool → Bool → Bool → Bool → Bool → Work
choice has_stripe asks_line has_free may_open has_copy in_flight =
    if has_stripe then Program
    else if asks_line && (has_free && may_open) then Open
    else if has_copy then Copy
    else Nothing (why in_flight (asks_line && not has_free))

-- The reset of a chunk comes first.
abbrev pub reset_or : Option LineChunk → Work → Work
reset_or None otherwise = otherwise
reset_or (Some chunk) otherwise = Reset chunk.line chunk.unit

-- By the core's tables.

-- an entry waits, and no open line has an address left
abbrev pub asks_line : Core → Bool
asks_line c = nat_lt 0 (length (entries_waiting c.placer.entries)) && (c.left == 0)

abbrev pub has_free : Core → Bool
has_free c = is_some (position is_free c.lines.rows)

-- at most one line has a stripe left, and the numbers of a start record aren't at their end
abbrev pub may_open : Core → Bool
may_open c = nat_lt c.open.count 2 && (nat_lt c.start.seq (2 ^ 61) && nat_lt (view.synced c.window).position (2 ^ 61))

-- a copy is due, and none is under way
abbrev pub may_copy : Core → Bool
may_copy c = copy_due c && not (is_copying c)

-- a stripe or a copy is under way
abbrev pub is_busy : Core → Bool
is_busy c = nat_lt 0 c.under_way || is_copying c

-- what it names where no chunk is to be reset
abbrev pub named_beside : Core → Work
named_beside c = choice (is_some (next_stripe c.placer 0)) (asks_line c) (has_free c) (may_open c) (may_copy c) (is_busy c)

abbrev pub named : Core → Work
named c = reset_or (slice_get (resets_left c.resets) 0) (named_beside c)

abbrev pub pad_of : Core → ℕ
pad_of c = c.placer.entries.pad

-- the core with its pad target raised to this, and nothing else changed
abbrev pub padded : Core → ℕ → Core
padded c to = record c { placer = padded_to c.placer to }

-- By the logs, for a pad target and the units whose stopped programs are under way again.
abbrev pub first_seq_of : Logs → ℕ
first_seq_of logs = option_map_or (λ (b : Begun). b.beginning.seq) (begun (logs 0)) 0

-- by what a placer offers, and whether a copy is under way
abbrev pub work_by : Image → Logs → Placing → Bool → Work
work_by i logs p copying = choice
    (is_some (next_stripe p 0))
    (nat_lt 0 (length (waiting i.shape (logs 0))) && (open_addresses i logs == 0))
    (is_some (position is_free (rows_of i logs).rows))
    (nat_lt (length (open_lines i logs)) 2 && (nat_lt (first_seq_of logs + length (openings (logs 0))) (2 ^ 61) && nat_lt (synced i.shape (logs 0)) (2 ^ 61)))
    (is_copy_due i logs && not copying)
    (nat_lt 0 (under_way i.shape (logs 0)) || copying)

abbrev pub work_beside : Image → Logs → ℕ → List ℕ → Bool → Work
work_beside i logs pad again copying = work_by i logs (placing_of i logs pad again) copying

abbrev pub work_of : Image → Logs → ℕ → List ℕ → Bool → Work
work_of i logs pad again copying = reset_or (slice_get (resets_of i logs) 0) (work_beside i logs pad again copying)

-- The line that is opened next, its units, and its start record.
abbrev pub next_line : Core → ℕ
next_line c = unwrap_or (position is_free c.lines.rows) 0

abbrev pub next_units : Core → ℕ
next_units c = slice_index_or c.online.items (next_line c) 0

abbrev pub next_start : Core → StartRecord
next_start c = record {
  line = next_line c;
  width = length (units_in (next_units c));
  seq = c.start.seq;
  first_seq = c.start.first_seq;
  front = (view.synced c.window).position;
  capacity = c.start.capacity;
  rows = (start_numbers c.start).rows;
}
