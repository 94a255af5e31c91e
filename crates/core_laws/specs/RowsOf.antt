-- What the table of lines holds, by the logs of a mount.
use Rattle.std.specs.Prelude.{ℕ, ◌/◌, ◌==◌, if◌then◌else◌, List, map, slice_index, Option, Some, None}
use Rattle.std.specs.List.{filter, last_or, range_with_len}
use Rattle.std.specs.Option.{option_map, is_some}
use Rattle.pblk_model.specs.Image.{Image, width}
use Rattle.pblk_model.specs.StartRecord.{StartRecord, start_of}
use Rattle.pblk_model.specs.EndRecord.{end_of}
use Rattle.pblk_world.specs.World.{Logs}
use Rattle.pblk_world.specs.EngineLog.{LineLife, AsFound, Opened, Freed, life_of, takes, has_failed}
use Rattle.pblk_world.specs.Lines.{found_image, known_image, line_data, are_empty}
use Rattle.pblk_world.specs.Starts.{have_landed}
use Rattle.pblk_world.specs.Placing.{line_end}
use Rattle.pblk_world.specs.Victims.{live, took_from, engine_prefix}
use Rattle.line_table.specs.declared.row.LineState.{LineState}
use Rattle.line_table.specs.declared.row.LineState.TheVariants.{Free, Open, Full, Failed, Dead}
use Rattle.line_table.specs.declared.row.LineState.TheVariants as states
use Rattle.line_table.specs.declared.row.Row.{Row}
use Rattle.line_table.specs.Rows.{Table}

-- States.

-- of a line of which nothing is needed any more: it is Freed until all its chunks are Free or
-- Offline
abbrev pub state_given_up : Image → Logs → ℕ → LineState
state_given_up i logs line = if are_empty (known_image i logs) line
    then (if line_data (known_image i logs) line == 0 then Dead else Free)
    else states.Freed

-- of a line as it was found: by its end record where it has a sequence number
abbrev pub state_found : Image → Logs → ℕ → Option StartRecord → LineState
state_found i logs line None = state_given_up i logs line
state_found i logs line (Some start) = if is_some (end_of (found_image i logs) line start) then Full else Failed

-- A line that was opened is Failed once a stripe of it was lost, and Full once all have landed.
abbrev pub state_in : Image → Logs → ℕ → LineLife → LineState
state_in i logs line AsFound = state_found i logs line (start_of (found_image i logs) line)
state_in i logs line (Opened o) = if has_failed (logs 0) o then Failed
    else if have_landed (logs 0) o (line_end i.shape o / i.shape.ws_opt) then Full
    else Open
state_in i logs line (Freed past knows) = state_given_up i logs line

abbrev pub state_of : Image → Logs → ℕ → LineState
state_of i logs line = state_in i logs line (life_of (logs 0) line)

-- Widths and takers. Those of a Freed line are as they were when it was freed, until it is Free or
-- Dead.

-- the logs when an event was made that named these prefixes
abbrev pub logs_then : List ℕ → Logs → Logs
logs_then knows logs = engine_prefix (slice_index knows 0) logs

abbrev pub width_given_up : Image → Logs → Logs → ℕ → ℕ
width_given_up i logs then_ line = if are_empty (known_image i logs) line
    then width (known_image i logs) line
    else width (known_image i then_) line

abbrev pub width_in : Image → Logs → ℕ → LineLife → ℕ
width_in i logs line AsFound = if are_empty (known_image i logs) line
    then width (known_image i logs) line
    else width (found_image i logs) line
width_in i logs line (Opened o) = o.start.width
width_in i logs line (Freed past knows) = width_given_up i logs (logs_then knows logs) line

-- the greatest position that took a sector from the line
abbrev pub taker_by : Image → Logs → ℕ → Option ℕ
taker_by i logs line = option_map (λ t. t.entry.position) (last_or None (filter (took_from i logs line) (takes (logs 0))))

abbrev pub taker_in : Image → Logs → ℕ → LineLife → Option ℕ
taker_in i logs line AsFound = taker_by i logs line
taker_in i logs line (Opened o) = taker_by i logs line
taker_in i logs line (Freed past knows) = taker_by i (logs_then knows logs) line

-- Rows.

abbrev pub row_of_line : Image → Logs → ℕ → Row
row_of_line i logs line = record {
  state = state_of i logs line;
  width = width_in i logs line (life_of (logs 0) line);
  live = live i logs line;
  taker = taker_in i logs line (life_of (logs 0) line);
}

abbrev pub rows_of : Image → Logs → Table
rows_of i logs = record { shape = i.shape; rows = map (row_of_line i logs) (range_with_len 0 i.shape.chunks) }
