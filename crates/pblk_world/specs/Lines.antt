-- Lines as the engine knows them: as they were when the mount began, after the unit events that its
-- log names.
use Rattle.std.specs.Prelude.{ℕ, ◌+◌, ◌==◌, ◌&&◌, not, if◌then◌else◌, nat_lt, Bool, true, false, List, [], map, slice_get, Option, Some, None}
use Rattle.std.specs.List.{filter, filter_map, list_all, list_any, enumerate_from, range_with_len}
use Rattle.std.specs.Option.{option_map, option_map_or, is_some}
use Rattle.pblk_model.specs.declared.chunk.ChunkState.{ChunkState}
use Rattle.pblk_model.specs.declared.chunk.ChunkState.TheVariants as states
use Rattle.pblk_model.specs.Chunk.{Chunk}
use Rattle.pblk_model.specs.UnitLog.{UnitEvent, after_log}
use Rattle.pblk_model.specs.LineOrder.{column_of, block_of, data_len}
use Rattle.pblk_model.specs.Image.{Image, width, line_units}
use Rattle.pblk_model.specs.StartRecord.{StartRecord, start_of}
use Rattle.pblk_world.specs.Events.{Landed, Lost, ResetDone, Event, Decides, Logged}
use Rattle.pblk_world.specs.World.{Logs, cut_logs, media, unit_event_at}
use Rattle.pblk_world.specs.EngineLog.{Begun, begun, LineLife, AsFound, Opened, Freed, life_of, is_as_found, is_opened}

-- the media by the prefixes that `Begin` names
abbrev pub found_by : Image → Logs → Option Begun → Image
found_by i logs None = i
found_by i logs (Some b) = media i (cut_logs b.knows logs)

abbrev pub found_image : Image → Logs → Image
found_image i logs = found_by i logs (begun (logs 0))

-- the events of a unit that the engine's log names as landed, lost, or reset, in the order of that
-- log
abbrev pub told_by : Logs → ℕ → Event → Option UnitEvent
told_by logs unit (Decides (Landed other event)) = if other == unit then unit_event_at logs unit event else None
told_by logs unit (Decides (Lost other event)) = if other == unit then unit_event_at logs unit event else None
told_by logs unit (Decides (ResetDone other event)) = if other == unit then unit_event_at logs unit event else None
told_by logs unit event = None

abbrev pub told_events : Logs → ℕ → List UnitEvent
told_events logs unit = filter_map (λ l. told_by logs unit l.event) (logs 0)

-- the image as the engine knows it
abbrev pub known_image : Image → Logs → Image
known_image i logs = record {
  shape = i.shape;
  units = map (λ unit. after_log i.shape unit.1 (told_events logs unit.0)) (enumerate_from 0 (found_image i logs).units);
}

-- Chunks of a line.

abbrev pub chunks_of : Image → ℕ → List Chunk
chunks_of i line = filter_map (λ unit. slice_get unit line) i.units

abbrev pub is_empty_state : ChunkState → Bool
is_empty_state states.Free = true
is_empty_state states.Open = false
is_empty_state states.Closed = false
is_empty_state states.Offline = true

-- nothing more is written to the chunk before it is reset: it is Closed or Offline, or Free in a
-- line as it was found
abbrev pub is_over_state : Bool → ChunkState → Bool
is_over_state as_found states.Free = as_found
is_over_state as_found states.Open = false
is_over_state as_found states.Closed = true
is_over_state as_found states.Offline = true

-- all of them are Free or Offline
abbrev pub are_empty : Image → ℕ → Bool
are_empty i line = list_all (λ c. is_empty_state c.state) (chunks_of i line)

-- Nothing more is written to the line before its chunks are reset.
abbrev pub are_over : Image → Logs → ℕ → Bool
are_over i logs line = list_all (λ c. is_over_state (is_as_found (life_of (logs 0) line)) c.state) (chunks_of (known_image i logs) line)

-- the unit, and the block of its chunk, that stand at a line address
abbrev pub place_of : Image → ℕ → ℕ → Option (ℕ × ℕ)
place_of i line a = option_map (λ unit. (unit, block_of i.shape (width i line) a))
    (slice_get (line_units i line) (column_of i.shape (width i line) a))

-- how many data addresses a line of this width has
abbrev pub line_data : Image → ℕ → ℕ
line_data i line = data_len i.shape (width i line)

-- Strays: the lines without a sequence number that have a chunk neither Free nor Offline.
abbrev pub is_stray : Image → ℕ → Bool
is_stray i line = not (is_some (start_of i line)) && not (are_empty i line)

abbrev pub stray_lines : Image → List ℕ
stray_lines i = filter (is_stray i) (range_with_len 0 i.shape.chunks)

-- the first sequence number after a head, and the first one ever
abbrev pub next_seq : Option StartRecord → ℕ
next_seq None = 1
next_seq (Some h) = h.seq + 1

-- A line is Free where it has no sequence number, isn't Dead, and has Free and Offline chunks
-- alone. It was blank, or it is a stray or a freed line that was reset, and it wasn't opened since.

abbrev pub has_number : Image → Logs → LineLife → ℕ → Bool
has_number i logs AsFound line = is_some (start_of (found_image i logs) line)
has_number i logs (Opened o) line = true
has_number i logs (Freed was knows) line = false

abbrev pub is_free_line : Image → Logs → ℕ → Bool
is_free_line i logs line = not (has_number i logs (life_of (logs 0) line) line) && are_empty (known_image i logs) line
    && nat_lt 0 (line_data (known_image i logs) line)

-- the line was freed, or is a stray of the beginning, and it wasn't opened since: its chunks may be
-- reset
abbrev pub is_given_up_by : List ℕ → ℕ → LineLife → Bool
is_given_up_by strays line AsFound = list_any (λ stray. stray == line) strays
is_given_up_by strays line (Opened o) = false
is_given_up_by strays line (Freed was knows) = true

abbrev pub strays_of : List Logged → List ℕ
strays_of log = option_map_or (λ b. b.beginning.strays) (begun log) []

abbrev pub is_given_up : List Logged → ℕ → Bool
is_given_up log line = is_given_up_by (strays_of log) line (life_of log line)

-- A line of this mount has a stripe left that is neither landed nor lost while a chunk of it is
-- neither Closed nor Offline.
abbrev pub has_stripe_left : Image → Logs → ℕ → Bool
has_stripe_left i logs line = is_opened (life_of (logs 0) line) && not (are_over i logs line)
