-- The chunks of lines that were given up and that are still to be reset.
use Rattle.std.specs.Prelude.{ℕ, ◌+◌, ◌-◌, ◌*◌, ◌^◌, ◌<◌, ◌≤◌, ◌≡◌, ◌≢◌, ◌==◌, not, if◌then◌else◌, Bool, true, false, List, [], ◌++◌, length, map, slice_get, slice_set, Option, Some, None}
use Rattle.std.specs.List.{AllByRecursion, filter, flat_map, range_with_len, slice_index_or}
use Rattle.std.specs.Option.{option_map_or}
use Rattle.pblk_model.specs.declared.shape.Shape.{Shape}
use Rattle.pblk_model.specs.declared.chunk.ChunkState.{ChunkState}
use Rattle.pblk_model.specs.Chunk.{Chunk}
use Rattle.pblk_model.specs.ChunkStep.{Reset}
use Rattle.pblk_model.specs.UnitLog.{after_outcome}
use Rattle.pblk_model.specs.Shape.{units}
use Rattle.pblk_model.specs.Image.{Image, is_online_in}
use Rattle.pblk_model.specs.LineOrder.{data_len}
use Rattle.pblk_laws.specs.LineBlocks.{chunk_in}
use Rattle.pblk_world.specs.World.{Logs}
use Rattle.pblk_world.specs.Answering.{MayNoteReset}
use Rattle.pblk_world.specs.Lines.{known_image, is_empty_state, is_given_up}
use Rattle.pblk_layout.specs.Online.{units_in}
use Rattle.line_table.specs.LineSets.{has}
use Rattle.line_table.specs.declared.row.LineState.{LineState}
use Rattle.line_table.specs.declared.row.LineState.TheVariants.{Dead, Free}
use Rattle.pblk_core.specs.declared.resets.LineChunk.{LineChunk}

-- neither Free nor Offline
abbrev pub is_used_state : ChunkState → Bool
is_used_state state = not (is_empty_state state)

-- the chunks of these units in a line
abbrev pub in_line : ℕ → List ℕ → List LineChunk
in_line line units = map (λ unit. record { line = line; unit = unit }) units

-- By the logs: the used chunks of lines that were given up, by line and then by unit.

abbrev pub is_used_in : Image → ℕ → ℕ → Bool
is_used_in i line unit = option_map_or (λ c. is_used_state c.state) (chunk_in i line unit) false

abbrev pub used_units : Image → ℕ → List ℕ
used_units i line = filter (is_used_in i line) (range_with_len 0 (units i.shape))

abbrev pub units_to_reset : Image → Logs → ℕ → List ℕ
units_to_reset i logs line = if is_given_up (logs 0) line then used_units (known_image i logs) line else []

abbrev pub resets_of : Image → Logs → List LineChunk
resets_of i logs = flat_map (λ line. in_line line (units_to_reset i logs line)) (range_with_len 0 i.shape.chunks)

-- one of them
pub record IsToReset (i : Image) (logs : Logs) (line unit : ℕ) : Type 0 where
  pub in_range : line < i.shape.chunks
  pub unit_in_range : unit < units i.shape
  pub given_up : is_given_up (logs 0) line ≡ true
  pub chunk : Chunk
  pub is_chunk : chunk_in (known_image i logs) line unit ≡ Some chunk
  pub used : is_used_state chunk.state ≡ true

-- A reset that the engine may note is that of this chunk, and leaves it in this state.
pub record IsResetTo (i : Image) (logs : Logs) (unit number line : ℕ) (state : ChunkState) : Type 0 where
  pub may : MayNoteReset logs unit number
  pub chunk : may.reset.chunk ≡ line
  pub leaves : (c : Chunk) → chunk_in (known_image i logs) line unit ≡ Some c
      → (after_outcome i.shape c Reset may.reset.outcome).state ≡ state

-- By what recovery found: the used chunks of the strays, by the states of all chunks.

abbrev pub is_used_at : Option ChunkState → Bool
is_used_at None = false
is_used_at (Some state) = is_used_state state

abbrev pub used_below : Shape → List ChunkState → ℕ → ℕ → List ℕ
used_below s chunks line n = filter (λ unit. is_used_at (slice_get chunks (unit * s.chunks + line))) (range_with_len 0 n)

abbrev pub resets_found : Shape → List ChunkState → List ℕ → List LineChunk
resets_found s chunks strays = flat_map (λ line. in_line line (used_below s chunks line (units s))) strays

-- What a reset changes of the units of lines, by their bits, and of the line's state once all its
-- chunks are Free or Offline.

-- the unit isn't one of the line's if its chunk is Offline
abbrev pub kept_units : List ℕ → ℕ → ℕ → ChunkState → List ℕ
kept_units online line unit state =
    if is_online_in state then online
    else option_map_or (λ units. slice_set online line (units - 2 ^ unit)) (slice_get online line) online

abbrev pub emptied : Shape → ℕ → LineState
emptied s width = if data_len s width == 0 then Dead else Free

-- By the core: those that are left.

-- the lines that wait for resets, as the words of their set, and of each line the used units, as
-- bits
pub record ResetQueue : Type 0 where
  pub waiting : List ℕ
  pub used : List ℕ

abbrev pub used_in : ResetQueue → ℕ → ℕ
used_in r line = slice_index_or r.used line 0

abbrev pub waiting_units : ResetQueue → ℕ → List ℕ
waiting_units r line = if has r.waiting line then units_in (used_in r line) else []

abbrev pub resets_left : ResetQueue → List LineChunk
resets_left r = flat_map (λ line. in_line line (waiting_units r line)) (range_with_len 0 (length r.used))

-- There are few lines, and one that waits has a used unit.
pub record IsResetQueue (r : ResetQueue) : Type 0 where
  pub few : length r.used ≤ 1024
  pub some : (line : ℕ) → has r.waiting line ≡ true → units_in (used_in r line) ≢ []

-- no chunk of the line is among them
abbrev pub HasNoneOf : ℕ → List LineChunk → Type 0
HasNoneOf line chunks = AllByRecursion (λ c. c.line ≢ line) chunks

-- whether the first one is of the line
abbrev pub is_of_line : ℕ → Option LineChunk → Bool
is_of_line line None = false
is_of_line line (Some c) = c.line == line

-- The chunks of these units of a line came to the others, behind those of lines before it and
-- before those of lines after it.
pub record GetsChunks (old new : List LineChunk) (line : ℕ) (units : List ℕ) : Type 0 where
  pub front : List LineChunk
  pub back : List LineChunk
  pub was : old ≡ front ++ back
  pub is : new ≡ front ++ in_line line units ++ back
  pub below : AllByRecursion (λ c. c.line < line) front
  pub above : AllByRecursion (λ c. line < c.line) back
