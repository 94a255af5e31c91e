-- What an event of the engine may make of the unplaced data addresses, and of the lines that are to
-- be reset.
use Rattle.std.specs.Prelude.{ℕ, ◌-◌, ◌/◌, ◌&&◌, if◌then◌else◌, not, Bool, true, false, is_some, List, length, sum_by}
use Rattle.std.specs.List.{filter, list_any, range_with_len}
use Rattle.std.specs.Option.{option_map_or}
use Rattle.pblk_model.specs.declared.shape.Shape.{Shape}
use Rattle.pblk_model.specs.Image.{Image}
use Rattle.pblk_model.specs.Records.{named}
use Rattle.pblk_model.specs.Shape.{units}
use Rattle.pblk_laws.specs.LineBlocks.{chunk_in}
use Rattle.pblk_world.specs.EngineLog.{AsFound, Freed, LineLife, Opened, life_of, stripes_of}
use Rattle.pblk_world.specs.Events.{EngineEvent, Begin, Take, Open, Place, Landed, Lost, Again, ResetDone, Free, Logged, Stripe}
use Rattle.pblk_world.specs.Lines.{are_empty, is_empty_state, is_free_line, is_given_up, known_image, line_data}
use Rattle.pblk_world.specs.Placing.{line_end}
use Rattle.pblk_world.specs.World.{Logs}

-- the event leaves them as they are: a line that is opened has the addresses that it had as a Free
-- one, and a line that is freed has none until it is reset
abbrev pub keeps_room : EngineEvent → Bool
keeps_room (Begin b) = false
keeps_room (Take entry mark) = true
keeps_room (Open line start) = true
keeps_room (Place stripe) = false
keeps_room (Landed unit event) = true
keeps_room (Lost unit event) = false
keeps_room (Again unit event) = true
keeps_room (ResetDone unit event) = false
keeps_room (Free line) = true

-- a block of the stripe bears an entry
abbrev pub has_entry : Shape → Stripe → Bool
has_entry s stripe = list_any (λ b. is_some (named s b.mark)) stripe.blocks

-- the data addresses of a line where it is Free
abbrev pub free_data : Image → Logs → ℕ → ℕ
free_data i logs line = if is_free_line i logs line then line_data (known_image i logs) line else 0

-- how many lines are Free
abbrev pub free_lines : Image → Logs → ℕ
free_lines i logs = length (filter (is_free_line i logs) (range_with_len 0 i.shape.chunks))

-- the event leaves the Free lines as they are
abbrev pub keeps_free : EngineEvent → Bool
keeps_free (Begin b) = false
keeps_free (Take entry mark) = true
keeps_free (Open line start) = false
keeps_free (Place stripe) = true
keeps_free (Landed unit event) = true
keeps_free (Lost unit event) = false
keeps_free (Again unit event) = true
keeps_free (ResetDone unit event) = false
keeps_free (Free line) = true

-- The line was freed or is a stray, and some chunk of it is still to be reset.
abbrev pub is_unreset : Image → Logs → ℕ → Bool
is_unreset i logs line = is_given_up (logs 0) line && not (are_empty (known_image i logs) line)

-- how many such lines there are
abbrev pub unreset_lines : Image → Logs → ℕ
unreset_lines i logs = length (filter (is_unreset i logs) (range_with_len 0 i.shape.chunks))

-- the chunk is neither Free nor Offline
abbrev pub is_used_at : Image → (line unit : ℕ) → Bool
is_used_at i line unit = option_map_or (λ c. not (is_empty_state c.state)) (chunk_in i line unit) false

-- how many chunks of a line are so, if it was freed or is a stray: they are to be reset
abbrev pub unreset_in : Image → Logs → ℕ → ℕ
unreset_in i logs line = if is_given_up (logs 0) line
    then length (filter (is_used_at (known_image i logs) line) (range_with_len 0 (units i.shape))) else 0

-- how many chunks of all lines are to be reset
abbrev pub unreset_chunks : Image → Logs → ℕ
unreset_chunks i logs = sum_by (unreset_in i logs) (range_with_len 0 i.shape.chunks)

-- the event leaves the lines that are to be reset, and their chunks, as they are
abbrev pub keeps_unreset : EngineEvent → Bool
keeps_unreset (Begin b) = false
keeps_unreset (Take entry mark) = true
keeps_unreset (Open line start) = true
keeps_unreset (Place stripe) = true
keeps_unreset (Landed unit event) = true
keeps_unreset (Lost unit event) = false
keeps_unreset (Again unit event) = true
keeps_unreset (ResetDone unit event) = false
keeps_unreset (Free line) = false

-- how many stripes an opened line has still to get, of its records and of entries, up to its end
abbrev pub stripes_left_in : Shape → List Logged → LineLife → ℕ
stripes_left_in s log AsFound = 0
stripes_left_in s log (Opened o) = line_end s o / s.ws_opt - length (stripes_of log o)
stripes_left_in s log (Freed was knows) = 0

-- those of all lines
abbrev pub stripes_left : Image → Logs → ℕ
stripes_left i logs = sum_by (λ line. stripes_left_in i.shape (logs 0) (life_of (logs 0) line)) (range_with_len 0 i.shape.chunks)
