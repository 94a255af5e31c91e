-- How much room there is, by the engine's log and the unit events that it names.
use Rattle.std.specs.Prelude.{ℕ, ◌+◌, ◌-◌, ◌*◌, ◌/◌, ◌^◌, ◌==◌, ◌&&◌, ◌||◌, if◌then◌else◌, nat_lt, nat_le, min, max, Bool, false, List, length}
use Rattle.std.specs.List.{filter, list_any, enumerate_from, range_with_len, sum_by}
use Rattle.pblk_model.specs.declared.shape.Shape.{Shape}
use Rattle.pblk_model.specs.Shape.{units}
use Rattle.pblk_model.specs.LineOrder.{start_len, data_len}
use Rattle.pblk_model.specs.Image.{Image}
use Rattle.pblk_model.specs.Contents.{least_missing}
use Rattle.pblk_world.specs.Events.{Logged}
use Rattle.pblk_world.specs.World.{Logs}
use Rattle.pblk_world.specs.EngineLog.{Opening, LineLife, AsFound, Opened, Freed, life_of, takes, Placed, placements, stripes_on, has_landed, was_lost, has_failed, bears_position}
use Rattle.pblk_world.specs.Fronts.{first_position, was_placed}
use Rattle.pblk_world.specs.Lines.{known_image, line_data, is_free_line}
use Rattle.pblk_world.specs.Placing.{next_address, end_address}

-- Addresses.

-- the data addresses of a line without Offline chunks
abbrev pub full_data : Shape → ℕ
full_data s = data_len s (units s)

-- those of all Free lines together
abbrev pub free_addresses : Image → Logs → ℕ
free_addresses i logs = sum_by (λ line. if is_free_line i logs line then line_data (known_image i logs) line else 0)
    (range_with_len 0 i.shape.chunks)

-- those of an opened line that have no entry yet: none in a Failed line
abbrev pub unplaced_in : Shape → List Logged → LineLife → ℕ
unplaced_in s log AsFound = 0
unplaced_in s log (Opened o) = if has_failed log o then 0 else end_address s o - max (start_len s) (next_address s log o)
unplaced_in s log (Freed was knows) = 0

abbrev pub open_addresses : Image → Logs → ℕ
open_addresses i logs = sum_by (λ line. unplaced_in i.shape (logs 0) (life_of (logs 0) line)) (range_with_len 0 i.shape.chunks)

abbrev pub addresses : Image → Logs → ℕ
addresses i logs = open_addresses i logs + free_addresses i logs

-- Collection is due while the Free lines have at most three full lines' data addresses.
abbrev pub is_due : Image → Logs → Bool
is_due i logs = nat_le (free_addresses i logs) (3 * full_data i.shape)

-- The front freed: the least position of which no block that has landed has become readable.

-- how many blocks of a unit's chunk have landed in an opening of its line
abbrev pub landed_blocks : Shape → List Logged → Opening → ℕ → ℕ
landed_blocks s log o unit = length (filter (has_landed log) (stripes_on log o unit)) * s.ws_opt

-- the chunk is Closed: it is full, or a program failed
abbrev pub is_closed_in : Shape → List Logged → Opening → ℕ → Bool
is_closed_in s log o unit = list_any (was_lost log) (stripes_on log o unit) || (landed_blocks s log o unit == s.clba)

-- a landed block of it can be read
abbrev pub is_readable_in : Shape → List Logged → ℕ → ℕ → LineLife → Bool
is_readable_in s log unit block AsFound = false
is_readable_in s log unit block (Opened o) = is_closed_in s log o unit
    || nat_lt (block + s.mw_cunits) (landed_blocks s log o unit)
is_readable_in s log unit block (Freed was knows) = false

-- the stripe has landed, and a block of it that bears the position has become readable
abbrev pub gives_back : Shape → List Logged → ℕ → Placed → Bool
gives_back s log position p = has_landed log p
    && list_any (λ b. bears_position s position b.1 && is_readable_in s log p.stripe.unit b.0 p.life)
    (enumerate_from p.stripe.at p.stripe.blocks)

abbrev pub freed : Shape → List Logged → ℕ
freed s log = least_missing (λ position. list_any (gives_back s log position) (placements log))
    (length (takes log)) (first_position log)

-- What may be granted to users.

-- the mount's first position and one more for each position that was placed at least once
abbrev pub placed_front : Shape → List Logged → ℕ
placed_front s log = first_position log + length (filter (was_placed s log) (takes log))

-- the room within the ring, less what is kept for copies
abbrev pub ring_limit : Shape → List Logged → ℕ
ring_limit s log = freed s log + s.ring - units s * s.ws_opt

-- the room on the drive, where two full lines are kept for collection
abbrev pub space_limit : Image → Logs → ℕ
space_limit i logs = placed_front i.shape (logs 0) + (addresses i logs - 2 * full_data i.shape) / i.shape.ws_opt

-- where all positions end
abbrev pub position_limit : List Logged → ℕ
position_limit log = max (2 ^ 61 - 2) (first_position log)

abbrev pub room : Image → Logs → ℕ
room i logs = min (min (ring_limit i.shape (logs 0)) (space_limit i logs)) (position_limit (logs 0))
