-- Which line is collected: what is live in each, which lines may be collected, and which one is at
-- work.
use Rattle.std.specs.Prelude.{ℕ, zero, suc, ◌+◌, ◌==◌, ◌&&◌, ◌||◌, if◌then◌else◌, not, nat_lt, nat_le, Bool, true, false, List, [], take, map, length, Option, Some, None}
use Rattle.std.specs.List.{fold, filter, filter_map, find, flat_map, list_all, last_or, range_with_len}
use Rattle.std.specs.Option.{option_map, option_map_or, option_and_then, is_none, is_some}
use Rattle.pblk_model.specs.declared.shape.Shape.{Shape}
use Rattle.pblk_model.specs.Chunk.{Block}
use Rattle.pblk_model.specs.Image.{Image}
use Rattle.pblk_model.specs.StartRecord.{StartRecord, start_of}
use Rattle.pblk_model.specs.EndRecord.{end_of}
use Rattle.pblk_model.specs.Records.{named}
use Rattle.pblk_model.specs.Contents.{counted, winner, is_of}
use Rattle.pblk_world.specs.Events.{Logged}
use Rattle.pblk_world.specs.World.{Logs}
use Rattle.pblk_world.specs.EngineLog.{LineLife, AsFound, Opened, Freed, life_of, is_as_found, is_life, Taken, takes, placements, has_landed, was_lost, has_failed, holds_position}
use Rattle.pblk_world.specs.Fronts.{last_take}
use Rattle.pblk_world.specs.Lines.{found_image, known_image, chunks_of, are_over, line_data}
use Rattle.pblk_world.specs.Starts.{newest_start, seq_of}
use Rattle.pblk_world.specs.Space.{is_due}

-- Live sectors. A sector is live in the line in which its latest entry is placed, or its winner was
-- found.

-- the stripe was placed in its line as that line now is
abbrev pub is_in_force : List Logged → LineLife → ℕ → Bool
is_in_force log AsFound line = false
is_in_force log (Opened o) line = is_life o.number (life_of log line)
is_in_force log (Freed was knows) line = false

-- the line of the stripe, not lost, that holds the position
abbrev pub line_of_position : Shape → List Logged → ℕ → Option ℕ
line_of_position s log position = option_map (λ p. p.stripe.line)
    (find (λ p. holds_position s position p && not (was_lost log p) && is_in_force log p.life p.stripe.line) (placements log))

abbrev pub line_of_winner : Image → Logs → ℕ → Option ℕ
line_of_winner i logs lba = option_and_then (λ r. if is_as_found (life_of (logs 0) r.line) then Some r.line else None)
    (winner (counted (found_image i logs)) lba)

-- the line of a sector whose latest entry is this one, or that has none
abbrev pub line_of : Image → Logs → ℕ → Option Taken → Option ℕ
line_of i logs lba None = line_of_winner i logs lba
line_of i logs lba (Some t) = line_of_position i.shape (logs 0) t.entry.position

abbrev pub is_live_in : Image → Logs → ℕ → ℕ → Bool
is_live_in i logs line lba = is_of line (line_of i logs lba (last_take (logs 0) lba))

abbrev pub live : Image → Logs → ℕ → ℕ
live i logs line = length (filter (is_live_in i logs line) (range_with_len 0 i.shape.capacity))

-- Takers. A position took a sector from the line in which the sector's latest entry before it has
-- landed, also where it took the sector before that landing. Where the stripe of that entry was
-- lost, it took nothing from its line.

abbrev pub take_before : List Logged → Taken → Option Taken
take_before log t = last_or None
    (filter (λ u. (u.mark.lba == t.mark.lba) && nat_lt u.entry.position t.entry.position) (takes log))

-- the line of the stripe, landed, that holds the position
abbrev pub landed_line : Shape → List Logged → ℕ → Option ℕ
landed_line s log position = option_map (λ p. p.stripe.line)
    (find (λ p. holds_position s position p && has_landed log p && is_in_force log p.life p.stripe.line) (placements log))

-- the line in which this entry of a sector has landed, or its winner was found
abbrev pub landed_line_of : Image → Logs → ℕ → Option Taken → Option ℕ
landed_line_of i logs lba None = line_of_winner i logs lba
landed_line_of i logs lba (Some t) = landed_line i.shape (logs 0) t.entry.position

abbrev pub took_from : Image → Logs → ℕ → Taken → Bool
took_from i logs line t = nat_lt t.mark.lba i.shape.capacity && is_of line (landed_line_of i logs t.mark.lba (take_before (logs 0) t))

-- one past the greatest position that took a sector from the line, and 0 where none did
abbrev pub taken_up_to : Image → Logs → ℕ → ℕ
taken_up_to i logs line = option_map_or (λ t. t.entry.position + 1)
    (last_or None (filter (took_from i logs line) (takes (logs 0)))) 0

-- The lines that may be collected.

-- the position that a block bears
abbrev pub position_in : Shape → Block → Option ℕ
position_in s b = if is_some (named s b.mark) then Some b.mark.position else None

-- the positions that count in a line
abbrev pub positions_in : Image → Logs → LineLife → ℕ → List ℕ
positions_in i logs AsFound line = map (λ r. r.position) (filter (λ r. r.line == line) (counted (found_image i logs)))
positions_in i logs (Opened o) line = filter_map (position_in i.shape)
    (flat_map (λ c. c.blocks) (chunks_of (known_image i logs) line))
positions_in i logs (Freed was knows) line = []

-- a line is Failed where it was found without its end record, or a program in it failed
abbrev pub is_failed_in : Image → Logs → LineLife → ℕ → Bool
is_failed_in i logs AsFound line = option_map_or (λ start. is_none (end_of (found_image i logs) line start))
    (start_of (found_image i logs) line) false
is_failed_in i logs (Opened o) line = has_failed (logs 0) o
is_failed_in i logs (Freed was knows) line = false

abbrev pub is_failed : Image → Logs → ℕ → Bool
is_failed i logs line = is_failed_in i logs (life_of (logs 0) line) line

-- what the choice looks at
pub record Candidate : Type 0 where
  pub line : ℕ
  pub failed : Bool
  pub live : ℕ
  pub seq : ℕ

-- Nothing more is written to it before it is reset, it is older than the newest start record that
-- has landed, every position that counts in it is below that record's front, and its live sectors
-- are at most its data addresses less a stripe.
abbrev pub may_be_collected : Image → Logs → StartRecord → ℕ → ℕ → Bool
may_be_collected i logs newest line seq = are_over i logs line && nat_lt seq newest.seq
    && list_all (λ position. nat_lt position newest.front) (positions_in i logs (life_of (logs 0) line) line)
    && nat_le (live i logs line + i.shape.ws_opt) (line_data (known_image i logs) line)

abbrev pub candidate_of : Image → Logs → StartRecord → ℕ → ℕ → Option Candidate
candidate_of i logs newest line seq = if may_be_collected i logs newest line seq
    then Some (record { line = line; failed = is_failed i logs line; live = live i logs line; seq = seq })
    else None

abbrev pub candidate : Image → Logs → ℕ → Option Candidate
candidate i logs line = option_and_then (λ newest. option_and_then (candidate_of i logs newest line) (seq_of i logs line))
    (newest_start i logs)

-- a failed line before another, then the one of fewest live sectors, then the one of least sequence
-- number
abbrev pub is_failed_before : Bool → Bool → Bool → Bool
is_failed_before true false otherwise = true
is_failed_before false true otherwise = false
is_failed_before true true otherwise = otherwise
is_failed_before false false otherwise = otherwise

abbrev pub is_before : Candidate → Candidate → Bool
is_before a b = is_failed_before a.failed b.failed (nat_lt a.live b.live || ((a.live == b.live) && nat_lt a.seq b.seq))

abbrev pub better : Option Candidate → Candidate → Option Candidate
better None c = Some c
better (Some best) c = if is_before c best then Some c else Some best

abbrev pub next_victim : Image → Logs → Option ℕ
next_victim i logs = option_map (λ c. c.line) (fold better None (filter_map (candidate i logs) (range_with_len 0 i.shape.chunks)))

-- The victim at work. A line comes to work at the first event of the engine after which collection
-- is due, no victim is at work and it is the next; it stays until it is freed.

-- the logs when the engine's had this length
abbrev pub engine_prefix : ℕ → Logs → Logs
engine_prefix n logs zero = take n (logs zero)
engine_prefix n logs (suc unit) = logs (suc unit)

abbrev pub is_freed : LineLife → Bool
is_freed AsFound = false
is_freed (Opened o) = false
is_freed (Freed was knows) = true

abbrev pub comes_to_work : Image → Logs → Option ℕ
comes_to_work i logs = if is_due i logs then next_victim i logs else None

abbrev pub stays_at_work : Image → Logs → Option ℕ → Option ℕ
stays_at_work i logs None = comes_to_work i logs
stays_at_work i logs (Some line) = if is_freed (life_of (logs 0) line) then comes_to_work i logs else Some line

unfoldable pub victim : Image → Logs → ℕ → Option ℕ
victim i logs zero = None
victim i logs (suc n) = stays_at_work i (engine_prefix (suc n) logs) (victim i logs n)
