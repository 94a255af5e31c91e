-- Start records: what one must say when a line is opened, and which is the newest that has landed.
use Rattle.std.specs.Prelude.{ℕ, ◌/◌, ◌==◌, ◌&&◌, if◌then◌else◌, nat_le, Bool, List, map, take, length, Option, Some, None}
use Rattle.std.specs.List.{filter, filter_map, find, list_all, last_or, range_with_len}
use Rattle.std.specs.Option.{option_map, option_map_or}
use Rattle.pblk_model.specs.declared.shape.Shape.{Shape}
use Rattle.pblk_model.specs.LineOrder.{start_len}
use Rattle.pblk_model.specs.Image.{Image}
use Rattle.pblk_model.specs.StartRecord.{StartRecord, Row, start_of}
use Rattle.pblk_model.specs.Contents.{head}
use Rattle.pblk_world.specs.Events.{Logged}
use Rattle.pblk_world.specs.World.{Logs}
use Rattle.pblk_world.specs.EngineLog.{Opening, LineLife, AsFound, Opened, Freed, life_of, is_as_found, openings, stripes_of, has_landed}
use Rattle.pblk_world.specs.Fronts.{first_position}
use Rattle.pblk_world.specs.Lines.{found_image}

-- the position below which the records of an older line count: by the head, the mount's first
-- position for a line of the head's mount, the bound of its row for one with a row, and 0 for any
-- other
abbrev pub row_bound : StartRecord → ℕ → ℕ → ℕ
row_bound h line seq = option_map_or (λ row. row.bound) (find (λ row. (row.line == line) && (row.seq == seq)) h.rows) 0

abbrev pub bound_by : Option StartRecord → ℕ → ℕ → ℕ → ℕ
bound_by None first line seq = 0
bound_by (Some h) first line seq = if nat_le h.first_seq seq then first else row_bound h line seq

abbrev pub older_bound : Image → Logs → ℕ → ℕ → ℕ
older_bound i logs line seq = bound_by (head (found_image i logs)) (first_position (logs 0)) line seq

abbrev pub found_row : Image → Logs → ℕ → Option StartRecord → Option Row
found_row i logs line None = None
found_row i logs line (Some start) = Some (record { line = line; seq = start.seq; bound = older_bound i logs line start.seq })

-- the row of a line of an older mount: none for one that was freed, and for one without a sequence
-- number
abbrev pub older_row : Image → Logs → ℕ → Option Row
older_row i logs line = if is_as_found (life_of (logs 0) line)
    then found_row i logs line (start_of (found_image i logs) line)
    else None

abbrev pub older_rows : Image → Logs → List Row
older_rows i logs = filter_map (older_row i logs) (range_with_len 0 i.shape.chunks)

-- how many stripes the start record of a line takes
abbrev pub start_stripes : Shape → ℕ
start_stripes s = start_len s / s.ws_opt

-- so many first stripes of an opening have been placed, and all of them have landed
abbrev pub have_landed : List Logged → Opening → ℕ → Bool
have_landed log o count = nat_le count (length (stripes_of log o)) && list_all (has_landed log) (take count (stripes_of log o))

abbrev pub has_landed_start : Shape → List Logged → Opening → Bool
has_landed_start s log o = have_landed log o (start_stripes s)

-- the newest start record that has landed: the image's head, until one of this mount has
abbrev pub newest_start : Image → Logs → Option StartRecord
newest_start i logs = last_or (head (found_image i logs))
    (map (λ o. o.start) (filter (has_landed_start i.shape (logs 0)) (openings (logs 0))))

-- the sequence number of a line that wasn't freed: the one that its opening named, or that the
-- mount found
abbrev pub seq_in : Image → Logs → LineLife → ℕ → Option ℕ
seq_in i logs AsFound line = option_map (λ start. start.seq) (start_of (found_image i logs) line)
seq_in i logs (Opened o) line = Some o.start.seq
seq_in i logs (Freed was knows) line = None

abbrev pub seq_of : Image → Logs → ℕ → Option ℕ
seq_of i logs line = seq_in i logs (life_of (logs 0) line) line
