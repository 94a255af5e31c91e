-- The table's rows and the room, by what the engine knows of the logs.
use Rattle.std.proofs.Common.{◌*◌, ◌-◌, min, ◌≡◌, ℕ, ◌+◌, ◌/◌, ◌&&◌, not, nat_lt, Some, None, Option, List, refl, ap, ap₂, ◌∙◌, if◌then◌else◌}
use Rattle.std.specs.Prelude.{sum_by}
use Rattle.std.specs.List.{range_with_len}
use Rattle.std.specs.Option.{option_and_then, is_some}
use Rattle.pblk_model.specs.Image.{Image, width}
use Rattle.pblk_model.specs.Records.{Record}
use Rattle.pblk_model.specs.StartRecord.{start_of}
use Rattle.pblk_model.specs.Contents.{counted, winner}
use Rattle.pblk_world.specs.Events.{Logged}
use Rattle.pblk_world.specs.World.{Logs}
use Rattle.pblk_world.specs.EngineLog.{LineLife, AsFound, Opened, Freed, life_of, is_as_found, Taken, takes, has_failed}
use Rattle.pblk_world.specs.Lines.{known_image, are_empty, line_data, has_number, is_free_line}
use Rattle.pblk_world.specs.Starts.{have_landed}
use Rattle.pblk_world.specs.Placing.{line_end}
use Rattle.pblk_world.specs.Space.{full_data, unplaced_in, addresses, placed_front, ring_limit, position_limit, room}
use Rattle.pblk_world.specs.Victims.{line_of_position, line_of, landed_line, landed_line_of}
use Rattle.line_table.specs.declared.row.LineState.TheVariants as states
use Rattle.core_laws.specs.RowsOf.{rows_of}
use Rattle.core_laws.specs.KnownLogs.{AreKnown}
use Rattle.core_laws.proofs.KeptRows.{KeepsLines, row_kept, KeepsThen}
use Rattle.core_laws.proofs.RangeSums.{sum_same}
use Rattle.core_laws.proofs.ChangedTables.{rows_stay}

-- ---- rows

line_known : (i : Image) (logs more : Logs) → AreKnown i logs more → (lba : ℕ) (t : Option Taken) → line_of i more lba t ≡ line_of i logs lba t
line_known i logs more is lba None =
    ap₂ (λ (xs : List Logged) (f : Image). option_and_then (λ (r : Record). if is_as_found (life_of xs r.line) then Some r.line else None)
    (winner (counted f) lba)) is.own is.found
line_known i logs more is lba (Some t) = ap (λ (xs : List Logged). line_of_position i.shape xs t.entry.position) is.own

landed_known : (i : Image) (logs more : Logs) → AreKnown i logs more → (lba : ℕ) (t : Option Taken) → landed_line_of i more lba t ≡ landed_line_of i logs lba t
landed_known i logs more is lba None = line_known i logs more is lba None
landed_known i logs more is lba (Some t) = ap (λ (xs : List Logged). landed_line i.shape xs t.entry.position) is.own

pub lines_known : (i : Image) (logs more : Logs) → AreKnown i logs more → KeepsLines i logs more
lines_known i logs more is = record {
  takes = ap takes is.own;
  line_of = λ lba t. line_known i logs more is lba t;
  landed = λ lba t. landed_known i logs more is lba t;
}

pub rows_known : (i : Image) (logs more : Logs) → AreKnown i logs more → ((line : ℕ) → KeepsThen i logs more line (life_of (logs 0) line))
    → rows_of i more ≡ rows_of i logs
rows_known i logs more is then_ = rows_stay i logs more (λ m.
    row_kept i logs more m (ap (λ (xs : List Logged). life_of xs m) is.own) (then_ m)
    (record { found = is.found; empty = ap (λ (j : Image). are_empty j m) is.image; wide = ap (λ (j : Image). width j m) is.image })
    (lines_known i logs more is)
    (λ o e. ap (λ (xs : List Logged). if has_failed xs o then states.Failed else if have_landed xs o
    (line_end i.shape o / i.shape.ws_opt) then states.Full else states.Open) is.own))

-- ---- lines

number_known : (i : Image) (logs more : Logs) → AreKnown i logs more → (life : LineLife) (line : ℕ) → has_number i more life line ≡ has_number i logs life line
number_known i logs more is AsFound line = ap (λ (f : Image). is_some (start_of f line)) is.found
number_known i logs more is (Opened o) line = refl
number_known i logs more is (Freed past knows) line = refl

free_known : (i : Image) (logs more : Logs) → AreKnown i logs more → (line : ℕ) → is_free_line i more line ≡ is_free_line i logs line
free_known i logs more is line =
    ap₂ (λ (xs : List Logged) (j : Image). not (has_number i more (life_of xs line) line) && are_empty j line && nat_lt 0 (line_data j line)) is.own is.image
    ∙ ap (λ b. not b && are_empty (known_image i logs) line && nat_lt 0 (line_data (known_image i logs) line))
    (number_known i logs more is (life_of (logs 0) line) line)

-- ---- space

pub free_len_known : (i : Image) (logs more : Logs) → AreKnown i logs more → (line : ℕ)
    → (if is_free_line i more line then line_data (known_image i more) line else 0) ≡
    (if is_free_line i logs line then line_data (known_image i logs) line else 0)
free_len_known i logs more is line = ap₂ (λ b (j : Image). if b then line_data j line else 0) (free_known i logs more is line) is.image

addresses_known : (i : Image) (logs more : Logs) → AreKnown i logs more → addresses i more ≡ addresses i logs
addresses_known i logs more is = ap₂ (λ m n. m + n)
    (ap (λ (xs : List Logged). sum_by (λ line. unplaced_in i.shape xs (life_of xs line)) (range_with_len 0 i.shape.chunks)) is.own)
    (sum_same (λ line. if is_free_line i more line then line_data (known_image i more) line else 0)
    (λ line. if is_free_line i logs line then line_data (known_image i logs) line else 0)
    (free_len_known i logs more is) (range_with_len 0 i.shape.chunks))

pub room_known : (i : Image) (logs more : Logs) → AreKnown i logs more → room i more ≡ room i logs
room_known i logs more is =
    ap₂ (λ (xs : List Logged) n. min (min (ring_limit i.shape xs) (placed_front i.shape xs + (n - 2 * full_data i.shape) / i.shape.ws_opt)) (position_limit xs))
    is.own (addresses_known i logs more is)
