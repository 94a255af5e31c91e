-- What the tables of a target hold when it opens, by what recovery found.
use Rattle.std.specs.Prelude.{ℕ, ◌≡◌, ◌==◌, if◌then◌else◌, List, length, slice_get, Option, Some, None}
use Rattle.std.specs.List.{find, filter_map, enumerate_from}
use Rattle.std.specs.Option.{option_map, option_map_or}
use Rattle.pblk_model.specs.declared.shape.Shape.{Shape}
use Rattle.pblk_model.specs.declared.found.Found.{Found}
use Rattle.pblk_model.specs.declared.found.LineRow.{LineRow}
use Rattle.pblk_model.specs.declared.found.Winner.{Winner}
use Rattle.pblk_model.specs.StartRecord.{Row}
use Rattle.l2p_map.specs.declared.slot.Slot.{Slot}
use Rattle.l2p_map.specs.declared.slot.Slot.TheVariants.{Unwritten, Media}
use Rattle.line_table.specs.Opening.{width_of, live_count, opening_state}
use Rattle.line_table.specs.Rows.{Table, EachRow}

-- The map: a sector is where its winner is.
abbrev pub place_of_winner : Winner → Slot
place_of_winner w = Media w.line w.at w.position

abbrev pub slot_found : List Winner → ℕ → Slot
slot_found winners lba = option_map_or place_of_winner (find (λ w. w.lba == lba) winners) Unwritten

-- The lines: a table that was made of what was found.
pub record IsOpeningTable (s : Shape) (f : Found) (t : Table) : Type 0 where
  pub shape : t.shape ≡ s
  pub lines : length t.rows ≡ s.chunks
  pub state : EachRow t (λ line row. (l : LineRow) → slice_get f.lines line ≡ Some l
      → row.state ≡ opening_state s f line l)
  pub width : EachRow t (λ line row. row.width ≡ width_of s f line)
  pub live : EachRow t (λ line row. row.live ≡ live_count f.winners line)
  pub taker : EachRow t (λ line row. row.taker ≡ None)

-- The next start record: a row for each line with a sequence number. The records of one of the
-- head's mount count below the end, those of another below its bound.
abbrev pub row_found : ℕ → ℕ → LineRow → Option Row
row_found end line l = option_map (λ seq. record {
  line = line;
  seq = seq;
  bound = if l.young then end else l.bound;
}) l.seq

abbrev pub rows_found : Found → List Row
rows_found f = filter_map (λ l. row_found f.end l.0 l.1) (enumerate_from 0 f.lines)
