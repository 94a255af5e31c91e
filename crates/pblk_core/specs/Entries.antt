-- The entries of a stripe: their blocks, and what they change in the table of lines once the stripe
-- is placed, and once it has landed.
use Rattle.std.specs.Prelude.{ℕ, ◌%◌, ◌==◌, if◌then◌else◌, List, [], map, length, slice_set, Option, Some, None}
use Rattle.std.specs.List.{fold}
use Rattle.std.specs.Option.{option_map_or, unwrap_or}
use Rattle.pblk_model.specs.Chunk.{Block}
use Rattle.pblk_model.specs.Marks.{pad_mark, void_lba}
use Rattle.line_table.specs.Rows.{Table}
use Rattle.core_laws.specs.ChangedTables.{note_by}
use Rattle.core_laws.specs.PlacedEntries.{place_by}
use Rattle.write_window.specs.Window.{WindowView, sector_at}
use Rattle.pblk_core.specs.Holds.{row_at}
use Rattle.pblk_core.specs.declared.hold.Hold.{Hold}

-- the block of an entry: its sector in the window, with the mark that is kept of it
abbrev pub entry_block : WindowView → List Hold → ℕ → Block
entry_block w rows position = record {
  sector = unwrap_or (sector_at w position) [];
  mark = option_map_or (λ (h : Hold). h.mark) (row_at rows position) pad_mark;
}

abbrev pub entry_blocks : WindowView → List Hold → List ℕ → List Block
entry_blocks w rows positions = map (entry_block w rows) positions

-- An entry of a sector brings its line a live one, unless a later entry of the sector was taken. A
-- Void entry brings none.
abbrev pub place_hold : ℕ → Table → Option Hold → Table
place_hold line t None = t
place_hold line t (Some h) = if h.mark.lba == void_lba then t else place_by h.taker line t

abbrev pub placed_lines : List Hold → ℕ → Table → List ℕ → Table
placed_lines rows line t positions = fold (λ u position. place_hold line u (row_at rows position)) t positions

-- An entry has landed in a line: what took its sector before took it from the line.
abbrev pub note_hold : ℕ → Table → Option Hold → Table
note_hold line t None = t
note_hold line t (Some h) = note_by h.taker line t

abbrev pub noted_lines : List Hold → ℕ → Table → List ℕ → Table
noted_lines rows line t positions = fold (λ u position. note_hold line u (row_at rows position)) t positions

-- the rows tell the line of each
abbrev pub with_line : ℕ → Hold → Hold
with_line line h = record { mark = h.mark; line = Some line; taker = h.taker }

abbrev pub row_placed : ℕ → List Hold → ℕ → List Hold
row_placed line rows position =
    option_map_or (λ h. slice_set rows (position % length rows) (with_line line h)) (row_at rows position) rows

abbrev pub placed_rows : ℕ → List Hold → List ℕ → List Hold
placed_rows line rows positions = fold (row_placed line) rows positions
