-- A table of lines with one row changed.
use Rattle.std.specs.Prelude.{ℕ, Bool, true, false, slice_get, slice_set, Option, Some, None}
use Rattle.std.specs.Option.{option_map_or}
use Rattle.line_table.specs.declared.row.LineState.TheVariants.{Failed, Full}
use Rattle.line_table.specs.declared.row.Row.{Row}
use Rattle.line_table.specs.Rows.{Table, lost_to_taker, lowered, noted, turned}

-- the row of a line is changed, where there is one
abbrev pub with_row : ℕ → (Row → Row) → Table → Table
with_row line change t = record {
  shape = t.shape;
  rows = option_map_or (λ row. slice_set t.rows line (change row)) (slice_get t.rows line) t.rows;
}

-- a line that has landed whole turns to Full
abbrev pub full_if : Bool → Row → Row
full_if true row = turned Full row.width row
full_if false row = row

-- a line of which a stripe was lost turns to Failed
abbrev pub failed : Row → Row
failed row = turned Failed row.width row

-- The entry at a position takes over a sector from the line in which it was live, if it was in one:
-- the line has one live sector less. Where the sector has landed in it, something was taken from
-- the line.
abbrev pub lose_in : Option ℕ → Bool → ℕ → Table → Table
lose_in None landed by t = t
lose_in (Some line) true by t = with_row line (lost_to_taker by) t
lose_in (Some line) false by t = with_row line lowered t

-- An entry has landed in a line. A later entry of the sector, which was taken before, took it from
-- the line.
abbrev pub note_by : Option ℕ → ℕ → Table → Table
note_by None line t = t
note_by (Some by) line t = with_row line (noted by) t
