-- What the entries of a stripe change in the row of its line, once it is placed and once it has
-- landed. Void ones change nothing.
use Rattle.std.specs.Prelude.{ℕ, ◌+◌, ◌≡◌, ◌==◌, ◌&&◌, if◌then◌else◌, nat_lt, true, List, Option, Some, None}
use Rattle.std.specs.List.{AllByRecursion, find, fold}
use Rattle.std.specs.Option.{option_map, is_some}
use Rattle.pblk_model.specs.declared.shape.Shape.{Shape}
use Rattle.pblk_model.specs.Records.{named}
use Rattle.pblk_world.specs.Events.{Logged}
use Rattle.pblk_world.specs.EngineLog.{Taken, takes}
use Rattle.line_table.specs.declared.row.Row.{Row}
use Rattle.line_table.specs.Rows.{Table, lowered}
use Rattle.core_laws.specs.ChangedTables.{with_row, note_by}

-- the first entry of the same sector that was taken after an entry
abbrev pub next_take : List Logged → Taken → Option Taken
next_take log t = find (λ u. (u.mark.lba == t.mark.lba) && nat_lt t.entry.position u.entry.position) (takes log)

-- one live sector more
abbrev pub gained : Row → Row
gained row = record row { live = row.live + 1 }

-- An entry of a sector brings its line a live one, unless a later entry of the sector was taken
-- before.
abbrev pub place_by : Option ℕ → ℕ → Table → Table
place_by None line t = with_row line gained t
place_by (Some later) line t = t

-- the position of the entry that took the sector next
abbrev pub taker_of : List Logged → Taken → Option ℕ
taker_of log t = option_map (λ (u : Taken). u.entry.position) (next_take log t)

abbrev pub place_entry : List Logged → ℕ → Table → Taken → Table
place_entry log line table t = if nat_lt t.mark.lba table.shape.capacity then place_by (taker_of log t) line table else table

-- An entry of a sector in a stripe that has landed: what took the sector took it from the line.
abbrev pub note_entry : List Logged → ℕ → Table → Taken → Table
note_entry log line table t = if nat_lt t.mark.lba table.shape.capacity then note_by (taker_of log t) line table else table

-- An entry whose stripe was lost is in no line. Where none was taken after it, its line has one live
-- sector less.
abbrev pub lower_by : Option ℕ → ℕ → Table → Table
lower_by None line t = with_row line lowered t
lower_by (Some later) line t = t

abbrev pub lower_entry : List Logged → ℕ → Table → Taken → Table
lower_entry log line table t = if nat_lt t.mark.lba table.shape.capacity then lower_by (taker_of log t) line table else table

-- the entries one after another
abbrev pub place_entries : List Logged → ℕ → Table → List Taken → Table
place_entries log line table ts = fold (place_entry log line) table ts

abbrev pub note_entries : List Logged → ℕ → Table → List Taken → Table
note_entries log line table ts = fold (note_entry log line) table ts

abbrev pub lower_entries : List Logged → ℕ → Table → List Taken → Table
lower_entries log line table ts = fold (lower_entry log line) table ts

-- each entry that was taken is of a sector or Void
abbrev pub AreSectorsOrVoid : Shape → List Logged → Type 0
AreSectorsOrVoid s log = AllByRecursion (λ t. is_some (named s t.mark) ≡ true) (takes log)
