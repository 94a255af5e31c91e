-- Which line a core may free, by its tables.
use Rattle.std.specs.Prelude.{ℕ, ◌<◌, ◌≡◌, ⊤, List, [], ◌∷◌, length, slice_get, Some}
use Rattle.std.specs.List.{AllByRecursion, filter}
use Rattle.pblk_model.specs.StartRecord.{Row as OlderRow}
use Rattle.line_table.specs.declared.row.Row.{Row}
use Rattle.line_table.specs.Rows.{IsRow}
use Rattle.write_window.specs.Window as view
use Rattle.pblk_core.specs.LineNotes.{IsSpentNote}
use Rattle.pblk_core.specs.declared.line_notes.LineNote.{LineNote}
use Rattle.pblk_core.specs.declared.target_core.Core.{Core}

-- by its notes and its table of lines
pub record IsSpentIn (c : Core) (line : ℕ) : Type 0 where
  pub note : LineNote
  pub is_note : slice_get c.notes.rows.items line ≡ Some note
  pub row : Row
  pub is_row : IsRow c.lines line row
  pub spent : IsSpentNote note c.notes.newest row.live row.taker (view.synced c.window).position

-- how many lines are closed
abbrev pub closed_count : Core → ℕ
closed_count c = length (filter (λ (row : LineNote). row.closed) c.notes.rows.items)

-- the lines of rows rise
abbrev pub HaveRisen : List OlderRow → Type 0
HaveRisen [] = ⊤
HaveRisen (row ∷ rows) = AllByRecursion (λ (other : OlderRow). row.line < other.line) rows × HaveRisen rows
