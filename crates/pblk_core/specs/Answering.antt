-- What an answer to a program makes of a core, whether its stripe has landed or is lost.
use Rattle.std.specs.Prelude.{ℕ, ◌+◌, ◌-◌, ◌^◌, ◌<◌, ◌≡◌, ◌≢◌, Bool, true, false, List, length, min, take, slice_get, slice_set, Some}
use Rattle.std.specs.FinMap as fin
use Rattle.line_table.specs.Rows.{Table}
use Rattle.stripe_placer.specs.declared.placement.Placement.{Placement}
use Rattle.stripe_placer.specs.Placing.{Program, program}
use Rattle.stripe_placer.specs.Placing.UnitRow.{UnderWay}
use Rattle.write_window.specs.Window.{WindowView}
use Rattle.core_laws.specs.ClosedLines.{top_of}
use Rattle.pblk_core.specs.LineNotes.{note_added, note_closed}
use Rattle.pblk_core.specs.LineRecords.{data_left}
use Rattle.pblk_core.specs.Readable.{all_moved, all_readable, reads_of}
use Rattle.pblk_core.specs.Resets.{ResetQueue, resets_left, used_in}
use Rattle.pblk_core.specs.Slots.{IsSlot, answered_slot}
use Rattle.pblk_core.specs.declared.answering.LineTold.{LineTold}
use Rattle.pblk_core.specs.Stands.{IsStanding}
use Rattle.pblk_core.specs.declared.hold.Holds.{Holds}
use Rattle.pblk_core.specs.declared.line_notes.LineNote.{LineNote}
use Rattle.pblk_core.specs.declared.line_notes.LineNotes.{LineNotes}
use Rattle.pblk_core.specs.declared.open_lines.OpenLine.{OpenLine}
use Rattle.pblk_core.specs.declared.open_lines.OpenLines.{OpenLines}
use Rattle.pblk_core.specs.declared.target_core.Core.{Core}

-- the placement is that of the program that is under way on the unit
pub record IsPlaceOn (c : Core) (unit : ℕ) (at : Placement) : Type 0 where
  pub its_unit : at.unit ≡ unit
  pub row : slice_get c.placer.units unit ≡ Some (UnderWay (program c.placer at))

-- It stands, but for its lines, its window, its entries and its notes: a part of the answer was made
-- there already.
pub record IsStandingBut (c : Core) : Type 0 where
  pub lines : Table
  pub window : WindowView
  pub holds : Holds
  pub notes : LineNotes
  pub standing : IsStanding (record c { lines = lines; window = window; holds = holds; notes = notes })

-- the line of this number stands at this place among the open ones
pub record IsLineOf (open_lines : OpenLines) (line k : ℕ) (slot : OpenLine) : Type 0 where
  pub inside : k < 2
  pub there : IsSlot open_lines k slot
  pub its_line : slot.records.line ≡ line
  -- where both places bear that number, it is the first one
  pub first : (other : OpenLine) → IsSlot open_lines 0 other → other.records.line ≡ line → k ≡ 0

-- one slot has so many stripes less left
pub record IsLessIn (old mid : OpenLines) (k : ℕ) (slot : OpenLine) (count : ℕ) : Type 0 where
  pub slots : mid.slots.items ≡ slice_set old.slots.items k (answered_slot count slot)
  pub same : mid.count ≡ old.count

-- one slot is given up
pub record IsRemoved (mid new : OpenLines) (k : ℕ) : Type 0 where
  pub count : new.count + 1 ≡ mid.count
  pub first : (slot : OpenLine) → k ≡ 0 → IsSlot mid 1 slot → IsSlot new 0 slot
  pub second : (slot : OpenLine) → k ≡ 1 → IsSlot mid 0 slot → IsSlot new 0 slot
  pub two : length new.slots.items ≡ 2
  pub same : (m : ℕ) (slot : OpenLine) → IsSlot new m slot → (j : ℕ) × IsSlot mid j slot

-- the row of a line, where no stripe of it is left
abbrev pub closed_when : Bool → LineNote → LineNote
closed_when true row = note_closed row
closed_when false row = row

-- What is kept of a line once so many of its stripes less are left, in the open lines and in the
-- chunks that are used. It had this slot, and `done` says whether none is left.
pub record IsLineAnswered (old mid new : OpenLines) (was is : ResetQueue) (online : List ℕ) (line k : ℕ) (slot : OpenLine) (stripes : ℕ) (done : Bool)
    : Type 0 where
  -- its slot has so many stripes less left, and is given up where it has none
  pub in_slot : IsLessIn old mid k slot stripes
  pub stay : done ≡ false → new ≡ mid
  pub gone : done ≡ true → IsRemoved mid new k
  pub last : slot.stripes_left - stripes ≡ 0 → done ≡ true
  pub none_left : done ≡ true → slot.stripes_left - stripes ≡ 0
  -- its chunks that are used are kept then
  pub resets : resets_left is ≡ resets_left was
  pub used_lines : length is.used ≡ length was.used
  pub used : done ≡ true → (units : ℕ) → slice_get online line ≡ Some units → used_in is line ≡ units
  pub used_others : (other : ℕ) → other ≢ line → used_in is other ≡ used_in was other

-- Of `old` programs under way one less is, and one more answer of a unit is counted.
pub record IsCounted (old new : ℕ) (was is : List ℕ) (unit : ℕ) : Type 0 where
  pub under_way : new ≡ old - 1
  pub answers : (n : ℕ) → slice_get was unit ≡ Some n → is ≡ slice_set was unit (min (n + 1) (2 ^ 64 - 1))

-- What no answer changes.
pub record IsKeptByAnswers (old new : Core) : Type 0 where
  pub layout : new.layout ≡ old.layout
  pub online : new.online ≡ old.online
  pub start : new.start ≡ old.start
  pub first : new.first ≡ old.first
  pub placed : new.placed ≡ old.placed
  pub users : new.users ≡ old.users
  pub collection : new.collection ≡ old.collection

-- What an answer makes of a core beside its lines, its placer and its entries: so many positions of
-- the stripe are written, and the blocks from one to before another can be read.
pub record IsAnsweredInto (old new : Core) (of : Program) (written from to stripes : ℕ) (told : LineTold) : Type 0 where
  -- the stripe's line among the open ones, and once it has so many stripes less left
  pub k : ℕ
  pub slot : OpenLine
  pub mid : OpenLines
  pub found : IsLineOf old.open of.line k slot
  pub line : IsLineAnswered old.open mid new.open old.resets new.resets old.online.items of.line k slot stripes told.is_done
  pub counts : IsCounted old.under_way new.under_way old.answers.items new.answers.items of.unit
  pub kept : IsKeptByAnswers old new
  -- the blocks that can be read
  pub map : new.map ≡ all_moved old.layout.capacity slot.records.line old.map (reads_of slot of.unit from to)
  pub capacity : fin.len new.map ≡ fin.len old.map
  pub window : new.window ≡ all_readable old.window (reads_of slot of.unit from to)
  -- what is noted of its line
  pub notes : (row : LineNote) → slice_get old.notes.rows.items of.line ≡ Some row
      → new.notes.rows.items ≡ slice_set old.notes.rows.items of.line (closed_when told.is_done (note_added (top_of (take written of.positions)) row))
  pub newest : new.notes.newest ≡ old.notes.newest
  -- what it tells of its line
  pub online : told.online ≡ slot.online
  pub data_left : told.data_left ≡ data_left slot.records
  -- what is left to those who know whether the stripe has landed
  pub lines : new.lines ≡ old.lines
  pub placer : new.placer ≡ old.placer
  pub holds : new.holds ≡ old.holds
  pub left : new.left ≡ old.left
