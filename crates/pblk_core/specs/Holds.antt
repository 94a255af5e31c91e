-- What the core keeps beside each entry of its window, by the logs.
use Rattle.std.specs.Prelude.{ℕ, ◌%◌, ◌==◌, if◌then◌else◌, Bool, true, false, List, length, slice_get, slice_set, Option, Some, None}
use Rattle.std.specs.Option.{option_map, option_map_or, option_and_then}
use Rattle.pblk_model.specs.declared.shape.Shape.{Shape}
use Rattle.pblk_model.specs.Marks.{void_lba}
use Rattle.pblk_world.specs.Events.{Logged}
use Rattle.pblk_world.specs.EngineLog.{Taken}
use Rattle.core_laws.specs.EntryHolds.{later_take, placed_line}
use Rattle.l2p_map.specs.declared.slot.Slot.{Slot}
use Rattle.l2p_map.specs.declared.slot.Slot.TheVariants.{Unwritten, Cached, Media}
use Rattle.write_window.specs.Window.{WindowView, has_landed_at}
use Rattle.pblk_core.specs.declared.hold.Hold.{Hold}

-- the position of the later entry that took an entry's sector, which a Void one hasn't
abbrev pub taker_in : Taken → Option Taken → Option ℕ
taker_in t later = if t.mark.lba == void_lba then None else option_map (λ (u : Taken). u.entry.position) later

abbrev pub hold_of : Shape → List Logged → Taken → Hold
hold_of s log t = record {
  mark = t.mark;
  line = placed_line s log t.entry.position;
  taker = taker_in t (later_take log t);
}

-- What is latest of a sector is taken from it by a later entry.

-- the row of an entry
abbrev pub row_at : List Hold → ℕ → Option Hold
row_at rows position = slice_get rows (position % length rows)

-- the line in which the sector is live
abbrev pub line_of_slot : List Hold → Slot → Option ℕ
line_of_slot rows Unwritten = None
line_of_slot rows (Media line at position) = Some line
line_of_slot rows (Cached position) = option_and_then (λ (h : Hold). h.line) (row_at rows position)

-- whether it has landed
abbrev pub has_landed_in : WindowView → Slot → Bool
has_landed_in w Unwritten = false
has_landed_in w (Media line at position) = true
has_landed_in w (Cached position) = has_landed_at w position

abbrev pub with_taker : ℕ → Hold → Hold
with_taker by h = record { mark = h.mark; line = h.line; taker = Some by }

-- the rows, of which that of the entry that was latest tells of its taker
abbrev pub rows_with_taker : Slot → ℕ → List Hold → List Hold
rows_with_taker Unwritten by rows = rows
rows_with_taker (Media line at position) by rows = rows
rows_with_taker (Cached position) by rows =
    option_map_or (λ h. slice_set rows (position % length rows) (with_taker by h)) (row_at rows position) rows
