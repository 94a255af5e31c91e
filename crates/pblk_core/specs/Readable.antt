-- Blocks of a chunk that can be read from now on: what they change in the window and the map.
use Rattle.std.specs.Prelude.{ℕ, ◌-◌, ◌==◌, ◌&&◌, if◌then◌else◌, nat_lt, nat_le, Bool, false, List, slice_get, position, Option, Some, None}
use Rattle.std.specs.List.{fold, filter_map, range_with_len}
use Rattle.std.specs.Option.{option_and_then}
use Rattle.std.specs.Ordering.{nat_cmp}
use Rattle.std.specs.FinMap.{FinMap}
use Rattle.std.specs.FinMap as fin
use Rattle.pblk_model.specs.declared.chunk.Mark.{Mark}
use Rattle.pblk_model.specs.LineOrder.{start_len, line_order}
use Rattle.pblk_layout.specs.Online.{units_in}
use Rattle.pblk_model.specs.Marks.{pad_lba}
use Rattle.l2p_map.specs.declared.slot.Slot.{Slot}
use Rattle.l2p_map.specs.declared.slot.Slot.TheVariants.{Unwritten, Cached, Media}
use Rattle.write_window.specs.Window.{WindowView, turned}
use Rattle.write_window.specs.declared.held.Progress.TheVariants.{Readable}
use Rattle.pblk_core.specs.LineRecords.{RecordsView}
use Rattle.pblk_core.specs.declared.open_lines.OpenLine.{OpenLine}

-- the mark of a line address, where it is one of the data so far
abbrev pub data_mark : RecordsView → ℕ → Option Mark
data_mark r at = if nat_le (start_len r.shape) at then slice_get r.marks (at - start_len r.shape) else None

-- where a block stands in a line's order
abbrev pub is_place : ℕ × ℕ → ℕ × ℕ → Bool
is_place a b = (a.0 == b.0) && (a.1 == b.1)

abbrev pub position_of : ℕ × ℕ → List (ℕ × ℕ) → Option ℕ
position_of place order = position (is_place place) order

-- a line address whose block can be read now, with its mark
pub record ReadBlock : Type 0 where
  pub at : ℕ
  pub mark : Mark

-- not one that fills up a stripe
abbrev pub read_at : RecordsView → ℕ → Option ReadBlock
read_at r at = option_and_then (λ (m : Mark). if m.lba == pad_lba then None else Some (record { at = at; mark = m })) (data_mark r at)

-- the slot of a sector that is in the buffer with this entry
abbrev pub is_cached : Option Slot → ℕ → Bool
is_cached None position = false
is_cached (Some Unwritten) position = false
is_cached (Some (Cached q)) position = q == position
is_cached (Some (Media line at q)) position = false

abbrev pub moved : ℕ → ℕ → FinMap nat_cmp Slot → ReadBlock → FinMap nat_cmp Slot
moved capacity line m b =
    if nat_lt b.mark.lba capacity && is_cached (fin.get m b.mark.lba) b.mark.position
    then fin.insert m b.mark.lba (Media line b.at b.mark.position)
    else m

abbrev pub all_moved : ℕ → ℕ → FinMap nat_cmp Slot → List ReadBlock → FinMap nat_cmp Slot
all_moved capacity line m blocks = fold (moved capacity line) m blocks

abbrev pub all_readable : WindowView → List ReadBlock → WindowView
all_readable w blocks = fold (λ v (b : ReadBlock). turned v b.mark.position Readable) w blocks

-- The blocks of a unit's chunk of an open line that can be read from now on, from one to before
-- another, with their addresses and marks.
abbrev pub block_reads : OpenLine → ℕ → ℕ → Option ReadBlock
block_reads l unit block = option_and_then (read_at l.records)
    (position_of (unit, block) (line_order l.records.shape (units_in l.online)))

abbrev pub reads_of : OpenLine → ℕ → ℕ → ℕ → List ReadBlock
reads_of l unit from to = filter_map (block_reads l unit) (range_with_len from (to - from))
