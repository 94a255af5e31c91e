-- What a core holds that was made of what recovery found.
use Rattle.std.specs.Prelude.{ℕ, ◌<◌, ◌≡◌, [], length, map, replicate, slice_get, false, Some, None}
use Rattle.std.specs.FinMap as fin
use Rattle.pblk_model.specs.declared.shape.Shape.{Shape}
use Rattle.pblk_model.specs.declared.found.Found.{Found}
use Rattle.pblk_model.specs.Shape.{units}
use Rattle.pblk_layout.specs.Online.{units_in}
use Rattle.pblk_meta.specs.Records.{row_numbers}
use Rattle.stripe_placer.specs.Placing.{nothing_placed}
use Rattle.world_laws.specs.MountBeginnings.{seq_after}
use Rattle.core_laws.specs.OnlineUnits.{all_online}
use Rattle.core_laws.specs.OpeningTables.{IsOpeningTable, slot_found}
use Rattle.pblk_core.specs.OlderLines.{older_found}
use Rattle.pblk_core.specs.LineNotes.{head_start, note_found}
use Rattle.pblk_core.specs.Resets.{resets_found, resets_left, used_below, used_in}
use Rattle.pblk_core.specs.declared.open_lines.OpenLine.{OpenLine}
use Rattle.pblk_core.specs.declared.target_core.Core.{Core}

pub record IsMadeOn (s : Shape) (f : Found) (c : Core) : Type 0 where
  pub layout : c.layout ≡ s
  -- sectors, lines and chunks as they were found
  pub capacity : fin.len c.map ≡ s.capacity
  pub slots : (lba : ℕ) → lba < s.capacity → fin.get c.map lba ≡ Some (slot_found f.winners lba)
  pub lines : IsOpeningTable s f c.lines
  pub online : c.online.items ≡ all_online s f s.chunks
  pub resets : resets_left c.resets ≡ resets_found s f.chunks f.strays
  pub used : (line : ℕ) → line < s.chunks → units_in (used_in c.resets line) ≡ used_below s f.chunks line (units s)
  pub notes : c.notes.rows.items ≡ map note_found f.lines
  pub newest : c.notes.newest ≡ head_start f.lines f.head f.front
  pub used_lines : length c.resets.used ≡ s.chunks
  -- positions from the end on, of which none was taken
  pub size : c.window.size ≡ s.ring
  pub freed : c.window.freed ≡ f.end
  pub entries : c.window.entries ≡ []
  pub no_users : c.window.users ≡ 0
  pub holds : length c.holds.rows.items ≡ s.ring
  pub first : c.first ≡ f.end
  pub placed : c.placed ≡ 0
  pub users : c.users ≡ 0
  -- no line is open
  pub placer : c.placer ≡ nothing_placed s
  pub two : length c.open.slots.items ≡ 2
  pub shapes : (k : ℕ) (line : OpenLine) → slice_get c.open.slots.items k ≡ Some line → line.records.shape ≡ s
  pub none_open : c.open.count ≡ 0
  pub left : c.left ≡ 0
  pub in_flight : c.under_way ≡ 0
  pub none_answered : c.answers.items ≡ replicate (units s) 0
  -- nothing is collected
  pub lines_held : length c.collection.lines ≡ s.chunks
  pub none_weighed : c.collection.barren ≡ false
  pub none_at_work : c.collection.victim ≡ None
  pub from_start : c.collection.cursor ≡ 0
  pub none_copied : c.collection.under_way ≡ false
  -- what the next start record says
  pub seq : c.start.seq ≡ seq_after f.lines f.head
  pub first_seq : c.start.first_seq ≡ seq_after f.lines f.head
  pub own_capacity : c.start.capacity ≡ s.capacity
  pub rows : map row_numbers c.start.rows ≡ older_found f.end f.lines
