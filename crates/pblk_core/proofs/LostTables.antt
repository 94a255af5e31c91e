-- The window and the map of a core once a program has failed. The chunk is closed then, so that the
-- blocks of it that had landed can all be read.
use Rattle.std.proofs.Common.{◌≡◌, ℕ, ◌<◌, ◌&&◌, true, false, Some, List, [], sym, ap, ap₂, ◌∙◌}
use Rattle.std.specs.List.{Contains, enumerate_from, list_any}
use Rattle.std.specs.FinMap as fin
use Rattle.pblk_model.specs.Image.{Image}
use Rattle.pblk_world.specs.Events.{Lost}
use Rattle.pblk_world.specs.World.{World, log_of}
use Rattle.pblk_world.specs.EngineLog.{bears_position}
use Rattle.pblk_world.specs.Fronts.{has_landed_at}
use Rattle.stripe_placer.specs.Placing.{Program}
use Rattle.write_window.specs.Window as view
use Rattle.pblk_world.specs.LegalMounts.{IsLegalMount}
use Rattle.core_laws.specs.Stepping.{after}
use Rattle.core_laws.specs.AdvancedEntries.{advanced_window}
use Rattle.core_laws.specs.ChunkBlocks.{unreadable_blocks}
use Rattle.core_laws.specs.SlotOf.{slot_of}
use Rattle.core_laws.specs.WindowOf.{sectors_in, window_from}
use Rattle.core_laws.proofs.LostBlocks.{window_lost, slot_lost, unreadable_in_window, unreadable_landed}
use Rattle.core_laws.proofs.WindowSteps.{no_more}
use Rattle.pblk_core.specs.Readable.{ReadBlock, all_moved, all_readable, reads_of}
use Rattle.pblk_core.specs.Stands.{Stands}
use Rattle.pblk_core.specs.declared.target_core.Core.{Core}
use Rattle.pblk_core.specs.declared.open_lines.OpenLine.{OpenLine}
use Rattle.pblk_core.proofs.LandedEntries.{CanBeRead}
use Rattle.pblk_core.proofs.LandedReads.{IsChunkRead, IsLostRange, unread_part}
use Rattle.pblk_core.proofs.LandedWay.{IsOnWay}
use Rattle.pblk_core.proofs.StandsFacts.{in_window}
use Rattle.pblk_core.proofs.ReadTables.{numbered_block, read_landed, window_in, window_by, slots_by, reads_by}
use Rattle.pblk_model.proofs.Maps.{any_member}
use Rattle.pblk_model.proofs.Tests.{or_left, same_number}

module _ (i : Image) (w : World) (c : Core) (unit : ℕ) (of : Program) (slot : OpenLine) (low high : ℕ) (mount : IsLegalMount i w)
    (st : Stands i (log_of w) c) (is : IsOnWay i w unit of) (range : IsLostRange i.shape of.block low high)
    (chunk : IsChunkRead i w unit is.row.opening slot) where
  -- the entries of these blocks are in the window, and have landed
  can_be_read : CanBeRead i.shape c.window (enumerate_from low (unreadable_blocks i.shape (log_of w 0) is.row.opening unit))
  can_be_read k n b at passes =
      let borne : list_any (bears_position i.shape b.mark.position) (unreadable_blocks i.shape (log_of w 0) is.row.opening unit) ≡ true =
      any_member (bears_position i.shape b.mark.position) (unreadable_blocks i.shape (log_of w 0) is.row.opening unit) k b
      (numbered_block low (unreadable_blocks i.shape (log_of w 0) is.row.opening unit) k n b at) (ap₂ (λ x y. x && y) passes (same_number b.mark.position)) in
      let inside = unreadable_in_window i w unit 0 [] is.row.stripe is.row.opening mount is.row.waits is.row.life b.mark.position borne in
      let held : view.IsHeld c.window b.mark.position = in_window i w c b.mark.position st inside.0 inside.1 in (
        held,
        read_landed i w c c.window (λ q. false) b.mark.position mount st
            (st.window ∙ sym (no_more (window_from i.shape (log_of w 0) c.window.freed))) held
            (or_left (has_landed_at i.shape (log_of w 0) b.mark.position) false
            (unreadable_landed i w unit 0 [] is.row.stripe is.row.opening mount is.row.waits is.row.life b.mark.position borne)),
      )

  pub lost_reads_held : (r : ReadBlock) → Contains (reads_of slot unit low high) r
      → view.IsHeld c.window r.mark.position × (view.has_landed_at c.window r.mark.position ≡ true)
  lost_reads_held = reads_by i w unit is.row.opening slot low high (unreadable_blocks i.shape (log_of w 0) is.row.opening unit) c.window can_be_read
      (unread_part i w unit of low high mount is range) chunk

  pub lost_window : (event : ℕ) (knows : List ℕ)
      → sectors_in (all_readable c.window (reads_of slot unit low high)) ≡ window_from i.shape (after (log_of w) (Lost unit event) knows 0) c.window.freed
  lost_window event knows =
      window_by i w unit is.row.opening slot low high (unreadable_blocks i.shape (log_of w 0) is.row.opening unit) c.window (window_in i w c mount st)
      can_be_read (unread_part i w unit of low high mount is range) chunk
      ∙ ap (advanced_window (λ q. false) (λ q. list_any (bears_position i.shape q) (unreadable_blocks i.shape (log_of w 0) is.row.opening unit))) st.window
      ∙ sym (window_lost i w unit event knows is.row.stripe is.row.opening mount is.row.waits is.row.life c.window.freed)

  pub lost_slots : (event : ℕ) (knows : List ℕ) (lba : ℕ) → slot.records.line ≡ is.row.opening.line → lba < i.shape.capacity
      → fin.get (all_moved c.layout.capacity slot.records.line c.map (reads_of slot unit low high)) lba
      ≡ Some (slot_of i (after (log_of w) (Lost unit event) knows) lba)
  lost_slots event knows lba own below =
      slots_by i w c unit is.row.opening slot low high lba (unreadable_blocks i.shape (log_of w 0) is.row.opening unit)
      (slot_of i (after (log_of w) (Lost unit event) knows) lba) mount st (unread_part i w unit of low high mount is range) chunk own below
      (slot_lost i w unit event knows is.row.stripe is.row.opening mount is.row.waits is.row.life lba)
