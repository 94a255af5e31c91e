-- The window and the map of a core once a program has landed, given what its records keep of the
-- blocks of its chunk.
use Rattle.std.proofs.Common.{◌≡◌, ℕ, ◌+◌, ◌<◌, ◌≤◌, ◌==◌, ◌&&◌, ◌||◌, true, false, Some, List, [], length, refl, sym, subst, ap, ap₂, ◌∙◌, arith}
use Rattle.std.specs.Prelude.{slice_get}
use Rattle.std.specs.List.{Contains, enumerate_from, list_any}
use Rattle.std.specs.FinMap as fin
use Rattle.pblk_model.specs.Image.{Image}
use Rattle.pblk_world.specs.Events.{Landed}
use Rattle.pblk_world.specs.World.{World, log_of}
use Rattle.pblk_world.specs.EngineLog.{bears_position, holds_position}
use Rattle.pblk_world.specs.Fronts.{has_landed_at}
use Rattle.stripe_placer.specs.Placing.{Program}
use Rattle.write_window.specs.Window as view
use Rattle.core_laws.specs.Stepping.{after}
use Rattle.pblk_world.specs.LegalMounts.{IsLegalMount}
use Rattle.core_laws.specs.SlotOf.{slot_of}
use Rattle.core_laws.specs.WindowOf.{sectors_in, window_from}
use Rattle.core_laws.specs.AdvancedEntries.{advanced_window}
use Rattle.core_laws.specs.ChunkBlocks.{newly_readable}
use Rattle.core_laws.proofs.HeldInWorlds.{newly_in_window, newly_has_landed}
use Rattle.core_laws.proofs.LandedStripe.{landed_at_now}
use Rattle.core_laws.proofs.NewWindow.{window_by_new, slot_by_new}
use Rattle.core_laws.proofs.WindowSteps.{reads_more}
use Rattle.core_laws.proofs.Placed.{stripe_holds}
use Rattle.pblk_core.specs.Landing.{all_landed}
use Rattle.pblk_core.specs.Readable.{ReadBlock, all_moved, all_readable, reads_of}
use Rattle.pblk_core.specs.Stands.{Stands}
use Rattle.pblk_core.specs.declared.target_core.Core.{Core}
use Rattle.pblk_core.specs.declared.open_lines.OpenLine.{OpenLine}
use Rattle.pblk_core.proofs.LandedCore.{block_within, entry_held, positions_are}
use Rattle.pblk_core.proofs.LandedEntries.{CanBeRead, same_advance, land_all, landed_in, landed_front}
use Rattle.core_laws.proofs.ChunksInRows.{rows_of_chunks}
use Rattle.pblk_core.proofs.ReadTables.{numbered_block, read_landed, window_in, window_by, slots_by, reads_by}
use Rattle.pblk_core.proofs.StandsFacts.{in_window}
use Rattle.pblk_core.proofs.LandedReads.{IsPart, new_part, IsChunkRead, IsRange}
use Rattle.pblk_core.proofs.LandedWay.{IsOnWay}
use Rattle.pblk_model.proofs.Maps.{any_member}
use Rattle.pblk_model.proofs.Tests.{same_number}

-- ---- its entries have landed

pub landed_window : (i : Image) (w : World) (c : Core) (unit : ℕ) (of : Program) → IsLegalMount i w → Stands i (log_of w) c → (is : IsOnWay i w unit of)
    → sectors_in (all_landed c.window of.positions) ≡ advanced_window (λ q. holds_position i.shape q is.row.stripe) (λ q. false)
    (window_from i.shape (log_of w 0) c.window.freed)
landed_window i w c unit of mount st is =
    land_all of.positions c.window (window_in i w c mount st) (λ k q at. (entry_held i w c unit of k q mount st is at).0)
    ∙ same_advance (λ q. list_any (λ m. m == q) of.positions) (λ q. holds_position i.shape q is.row.stripe) (λ q. false) (λ q. false) (sectors_in c.window)
    (λ q. ap (list_any (λ m. m == q)) (positions_are i w unit of is) ∙ sym (stripe_holds i.shape q is.row.stripe)) (λ q. refl)
    ∙ ap (advanced_window (λ q. holds_position i.shape q is.row.stripe) (λ q. false)) st.window

pub can_be_read : (i : Image) (w : World) (c : Core) (unit : ℕ) (of : Program) (low : ℕ) → IsLegalMount i w → Stands i (log_of w) c
    → (is : IsOnWay i w unit of)
    → CanBeRead i.shape (all_landed c.window of.positions) (enumerate_from low (newly_readable i.shape (log_of w 0) is.row.opening unit))
can_be_read i w c unit of low mount st is k n b at passes =
    let q : ℕ = b.mark.position in
    let there : slice_get (newly_readable i.shape (log_of w 0) is.row.opening unit) k ≡ Some b =
    numbered_block low (newly_readable i.shape (log_of w 0) is.row.opening unit) k n b at in
    let borne : list_any (bears_position i.shape b.mark.position) (newly_readable i.shape (log_of w 0) is.row.opening unit) ≡ true =
    any_member (bears_position i.shape b.mark.position) (newly_readable i.shape (log_of w 0) is.row.opening unit) k b there
    (ap₂ (λ x y. x && y) passes (same_number b.mark.position)) in
    let rows = rows_of_chunks i w is.row.opening unit mount in
    let inside = newly_in_window i w unit is.row.stripe is.row.opening b.mark.position mount is.row.waits is.row.life rows borne in
    let held : view.IsHeld c.window b.mark.position = in_window i w c b.mark.position st inside.0 inside.1 in
    let front = landed_front of.positions c.window in
    let lands : (has_landed_at i.shape (log_of w 0) b.mark.position || holds_position i.shape b.mark.position is.row.stripe) ≡ true =
    sym (landed_at_now i.shape (log_of w 0) unit 0 [] is.row.stripe b.mark.position is.row.waits)
    ∙ newly_has_landed i w unit 0 [] is.row.stripe is.row.opening b.mark.position mount is.row.waits is.row.life rows borne in (
      (
        subst (λ m. m ≤ b.mark.position) (sym front.0) held.0,
        (let one = front.0 in let two = front.1 in let high : b.mark.position < c.window.freed + length c.window.entries = held.1 in omega arith),
      ),
      read_landed i w c (all_landed c.window of.positions) (λ q. holds_position i.shape q is.row.stripe) b.mark.position mount st
          (landed_window i w c unit of mount st is) held lands,
    )

-- ---- the tables

-- the blocks that can be read now
its_part : (i : Image) (w : World) (unit : ℕ) (of : Program) (low high : ℕ) → IsLegalMount i w → (is : IsOnWay i w unit of) → IsRange i.shape of.block low high
    → IsPart i w unit is.row.opening low high (newly_readable i.shape (log_of w 0) is.row.opening unit)
its_part i w unit of low high mount is range = new_part i w unit of low high mount is (block_within i w unit of mount is) range

pub window_now : (i : Image) (w : World) (c : Core) (unit event : ℕ) (knows : List ℕ) (of : Program) (slot : OpenLine) (low high : ℕ) → IsLegalMount i w
    → Stands i (log_of w) c → (is : IsOnWay i w unit of) → IsRange i.shape of.block low high → IsChunkRead i w unit is.row.opening slot
    → sectors_in (all_readable (all_landed c.window of.positions) (reads_of slot unit low high)) ≡ window_from i.shape
    (after (log_of w) (Landed unit event) knows 0) c.window.freed
window_now i w c unit event knows of slot low high mount st is range chunk =
    window_by i w unit is.row.opening slot low high (newly_readable i.shape (log_of w 0) is.row.opening unit) (all_landed c.window of.positions)
    (landed_in of.positions c.window (window_in i w c mount st)) (can_be_read i w c unit of low mount st is)
    (its_part i w unit of low high mount is range) chunk
    ∙ ap (advanced_window (λ q. false) (λ q. list_any (bears_position i.shape q) (newly_readable i.shape (log_of w 0) is.row.opening unit)))
    (landed_window i w c unit of mount st is)
    ∙ reads_more (λ q. holds_position i.shape q is.row.stripe) (λ q. false)
    (λ q. list_any (bears_position i.shape q) (newly_readable i.shape (log_of w 0) is.row.opening unit)) (window_from i.shape (log_of w 0) c.window.freed)
    ∙ sym (window_by_new i w unit event knows is.row.stripe is.row.opening c.window.freed mount is.row.waits is.row.life
    (rows_of_chunks i w is.row.opening unit mount))

pub slots_now : (i : Image) (w : World) (c : Core) (unit event : ℕ) (knows : List ℕ) (of : Program) (slot : OpenLine) (low high lba : ℕ) → IsLegalMount i w
    → Stands i (log_of w) c → (is : IsOnWay i w unit of) → IsRange i.shape of.block low high
    → IsChunkRead i w unit is.row.opening slot → slot.records.line ≡ is.row.opening.line → lba < i.shape.capacity
    → fin.get (all_moved c.layout.capacity slot.records.line c.map (reads_of slot unit low high)) lba ≡ Some
    (slot_of i (after (log_of w) (Landed unit event) knows) lba)
slots_now i w c unit event knows of slot low high lba mount st is range chunk own below =
    slots_by i w c unit is.row.opening slot low high lba (newly_readable i.shape (log_of w 0) is.row.opening unit)
    (slot_of i (after (log_of w) (Landed unit event) knows) lba) mount st (its_part i w unit of low high mount is range) chunk own below
    (slot_by_new i w unit event knows is.row.stripe is.row.opening lba mount is.row.waits is.row.life (rows_of_chunks i w is.row.opening unit mount))

pub reads_held : (i : Image) (w : World) (c : Core) (unit : ℕ) (of : Program) (slot : OpenLine) (low high : ℕ) → IsLegalMount i w → Stands i (log_of w) c
    → (is : IsOnWay i w unit of) → IsRange i.shape of.block low high → IsChunkRead i w unit is.row.opening slot
    → (r : ReadBlock) → Contains (reads_of slot unit low high) r
    → view.IsHeld (all_landed c.window of.positions) r.mark.position × (view.has_landed_at (all_landed c.window of.positions) r.mark.position ≡ true)
reads_held i w c unit of slot low high mount st is range chunk =
    reads_by i w unit is.row.opening slot low high (newly_readable i.shape (log_of w 0) is.row.opening unit) (all_landed c.window of.positions)
    (can_be_read i w c unit of low mount st is) (its_part i w unit of low high mount is range) chunk
