-- What a sector's slot leads to: an entry in a core's window, or a block on the drive.
use Rattle.std.proofs.Common.{◌≡◌, ◌⊎◌, inl, inr, ℕ, ◌-◌, ◌<◌, ◌≤◌, Some, None, Option, List, length, refl, sym, ap, ◌∙◌, arith, if◌then◌else◌}
use Rattle.std.specs.Prelude.{slice_get}
use Rattle.std.specs.Option.{option_map}
use Rattle.std.proofs.lemmas.Bool.{cases_order}
use Rattle.std.proofs.lemmas.Option.{none-some, slice_get_within}
use Rattle.pblk_model.specs.Image.{Image}
use Rattle.pblk_model.proofs.Tests.{lt_true}
use Rattle.pblk_world.specs.LegalMounts.{IsLegalMount}
use Rattle.pblk_world.specs.World.{World, log_of}
use Rattle.l2p_map.specs.declared.slot.Slot.TheVariants.{Cached, Media}
use Rattle.write_window.specs.declared.held.Held.{Held}
use Rattle.write_window.specs.Window.{WindowView, IsHeld, sector_at}
use Rattle.core_laws.specs.SlotOf.{slot_of}
use Rattle.core_laws.proofs.Placing.{not_below}
use Rattle.step_laws.specs.SlotBlocks.{IsBlockOfSlot}
use Rattle.step_laws.proofs.LatestSectors.{cached_latest, media_latest, window_latest}
use Rattle.step_laws.proofs.SlotBlocks.{on_the_drive}
use Rattle.pblk_core.specs.Stands.{Stands}
use Rattle.pblk_core.specs.declared.target_core.Core.{Core}
use Rattle.pblk_engine.specs.Looks.{latest_by}

-- ---- the window

held_some : {X Y : Type 0} (f : X → Y) (o : Option X) (y : Y) → option_map f o ≡ Some y → (x : X) × (o ≡ Some x)
held_some f None y e = absurd (none-some y e)
held_some f (Some x) y e = (x, refl)

-- what has a sector in the window is held
held_at_sector : (win : WindowView) (q : ℕ) (sector : List ℕ) → sector_at win q ≡ Some sector → IsHeld win q
held_at_sector win q sector there = go (cases_order q win.freed)
  where
    above : win.freed ≤ q → IsHeld win q
    above low =
        let inner : option_map (λ (h : Held). h.entry.frame.bytes) (slice_get win.entries (q - win.freed)) ≡ Some sector =
        sym (ap (λ b. option_map (λ (h : Held). h.entry.frame.bytes) (if b then None else slice_get win.entries (q - win.freed))) (not_below win.freed q low))
        ∙ there in
        let at = held_some (λ (h : Held). h.entry.frame.bytes) (slice_get win.entries (q - win.freed)) sector inner in
        let inside : q - win.freed < length win.entries = slice_get_within win.entries (q - win.freed) at.0 at.1 in
        (low, omega arith)

    go : (q ≡ win.freed) ⊎ ((q < win.freed) ⊎ (win.freed < q)) → IsHeld win q
    go (inl same) = above (omega arith)
    go (inr (inl below)) =
        absurd (none-some sector (sym (ap (λ b. option_map (λ (h : Held). h.entry.frame.bytes) (if b then None else slice_get win.entries (q - win.freed)))
        (lt_true q win.freed below)) ∙ there))
    go (inr (inr over)) = above (omega arith)

module _ (i : Image) (w : World) (c : Core) (lba : ℕ) (mount : IsLegalMount i w) (st : Stands i (log_of w) c) (inside : lba < i.shape.capacity) where
  -- a slot in the buffer has the sector's latest content
  pub cached_sector : (q : ℕ) → slot_of i (log_of w) lba ≡ Cached q → sector_at c.window q ≡ slice_get (latest_by i (log_of w)) lba
  cached_sector q slot = window_latest i w lba q c.window.freed c.window mount inside st.window st.from_first st.to_freed slot

  pub cached_is_held : (q : ℕ) → slot_of i (log_of w) lba ≡ Cached q → IsHeld c.window q
  cached_is_held q slot =
      let is = cached_latest i w lba q mount inside slot in
      held_at_sector c.window q is.0.entry.sector (cached_sector q slot ∙ is.5)

  -- so has one on the drive
  pub media_block : (line at q : ℕ) → slot_of i (log_of w) lba ≡ Media line at q
      → (is : IsBlockOfSlot i (log_of w) lba line at q) × (slice_get (latest_by i (log_of w)) lba ≡ Some is.block.sector)
  media_block line at q slot =
      let is = on_the_drive i w st.beginning lba line at q mount st.has_begun inside slot in
      (is, media_latest i w lba line at q mount inside is)
