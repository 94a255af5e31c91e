-- Where a sector is on the drive, and what it holds, by logs and by later ones.
use Rattle.std.proofs.Common.{◌≡◌, ℕ, ◌*◌, ◌%◌, ◌<◌, Some, List, length, sym, refl, replicate, subst, ap₂, ◌∙◌, arith}
use Rattle.std.specs.Prelude.{slice_get}
use Rattle.std.proofs.lemmas.Option.{slice_get_within}
use Rattle.pblk_model.specs.declared.shape.Shape.{Shape}
use Rattle.pblk_model.specs.Accepted.{IsAccepted}
use Rattle.pblk_model.specs.Bytes.{zeros}
use Rattle.pblk_model.specs.Image.{Image}
use Rattle.pblk_model.specs.Shape.{units}
use Rattle.pblk_model.specs.LineOrder.{line_order, column_of, block_of}
use Rattle.pblk_model.proofs.LineOrder.{block_below}
use Rattle.pblk_model.proofs.Numbers.{some_units}
use Rattle.pblk_model.proofs.Options.{map_some}
use Rattle.pblk_model.proofs.OrderedBlocks.{order_block, order_length}
use Rattle.pblk_layout.specs.Online.{units_in}
use Rattle.pblk_world.specs.World.{Logs}
use Rattle.l2p_map.specs.declared.slot.Slot.TheVariants.{Media}
use Rattle.core_laws.specs.OpenedLines.{online_now}
use Rattle.core_laws.specs.SlotOf.{slot_of}
use Rattle.step_laws.specs.SlotBlocks.{IsBlockOfSlot}
use Rattle.pblk_engine.specs.Reads.{IsPlaceOf}
use Rattle.pblk_engine.specs.declared.sector_looks.SectorPlace.{SectorPlace}

-- a block in a line's order is one of its chunk
pub place_low : (s : Shape) (us : List ℕ) (a : ℕ) (p : ℕ × ℕ) → 0 < s.ws_opt → s.clba % s.ws_opt ≡ 0 → slice_get (line_order s us) a ≡ Some p → p.1 < s.clba
place_low s us a p some whole there =
    let inside : a < length us * s.clba = omega (arith, slice_get_within (line_order s us) a p there, order_length s us some whole) in
    let named = map_some (λ unit. (unit, block_of s (length us) a)) (slice_get us (column_of s (length us) a)) p
    (sym (order_block s us a some whole inside) ∙ there) in
    subst (λ (q : ℕ × ℕ). q.1 < s.clba) named.2 (block_below s.ws_opt (length us) s.clba a some whole (some_units (length us) s.clba a inside) inside)

-- a slot on the drive, with what the core says of its place
pub place_is : (i : Image) (logs : Logs) (lba line at position unit number : ℕ) → lba < i.shape.capacity
    → slot_of i logs lba ≡ Media line at position → (is : IsBlockOfSlot i logs lba line at position) → (is.unit ≡ unit) × (is.number ≡ number)
    → IsPlaceOf i logs lba (record { unit = unit; sought = record { line = line; block = number; lba = lba; position = position } })
place_is i logs lba line at position unit number inside slot is its = record {
  of = refl;
  at = at;
  look = record {
    slot = slot;
    place = is.place ∙ ap₂ (λ u b. Some (u, b)) its.0 its.1;
  };
  inside = inside;
  unit = subst (λ u. u < units i.shape) its.0 is.of_drive;
  line = is.in_range;
}

-- a look leads to a block of its chunk
pub block_low : (i : Image) (logs : Logs) (lba : ℕ) (p : SectorPlace) → IsAccepted i.shape → IsPlaceOf i logs lba p → p.sought.block < i.shape.clba
block_low i logs lba p accepted is =
    place_low i.shape (units_in (online_now i logs p.sought.line)) is.at (p.unit, p.sought.block) accepted.drive.ws_opt accepted.drive.whole_stripes
    is.look.place

-- a sector that isn't written
pub zeros_are : (n : ℕ) → zeros n ≡ replicate n 0
unfolding zeros
zeros_are n = refl
