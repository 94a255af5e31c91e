-- The block of a sector whose slot is on the drive.
use Rattle.std.proofs.Common.{◌≡◌, ℕ, ◌<◌, Some, None, Option, refl}
use Rattle.pblk_model.specs.Contents.{counted, winner}
use Rattle.pblk_model.specs.Image.{Image}
use Rattle.pblk_world.specs.World.{World, log_of}
use Rattle.pblk_world.specs.EngineLog.{Begun, begun, Taken}
use Rattle.pblk_world.specs.Fronts.{last_take}
use Rattle.pblk_world.specs.Lines.{found_image}
use Rattle.l2p_map.specs.declared.slot.Slot.TheVariants.{Media}
use Rattle.pblk_world.specs.LegalMounts.{IsLegalMount}
use Rattle.core_laws.specs.SlotOf.{slot_by, slot_of}
use Rattle.step_laws.specs.SlotBlocks.{IsBlockOfSlot}
use Rattle.step_laws.proofs.EntryBlocks.{block_of_entry}
use Rattle.core_laws.proofs.ReadBlocks.{entry_on_drive, winner_on_drive}
use Rattle.step_laws.proofs.WinnerBlocks.{block_of_winner}

pub on_the_drive : (i : Image) (w : World) (b : Begun) (lba line at q : ℕ) → IsLegalMount i w → begun (log_of w 0) ≡ Some b → lba < i.shape.capacity
    → slot_of i (log_of w) lba ≡ Media line at q → IsBlockOfSlot i (log_of w) lba line at q
on_the_drive i w b lba line at q mount begin inside slot = go (last_take (log_of w 0) lba) refl slot
  where
    go : (t : Option Taken) → last_take (log_of w 0) lba ≡ t → slot_by i (log_of w) lba t ≡ Media line at q → IsBlockOfSlot i (log_of w) lba line at q
    go None last e =
        let found = winner_on_drive (winner (counted (found_image i (log_of w))) lba) line at q e in
        block_of_winner i w b lba line at q found.0 mount begin last found.1 found.2
    go (Some t) last e = block_of_entry i w lba line at q t mount inside last (entry_on_drive i (log_of w) t line at q e)
