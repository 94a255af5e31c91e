-- Where a look says that a sector is on the drive, and a block that stands there later.
use Rattle.std.specs.Prelude.{ℕ, ◌≡◌, slice_get, Some}
use Rattle.pblk_model.specs.Chunk.{Block, Chunk}
use Rattle.pblk_model.specs.Image.{Image}
use Rattle.pblk_model.specs.LineOrder.{line_order}
use Rattle.pblk_model.specs.Records.{named}
use Rattle.pblk_layout.specs.Online.{units_in}
use Rattle.pblk_world.specs.World.{Logs, media}
use Rattle.pblk_laws.specs.LineBlocks.{chunk_in}
use Rattle.l2p_map.specs.declared.slot.Slot.TheVariants.{Media}
use Rattle.core_laws.specs.OpenedLines.{online_now}
use Rattle.core_laws.specs.SlotOf.{slot_of}

-- By these logs the sector's slot names an address of a line, and a position. The address is that
-- of a block of this number in the line's chunk on this unit.
pub record IsLookedUp (i : Image) (logs : Logs) (lba line at position unit number : ℕ) : Type 0 where
  pub slot : slot_of i logs lba ≡ Media line at position
  pub place : slice_get (line_order i.shape (units_in (online_now i logs line))) at ≡ Some (unit, number)

-- By these logs this block is written there, and its mark names the sector and bears the position.
-- What the mark names decides, and not how it is spelled.
pub record IsMarkedBlock (i : Image) (logs : Logs) (lba line position unit number : ℕ) (block : Block) : Type 0 where
  pub chunk : Chunk
  pub there : chunk_in (media i logs) line unit ≡ Some chunk
  pub written : slice_get chunk.blocks number ≡ Some block
  pub names : named i.shape block.mark ≡ Some (Some lba)
  pub bears : block.mark.position ≡ position
