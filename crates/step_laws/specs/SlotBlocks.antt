-- The block to which a sector's slot leads on the drive, by its line and its address in the line.
use Rattle.std.specs.Prelude.{ℕ, ◌-◌, ◌*◌, ◌<◌, ◌≤◌, ◌≡◌, length, slice_get, Option, Some, None}
use Rattle.pblk_model.specs.Shape.{units}
use Rattle.pblk_model.specs.Chunk.{Chunk, Block, IsReadable}
use Rattle.pblk_model.specs.Contents.{counted, winner}
use Rattle.pblk_model.specs.LineOrder.{line_order}
use Rattle.pblk_model.specs.Marks.{sector_mark}
use Rattle.pblk_model.specs.Image.{Image}
use Rattle.pblk_model.specs.Records.{Record}
use Rattle.pblk_model.specs.Sealed.{IsSealed}
use Rattle.pblk_layout.specs.Online.{units_in}
use Rattle.pblk_world.specs.World.{Logs, media}
use Rattle.pblk_world.specs.EngineLog.{AsFound, Opening, Opened, life_of, Taken, takes}
use Rattle.pblk_world.specs.Fronts.{first_position, last_take}
use Rattle.pblk_world.specs.Lines.{found_image}
use Rattle.pblk_laws.specs.LineBlocks.{chunk_in}
use Rattle.core_laws.specs.OpenedLines.{online_now}

-- The block is that of an entry that this mount took, at this position. Its line was opened by this
-- mount.
pub record IsOfEntry (i : Image) (logs : Logs) (lba line position : ℕ) (block : Block) (t : Taken) : Type 0 where
  pub of_position : t.entry.position ≡ position
  pub from_first : first_position (logs 0) ≤ position
  pub taken : slice_get (takes (logs 0)) (position - first_position (logs 0)) ≡ Some t
  pub opening : Opening
  pub opened : life_of (logs 0) line ≡ Opened opening
  pub sector : block.sector ≡ t.entry.sector
  pub mark : block.mark ≡ sector_mark lba position

-- The block is that of the sector's winner in the image that the mount found. Its line is as it was
-- found.
pub record IsOfWinner (i : Image) (logs : Logs) (lba line at position : ℕ) (block : Block) : Type 0 where
  pub winning : Record
  pub wins : winner (counted (found_image i logs)) lba ≡ Some winning
  pub of_line : winning.line ≡ line
  pub of_address : winning.at ≡ at
  pub of_position : winning.position ≡ position
  pub as_found : life_of (logs 0) line ≡ AsFound
  pub sector : block.sector ≡ winning.sector
  -- in an image that isn't sealed a block may bear another mark than its pair in the line's end
  -- record
  pub mark : IsSealed (found_image i logs) → block.mark ≡ sector_mark lba position

-- The block is that of the sector's last entry. Where none was taken, it is that of the winner.
abbrev pub IsOfLatest : Image → Logs → ℕ → ℕ → ℕ → ℕ → Block → Option Taken → Type 0
IsOfLatest i logs lba line at position block None = IsOfWinner i logs lba line at position block
IsOfLatest i logs lba line at position block (Some t) = IsOfEntry i logs lba line position block t

-- There is such a block, and it can be read.
pub record IsBlockOfSlot (i : Image) (logs : Logs) (lba line at position : ℕ) : Type 0 where
  -- the address is one of the line's, and this is its place: a unit and a block of its chunk
  pub in_range : line < i.shape.chunks
  pub within : at < length (units_in (online_now i logs line)) * i.shape.clba
  pub unit : ℕ
  pub number : ℕ
  pub place : slice_get (line_order i.shape (units_in (online_now i logs line))) at ≡ Some (unit, number)
  pub of_drive : unit < units i.shape
  -- the chunk on the drive, and its block
  pub chunk : Chunk
  pub there : chunk_in (media i logs) line unit ≡ Some chunk
  pub readable : IsReadable i.shape chunk number
  pub block : Block
  pub written : slice_get chunk.blocks number ≡ Some block
  -- whose it is
  pub latest : IsOfLatest i logs lba line at position block (last_take (logs 0) lba)
