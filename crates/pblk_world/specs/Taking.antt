-- When an entry may be taken, and with which mark: which source of a copy is still the latest of
-- its sector.
use Rattle.std.specs.Prelude.{ℕ, ◌+◌, ◌^◌, ◌<◌, ◌≡◌, ◌⊎◌, true, ⊤, slice_get, Option, Some, None}
use Rattle.std.specs.List.{Contains}
use Rattle.pblk_model.specs.declared.chunk.Mark.{Mark}
use Rattle.pblk_model.specs.Chunk.{Block, IsBlock}
use Rattle.pblk_model.specs.Marks.{sector_mark, void_mark}
use Rattle.pblk_model.specs.Image.{Image, block_at}
use Rattle.pblk_model.specs.Records.{Record}
use Rattle.pblk_model.specs.Contents.{counted, winner}
use Rattle.pblk_world.specs.Events.{Source, Entry}
use Rattle.pblk_world.specs.World.{Logs, media}
use Rattle.pblk_world.specs.EngineLog.{Taken, block_of_taken, AsFound, life_of, Placed, placements, has_landed}
use Rattle.pblk_world.specs.Fronts.{taken, last_take}
use Rattle.pblk_world.specs.Lines.{found_image, known_image, place_of}

-- The source is a place of the entry: in a stripe that has landed, in a line that wasn't freed
-- since.
pub record IsPlaceOf (i : Image) (logs : Logs) (t : Taken) (source : Source) : Type 0 where
  pub position : source.position ≡ t.entry.position
  pub placed : Placed
  pub is_placed : Contains (placements (logs 0)) placed
  pub landed : has_landed (logs 0) placed ≡ true
  pub line : source.line ≡ placed.stripe.line
  pub not_freed : life_of (logs 0) source.line ≡ placed.life
  -- which of the stripe's blocks it is
  pub block : ℕ
  pub entry : slice_get placed.stripe.blocks block ≡ Some (block_of_taken t)
  pub place : place_of (known_image i logs) source.line source.at ≡ Some (placed.stripe.unit, placed.stripe.at + block)

-- The source is the very block of the sector's winner in the image that the mount found, in a line
-- that wasn't freed.
pub record IsPlaceOfWinner (i : Image) (logs : Logs) (lba : ℕ) (source : Source) : Type 0 where
  pub winning : Record
  pub is_winner : winner (counted (found_image i logs)) lba ≡ Some winning
  pub line : source.line ≡ winning.line
  pub at : source.at ≡ winning.at
  pub position : source.position ≡ winning.position
  pub not_freed : life_of (logs 0) source.line ≡ AsFound

-- by the sector's latest entry; of a sector that was never taken the winner takes its place
abbrev pub IsPlaceOfLatest : Image → Logs → ℕ → Source → Option Taken → Type 0
IsPlaceOfLatest i logs lba source None = IsPlaceOfWinner i logs lba source
IsPlaceOfLatest i logs lba source (Some t) = IsPlaceOf i logs t source

-- The block bears the sector, at the source's position. Where the source is an entry's place its
-- mark says so. The winner is a record of that very block.
abbrev pub BearsIt : ℕ → Source → Block → Option Taken → Type 0
BearsIt lba source block None = ⊤
BearsIt lba source block (Some t) = block.mark ≡ sector_mark lba source.position

-- The source of a copy is the latest of its sector, and this is the block that stands there by the
-- named prefix.
pub record IsLatest (i : Image) (logs : Logs) (lba : ℕ) (source : Source) (block : Block) : Type 0 where
  pub place : IsPlaceOfLatest i logs lba source (last_take (logs 0) lba)
  pub there : block_at (media i logs) source.line source.at ≡ Some block
  pub bears : BearsIt lba source block (last_take (logs 0) lba)

-- A copy becomes the latest of its sector exactly where its source is; else it is Void.
pub record Copies (i : Image) (logs : Logs) (entry : Entry) (mark : Mark) (source : Source) : Type 0 where
  pub block : Block
  pub latest : IsLatest i logs entry.lba source block
  pub sector : entry.sector ≡ block.sector
  pub names_sector : mark ≡ sector_mark entry.lba entry.position

pub record CopiesStale (i : Image) (logs : Logs) (entry : Entry) (mark : Mark) (source : Source) : Type 0 where
  pub stale : (block : Block) → ¬ IsLatest i logs entry.lba source block
  pub names_none : mark ≡ void_mark entry.position

abbrev pub IsMarked : Image → Logs → Entry → Mark → Option Source → Type 0
IsMarked i logs entry mark None = mark ≡ sector_mark entry.lba entry.position
IsMarked i logs entry mark (Some source) = Copies i logs entry mark source ⊎ CopiesStale i logs entry mark source

pub record MayTake (i : Image) (logs : Logs) (entry : Entry) (mark : Mark) : Type 0 where
  pub position : entry.position ≡ taken (logs 0)
  pub position_number : entry.position < 2 ^ 62
  pub lba : entry.lba < i.shape.capacity
  pub marked : IsMarked i logs entry mark entry.source
  -- with that mark its sector is a block of the drive
  pub block : IsBlock i.shape (record { sector = entry.sector; mark = mark })
