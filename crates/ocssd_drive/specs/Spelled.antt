-- Chunks that are restored from blocks which are spelled one after another.
use Rattle.std.specs.Prelude.{ℕ, ◌≡◌, List, length}
use Rattle.std.specs.List.{flat_map}
use Rattle.pblk_model.specs.declared.chunk.ChunkState.{ChunkState}
use Rattle.pblk_model.specs.Chunk.{Block}
use Rattle.pblk_model.specs.ImageFile.{block_bytes}
use Rattle.ocssd_drive.specs.Units.{WornUnit, with_stored, worn_chunk}
use Rattle.ocssd_drive.specs.Drive.{DriveView, stored, with_chunk_at, with_restored}

-- a unit got this state, this wear index and these blocks, so many, for a chunk, and nothing else
pub record RestoresUnit (chunk wear : ℕ) (state : ChunkState) (count : ℕ) (spelled : List ℕ) (old new : WornUnit) : Type 0 where
  pub blocks : List Block
  pub spelling : flat_map block_bytes blocks ≡ spelled
  pub count_is : length blocks ≡ count
  pub is : new ≡ with_stored chunk (worn_chunk state blocks wear) old

-- the same of a unit of a drive, and of the drive as it is kept in a file
pub record RestoresDrive (unit chunk wear : ℕ) (state : ChunkState) (count : ℕ) (spelled : List ℕ) (old new : DriveView) : Type 0 where
  pub blocks : List Block
  pub spelling : flat_map block_bytes blocks ≡ spelled
  pub count_is : length blocks ≡ count
  pub is : new ≡ with_restored unit chunk (worn_chunk state blocks wear) old
  pub kept : stored new ≡ with_chunk_at unit chunk (worn_chunk state blocks wear) (stored old)
