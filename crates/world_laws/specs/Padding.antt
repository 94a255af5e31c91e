-- Pad blocks behind the blocks of Open chunks.
use Rattle.std.specs.Prelude.{ℕ, ◌<◌, ◌≡◌, ◌⊎◌, ◌++◌, true, length, replicate, Some}
use Rattle.pblk_model.specs.declared.shape.Shape.{Shape}
use Rattle.pblk_model.specs.declared.chunk.ChunkState.TheVariants.{Open}
use Rattle.pblk_model.specs.Chunk.{Chunk}
use Rattle.pblk_model.specs.Marks.{pad_block}
use Rattle.pblk_model.specs.Image.{Image, is_online_in}
use Rattle.pblk_laws.specs.LineBlocks.{chunk_in}

-- an Open chunk with Pad blocks behind its own, Open or Closed
pub record IsPadded (s : Shape) (c d : Chunk) : Type 0 where
  pub was_open : c.state ≡ Open
  pub some : 0 < length c.blocks
  pub more : ℕ
  pub blocks : d.blocks ≡ c.blocks ++ replicate more (pad_block s)
  pub online : is_online_in d.state ≡ true

-- a unit's chunk of a line was padded
pub record IsPaddedAt (i j : Image) (line unit : ℕ) : Type 0 where
  pub old : Chunk
  pub new : Chunk
  pub was : chunk_in i line unit ≡ Some old
  pub is : chunk_in j line unit ≡ Some new
  pub padded : IsPadded i.shape old new

-- The second image is the first with Pad blocks in some of its Open chunks.
pub record ArePadded (i j : Image) : Type 0 where
  pub shape : j.shape ≡ i.shape
  pub count : length j.units ≡ length i.units
  pub chunks : (line unit : ℕ) → (chunk_in j line unit ≡ chunk_in i line unit) ⊎ IsPaddedAt i j line unit
