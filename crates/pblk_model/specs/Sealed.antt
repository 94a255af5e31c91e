-- The images of which recovery is promised whole. Only crafted images are not sealed.
use Rattle.std.specs.Prelude.{ℕ, ◌+◌, ◌<◌, ◌≤◌, ◌≡◌, ◌≢◌, ◌++◌, length, Some, slice_get, take}
use Rattle.std.specs.List.{AllByRecursion}
use Rattle.std.specs.Int.{w32, w64}
use Rattle.pblk_model.specs.declared.chunk.ChunkState.TheVariants.{Open}
use Rattle.pblk_model.specs.Bytes.{le16, le32, number_at}
use Rattle.pblk_model.specs.Chunk.{Chunk, Block}
use Rattle.pblk_model.specs.LineOrder.{start_len}
use Rattle.pblk_model.specs.Marks.{meta_lba}
use Rattle.pblk_model.specs.Image.{Image, line_chunks, width, block_at}
use Rattle.pblk_model.specs.StartRecord.{StartRecord, magic, start_of}
use Rattle.pblk_model.specs.EndRecord.{EndRecord, end_of}

-- A whole end record agrees with its line: no chunk of the line is Open, and each written data block has its
-- pair as its mark.
pub record AgreesWithLine (i : Image) (line : ℕ) (e : EndRecord) : Type 0 where
  pub closed : AllByRecursion (λ c. c.state ≢ Open) (line_chunks i line)
  pub marks : (k : ℕ) (b : Block) → k < length e.pairs → block_at i line (start_len i.shape + k) ≡ Some b → slice_get e.pairs k ≡ Some b.mark

-- a block has the mark and the header of a start record of a lesser width than g
pub record BeginsNarrower (g : ℕ) (b : Block) : Type 0 where
  pub mark : b.mark.lba ≡ meta_lba
  pub kind : take 8 b.sector ≡ le32 magic ++ le16 1 ++ le16 1
  pub seq : number_at w64 16 b.sector ≡ b.mark.position
  pub some_width : 1 ≤ number_at w32 12 b.sector
  pub narrower : number_at w32 12 b.sector < g

pub record IsSealed (i : Image) : Type 0 where
  pub ends : (line : ℕ) (start : StartRecord) (e : EndRecord) → line < i.shape.chunks → start_of i line ≡ Some start → end_of i line start ≡ Some e
      → AgreesWithLine i line e
  -- a start record of a lesser width could become whole when another chunk goes Offline
  pub begins : (line k : ℕ) (c : Chunk) (b : Block) → line < i.shape.chunks → slice_get (line_chunks i line) k ≡ Some c → slice_get c.blocks 0 ≡ Some b
      → BeginsNarrower (width i line) b → ⊥
