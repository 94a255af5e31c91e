-- What a sealed image says of one of its lines.
use Rattle.std.specs.Prelude.{ℕ, ◌≡◌, Some, slice_get}
use Rattle.pblk_model.specs.Chunk.{Chunk, Block}
use Rattle.pblk_model.specs.Image.{Image, line_chunks, width}
use Rattle.pblk_model.specs.StartRecord.{StartRecord, start_of}
use Rattle.pblk_model.specs.EndRecord.{EndRecord, end_of}
use Rattle.pblk_model.specs.Sealed.{AgreesWithLine, BeginsNarrower}

pub record IsSealedLine (i : Image) (line : ℕ) : Type 0 where
  pub ends : (start : StartRecord) (e : EndRecord) → start_of i line ≡ Some start → end_of i line start ≡ Some e → AgreesWithLine i line e
  pub begins : (k : ℕ) (c : Chunk) (b : Block) → slice_get (line_chunks i line) k ≡ Some c → slice_get c.blocks 0 ≡ Some b
      → BeginsNarrower (width i line) b → ⊥
