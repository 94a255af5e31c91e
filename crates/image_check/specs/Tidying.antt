-- What a tidy image keeps of each line, by the chunks of its units.
use Rattle.std.specs.Prelude.{ℕ, ◌+◌, ◌<◌, ◌≡◌, ◌≢◌, List, length, Some, slice_get}
use Rattle.pblk_model.specs.declared.chunk.ChunkState.TheVariants.{Open}
use Rattle.pblk_model.specs.declared.chunk.Mark.{Mark}
use Rattle.pblk_model.specs.Chunk.{Block, Chunk}
use Rattle.pblk_model.specs.Image.{Image, block_at, width}
use Rattle.pblk_model.specs.LineOrder.{start_len}
use Rattle.pblk_model.specs.StartRecord.{StartRecord, start_of}
use Rattle.pblk_model.specs.EndRecord.{EndRecord, end_of}
use Rattle.pblk_model.specs.Sealed.{AgreesWithLine, BeginsNarrower}
use Rattle.pblk_laws.specs.LineBlocks.{chunk_in}
use Rattle.pblk_world.specs.Tidy.{IsWholeChunk}

-- each chunk of the line is whole
abbrev pub IsWholeLine : Image → ℕ → Type 0
IsWholeLine i line = (unit : ℕ) (c : Chunk) → chunk_in i line unit ≡ Some c → IsWholeChunk i.shape c

-- a chunk begins with a start record of a lesser width than g
pub record BeginsWithin (g : ℕ) (c : Chunk) : Type 0 where
  pub block : Block
  pub there : slice_get c.blocks 0 ≡ Some block
  pub narrower : BeginsNarrower g block

-- no chunk of the line does
abbrev pub BeginsWell : Image → ℕ → Type 0
BeginsWell i line = (unit : ℕ) (c : Chunk) → chunk_in i line unit ≡ Some c → BeginsWithin (width i line) c → ⊥

-- no chunk of the line is Open
abbrev pub IsClosedLine : Image → ℕ → Type 0
IsClosedLine i line = (unit : ℕ) (c : Chunk) → chunk_in i line unit ≡ Some c → c.state ≢ Open

-- each written data block has its pair as its mark
abbrev pub HasMarks : Image → ℕ → List Mark → Type 0
HasMarks i line pairs = (k : ℕ) (b : Block) → k < length pairs → block_at i line (start_len i.shape + k) ≡ Some b → slice_get pairs k ≡ Some b.mark

-- what a sealed image keeps of a line
pub record IsSealedIn (i : Image) (line : ℕ) : Type 0 where
  pub begins : BeginsWell i line
  pub ends : (start : StartRecord) (e : EndRecord) → start_of i line ≡ Some start → end_of i line start ≡ Some e → AgreesWithLine i line e

-- what a tidy image keeps of a line
abbrev pub IsTidyLine : Image → ℕ → Type 0
IsTidyLine i line = IsWholeLine i line × IsSealedIn i line
