-- Chunks: a state and the written blocks (Open-Channel SSD Specification 2.0, Chunk states and write pointer).
use Rattle.std.specs.Prelude.{ℕ, ◌+◌, ◌%◌, ◌^◌, ◌<◌, ◌≤◌, ◌≡◌, List, [], length}
use Rattle.std.specs.List.{AllByRecursion}
use Rattle.pblk_model.specs.declared.shape.Shape.{Shape}
use Rattle.pblk_model.specs.declared.chunk.Mark.{Mark}
use Rattle.pblk_model.specs.declared.chunk.ChunkState.{ChunkState}
use Rattle.pblk_model.specs.declared.chunk.ChunkState.TheVariants.{Free, Open, Closed, Offline}

-- a written block: a sector with its mark
pub record Block : Type 0 where
  pub sector : List ℕ
  pub mark : Mark

pub record Chunk : Type 0 where
  pub state : ChunkState
  pub blocks : List Block

abbrev pub free_chunk : Chunk
free_chunk = record { state = Free; blocks = [] }

abbrev pub offline_chunk : Chunk
offline_chunk = record { state = Offline; blocks = [] }

-- the write pointer
abbrev pub pointer : Chunk → ℕ
pointer c = length c.blocks

-- Where a write pointer may stand, by the chunk's state and its number of blocks. A Closed chunk whose pointer
-- is below its number of blocks was closed by a failed write.
abbrev pub PointerFits : ChunkState → ℕ → ℕ → Type 0
PointerFits Free clba wp = wp ≡ 0
PointerFits Open clba wp = (0 < wp) × (wp < clba)
PointerFits Closed clba wp = wp ≤ clba
PointerFits Offline clba wp = wp ≡ 0

pub record IsBlock (s : Shape) (b : Block) : Type 0 where
  pub size : length b.sector ≡ s.sector
  pub bytes : AllByRecursion (λ x. x < 256) b.sector
  pub lba : b.mark.lba < 2 ^ 64
  pub position : b.mark.position < 2 ^ 64

-- a chunk of a drive of this shape
pub record IsChunk (s : Shape) (c : Chunk) : Type 0 where
  pub place : PointerFits c.state s.clba (pointer c)
  pub multiple : pointer c % s.ws_min ≡ 0
  pub blocks : AllByRecursion (IsBlock s) c.blocks

-- Which blocks can be read, by the chunk's state. The last MW_CUNITS blocks of an Open chunk can't.
abbrev pub ReadableIn : ChunkState → ℕ → ℕ → ℕ → Type 0
ReadableIn Free mw wp b = ⊥
ReadableIn Open mw wp b = b + mw < wp
ReadableIn Closed mw wp b = b < wp
ReadableIn Offline mw wp b = ⊥

abbrev pub IsReadable : Shape → Chunk → ℕ → Type 0
IsReadable s c b = ReadableIn c.state s.mw_cunits (pointer c) b
