-- Blocks as bytes and marks that stand in two lists, and as bytes that spell them.
use Rattle.std.specs.Prelude.{ℕ, zero, suc, ◌+◌, ◌^◌, ◌<◌, List, [], ◌∷◌, take, drop}
use Rattle.std.specs.Int.{w64}
use Rattle.pblk_model.specs.declared.chunk.Mark.{Mark}
use Rattle.pblk_model.specs.Bytes.{number_at}
use Rattle.pblk_model.specs.Chunk.{Block}

-- the bytes cut into sectors of this size, each with its mark
abbrev pub blocks_of : ℕ → List ℕ → List Mark → List Block
blocks_of size bytes [] = []
blocks_of size bytes (m ∷ marks) = record { sector = take size bytes; mark = m } ∷ blocks_of size (drop size bytes) marks

-- both numbers of a mark have 64 bits
pub record IsMark (m : Mark) : Type 0 where
  pub lba : m.lba < 2 ^ 64
  pub position : m.position < 2 ^ 64

-- the block that bytes begin with: a sector of this size, and then its mark
abbrev pub block_in : ℕ → List ℕ → Block
block_in size bytes = record { sector = take size bytes; mark = record { lba = number_at w64 size bytes; position = number_at w64 (size + 8) bytes } }

-- the blocks that bytes begin with, so many
abbrev pub blocks_in : ℕ → ℕ → List ℕ → List Block
blocks_in size zero bytes = []
blocks_in size (suc n) bytes = block_in size bytes ∷ blocks_in size n (drop (size + 16) bytes)
