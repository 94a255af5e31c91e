-- What a reset leaves.
use Rattle.std.proofs.Common.{◌≡◌, ℕ, []}
use Rattle.pblk_model.specs.declared.shape.Shape.{Shape}
use Rattle.pblk_model.specs.declared.chunk.ChunkState.{ChunkState}
use Rattle.pblk_model.specs.Chunk.{Chunk, pointer}
use Rattle.pblk_model.specs.ChunkStep.{after_reset, reset_in}

-- a chunk without blocks, in the state that a reset at its write pointer gives
pub after_reset_is : (s : Shape) (c : Chunk) (wp : ℕ) (next : ChunkState) (new : Chunk) → wp ≡ pointer c
    → reset_in s c.state wp ≡ record { state = next; blocks = [] } → new ≡ record { state = next; blocks = [] } → new ≡ after_reset s c
after_reset_is s c wp next new wp_is chunk_is new_is = rw (← wp_is, chunk_is) new_is
