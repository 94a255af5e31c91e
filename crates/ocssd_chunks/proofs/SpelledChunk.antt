-- The blocks that bytes begin with are spelled so, and are a chunk's.
use Rattle.std.proofs.Common.{◌≡◌, ℕ, ◌+◌, ◌*◌, ◌%◌, List, length, take, ◌∙◌, arith}
use Rattle.std.proofs.lemmas.List.{take_all}
use Rattle.std.proofs.Math.Seq.{take-append_seam}
use Rattle.pblk_model.specs.declared.chunk.Mark.{Mark}
use Rattle.pblk_model.specs.declared.shape.Shape.{Shape}
use Rattle.pblk_model.specs.declared.chunk.ChunkState.{ChunkState}
use Rattle.pblk_model.specs.Chunk.{IsChunk, PointerFits}
use Rattle.pblk_model.specs.Blocks.{blocks_in, blocks_of}
use Rattle.ocssd_chunks.specs.Sound.{held_blocks}
use Rattle.ocssd_chunks.specs.Spelled.{AreSpelled}
use Rattle.pblk_model.proofs.SpelledBlocks.{AreBytes, blocks_are, blocks_back, blocks_count}

pub spelled_so : (size n : ℕ) (spelled : List ℕ) → AreBytes spelled → length spelled ≡ n * (size + 16) → AreSpelled n spelled (blocks_in size n spelled)
spelled_so size n spelled all whole =
    let long : (size + 16) * n ≡ length spelled = grind (arith, whole) in
    record {
      count_is = blocks_count size n spelled;
      spelling = blocks_back size n spelled all (omega (arith, long)) ∙ take_all ((size + 16) * n) spelled (omega (arith, long));
    }

-- the first blocks of a chunk, which it adopted
pub held_spelled : (size n : ℕ) (spelled bytes : List ℕ) (marks : List Mark) → AreBytes spelled → length spelled ≡ n * (size + 16)
    → AreSpelled n spelled (take n (held_blocks size n spelled bytes marks))
held_spelled size n spelled bytes marks all whole =
    let first : take n (held_blocks size n spelled bytes marks) ≡ blocks_in size n spelled =
    rw (blocks_count size n spelled) at (take-append_seam (blocks_in size n spelled) (blocks_of size bytes marks)) in
    rw first (spelled_so size n spelled all whole)

pub spelled_chunk : (s : Shape) (state : ChunkState) (n : ℕ) (spelled : List ℕ) → AreBytes spelled → length spelled ≡ n * (s.sector + 16)
    → PointerFits state s.clba n → n % s.ws_min ≡ 0 → IsChunk s (record { state = state; blocks = blocks_in s.sector n spelled })
spelled_chunk s state n spelled all whole place multiple =
    let long : (s.sector + 16) * n ≡ length spelled = grind (arith, whole) in
    let count = blocks_count s.sector n spelled in
    record { place = rw count place; multiple = rw count multiple; blocks = blocks_are s n spelled all (omega (arith, long)) }
