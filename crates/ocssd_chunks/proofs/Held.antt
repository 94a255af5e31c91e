-- The blocks of a chunk: those that it adopted, and those that were written since.
use Rattle.std.proofs.Common.{◌≡◌, ℕ, ◌+◌, ◌-◌, ◌*◌, ◌<◌, ◌≤◌, List, [], ◌++◌, length, drop, Some, slice_get, sym, ap, ◌∙◌, append_assoc, arith, length-append}
use Rattle.std.proofs.lemmas.List.{append-nil, nil_from_length}
use Rattle.pblk_model.specs.declared.shape.Shape.{Shape}
use Rattle.pblk_model.specs.declared.chunk.Mark.{Mark}
use Rattle.pblk_model.specs.declared.chunk.ChunkState.{ChunkState}
use Rattle.pblk_model.specs.Blocks.{block_in, blocks_in, blocks_of}
use Rattle.pblk_model.specs.Chunk.{Chunk, PointerFits}
use Rattle.pblk_model.proofs.BlocksLemmas.{blocks_of-append, length-blocks_of}
use Rattle.pblk_model.proofs.ChunkLemmas.{pointer_within}
use Rattle.pblk_model.proofs.Parts.{get_first, get_rest}
use Rattle.ocssd_chunks.specs.DriveChunk.{DriveChunk}
use Rattle.ocssd_chunks.specs.Sound.{IsSound, drive_chunk, held_blocks}
use Rattle.ocssd_chunks.specs.declared.chunk.Chunk.TheInside.{Inside}
use Rattle.ocssd_chunks.specs.Spelled.{AddsSpelled}
use Rattle.pblk_model.proofs.SpelledBlocks.{blocks_count, slice_get-blocks_in}

pub held_count : (size n : ℕ) (spelled bytes : List ℕ) (marks : List Mark) → length (held_blocks size n spelled bytes marks) ≡ n + length marks
held_count size n spelled bytes marks =
    omega (arith, length-append (blocks_in size n spelled) (blocks_of size bytes marks), blocks_count size n spelled, length-blocks_of size bytes marks)

-- a block that was adopted
pub held_first : (size n k : ℕ) (spelled bytes : List ℕ) (marks : List Mark) → k < n
    → slice_get (held_blocks size n spelled bytes marks) k ≡ Some (block_in size (drop (k * (size + 16)) spelled))
held_first size n k spelled bytes marks below =
    get_first (blocks_in size n spelled) (blocks_of size bytes marks) k (omega (arith, blocks_count size n spelled))
    ∙ slice_get-blocks_in size n k spelled below

-- a block that was written since
pub held_later : (size n k : ℕ) (spelled bytes : List ℕ) (marks : List Mark) → n ≤ k
    → slice_get (held_blocks size n spelled bytes marks) k ≡ slice_get (blocks_of size bytes marks) (k - n)
held_later size n k spelled bytes marks past =
    let place : k ≡ n + (k - n) = omega (arith, past) in
    ap (slice_get (held_blocks size n spelled bytes marks)) place
    ∙ get_rest (blocks_in size n spelled) (blocks_of size bytes marks) n (k - n) (blocks_count size n spelled)

-- more blocks at the end
pub held_more : (size n : ℕ) (spelled bytes more : List ℕ) (marks others : List Mark) → length bytes ≡ length marks * size
    → held_blocks size n spelled (bytes ++ more) (marks ++ others) ≡ held_blocks size n spelled bytes marks ++ blocks_of size more others
held_more size n spelled bytes more marks others whole =
    rw (blocks_of-append size bytes more marks others whole)
    (sym (append_assoc (blocks_in size n spelled) (blocks_of size bytes marks) (blocks_of size more others)))

-- blocks that fit with more are within the chunk
pub room : (s : Shape) (state : ChunkState) (n : ℕ) (spelled bytes : List ℕ) (marks : List Mark) (more : ℕ)
    → PointerFits state s.clba (length (held_blocks s.sector n spelled bytes marks) + more) → n + length marks + more ≤ s.clba
room s state n spelled bytes marks more fits =
    omega (arith, held_count s.sector n spelled bytes marks, pointer_within state s.clba _ fits)

-- nothing was written since: the blocks are those that are spelled
pub held_alone : (size n : ℕ) (spelled bytes : List ℕ) (marks : List Mark) → marks ≡ [] → held_blocks size n spelled bytes marks ≡ blocks_in size n spelled
held_alone size n spelled bytes marks none = rw none (append-nil (blocks_in size n spelled))

-- none was adopted, and those that are spelled were added
pub held_added : (size n count : ℕ) (kept spelled bytes : List ℕ) (marks : List Mark) → n ≡ 0 → AddsSpelled size count spelled [] bytes [] marks
    → held_blocks size n kept bytes marks ≡ blocks_in size count spelled
held_added size n count kept spelled bytes marks none a = rw (none, a.bytes_added, a.marks_added) a.blocks

-- what the fields are of a chunk without blocks
pub record IsEmpty (q : Inside) (s : Shape) : Type 0 where
  pub shape : q.shape ≡ s
  pub adopted : q.adopted_count ≡ 0
  pub marks : q.marks.items ≡ []
  pub bytes : q.bytes.items ≡ []

pub empty_fields : (q : Inside) (d : DriveChunk) (state : ChunkState) (s : Shape) → IsSound q → drive_chunk q ≡ d
    → d.chunk ≡ record { state = state; blocks = [] }
    → d.shape ≡ s → IsEmpty q s
empty_fields q d state s sound view_is chunk_is shape_is =
    let none : (drive_chunk q).chunk.blocks ≡ [] = ap (λ (d : DriveChunk). d.chunk.blocks) view_is ∙ ap (λ (k : Chunk). k.blocks) chunk_is in
    let count = held_count q.shape.sector q.adopted_count q.adopted q.bytes.items q.marks.items in
    let nothing = ap length none in
    let no_marks : length q.marks.items ≡ 0 = omega (arith, count, nothing) in
    record {
      shape = ap (λ (d : DriveChunk). d.shape) view_is ∙ shape_is;
      adopted = omega (arith, count, nothing);
      marks = nil_from_length q.marks.items no_marks;
      bytes = nil_from_length q.bytes.items (omega (arith, sound.whole, ap (λ n. n * q.shape.sector) no_marks));
    }
