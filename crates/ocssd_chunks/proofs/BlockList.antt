-- Lemmas about the blocks of two lists.
use Rattle.std.proofs.Common.{◌≡◌, ℕ, zero, suc, ◌*◌, ◌<◌, ◌≤◌, List, [], ◌∷◌, length, get_or, take, drop, refl, arith, Some, slice_get, length-drop}
use Rattle.std.proofs.lemmas.List.{drop-drop, length-take-le}
use Rattle.std.specs.List.{AllByRecursion}
use Rattle.pblk_model.specs.declared.shape.Shape.{Shape}
use Rattle.pblk_model.specs.declared.chunk.Mark.{Mark}
use Rattle.pblk_model.specs.Chunk.{IsBlock}
use Rattle.pblk_model.specs.Blocks.{blocks_of, IsMark}
use Rattle.pblk_model.proofs.Numbers.{suc-times}
use Rattle.pblk_model.proofs.Parts.{all_dropped, all_taken}

-- the k-th block
pub slice_get-blocks_of : (size : ℕ) (bytes : List ℕ) (marks : List Mark) (k : ℕ) (d : Mark) → k < length marks
    → slice_get (blocks_of size bytes marks) k ≡ Some (record { sector = take size (drop (k * size) bytes); mark = get_or marks k d })
slice_get-blocks_of size bytes [] k d below = absurd (omega arith)
slice_get-blocks_of size bytes (m ∷ marks) zero d below =
    let none : 0 * size ≡ 0 = omega arith in
    rw none refl
slice_get-blocks_of size bytes (m ∷ marks) (suc k) d below =
    rw (suc-times k size, ← drop-drop (k * size) size bytes) (slice_get-blocks_of size (drop size bytes) marks k d (omega arith))

pub all_bytes : (bytes : List ℕ) → ((k : ℕ) → get_or bytes k 0 < 256) → AllByRecursion (λ x. x < 256) bytes
all_bytes [] fit = tt
all_bytes (x ∷ bytes) fit = (fit 0, all_bytes bytes (λ k. fit (suc k)))

-- blocks of whole sectors of bytes, with marks in range
pub all_blocks : (s : Shape) (bytes : List ℕ) (marks : List Mark) → length bytes ≡ length marks * s.sector → AllByRecursion (λ x. x < 256) bytes
    → AllByRecursion IsMark marks → AllByRecursion (IsBlock s) (blocks_of s.sector bytes marks)
all_blocks s bytes [] whole fit in_range = tt
all_blocks s bytes (m ∷ marks) whole fit in_range =
    let split = suc-times (length marks) s.sector in
    let enough : s.sector ≤ length bytes = omega arith in
    let rest : length (drop s.sector bytes) ≡ length marks * s.sector = simp length-drop (omega arith) in (
      record {
        size = length-take-le s.sector bytes enough;
        bytes = all_taken (λ x. x < 256) s.sector bytes fit;
        lba = in_range.0.lba;
        position = in_range.0.position;
      },
      all_blocks s (drop s.sector bytes) marks rest (all_dropped (λ x. x < 256) s.sector bytes fit) in_range.1,
    )
