-- Blocks that bytes spell one after another.
use Rattle.std.proofs.Common.{◌≡◌, ℕ, zero, suc, ◌+◌, ◌*◌, ◌^◌, ◌<◌, ◌≤◌, List, [], ◌∷◌, ◌++◌, Some, slice_get, length, length-drop, take, drop, get_or, refl, sym, ap, ◌∙◌, subst, arith, take-add}
use Rattle.std.specs.Int.{w64, from_le_bytes}
use Rattle.std.specs.List.{AllByRecursion, flat_map}
use Rattle.std.proofs.lemmas.List.{length-take-le, drop-drop, take-take}
use Rattle.std.proofs.lemmas.Nat.{le_bytes_8}
use Rattle.pblk_model.specs.declared.shape.Shape.{Shape}
use Rattle.pblk_model.specs.Blocks.{block_in, blocks_in}
use Rattle.pblk_model.specs.Bytes.{le64, number_at}
use Rattle.pblk_model.specs.Chunk.{IsBlock}
use Rattle.pblk_model.specs.ImageFile.{block_bytes}
use Rattle.pblk_model.proofs.BytesLemmas.{eight_bytes, number_front}
use Rattle.pblk_model.proofs.Numbers.{suc-times}
use Rattle.pblk_model.proofs.Parts.{all_dropped, all_taken}

abbrev pub AreBytes : List ℕ → Type 0
AreBytes b = AllByRecursion (λ x. x < 256) b

each_byte : (b : List ℕ) (i : ℕ) → AreBytes b → get_or b i 0 < 256
each_byte [] i h = omega arith
each_byte (x ∷ b) zero h = h.0
each_byte (x ∷ b) (suc i) h = each_byte b i h.1

-- Numbers of eight bytes.

slice_size : (b : List ℕ) (at : ℕ) → at + 8 ≤ length b → length (take 8 (drop at b)) ≡ 8
slice_size b at within = length-take-le 8 (drop at b) (omega (arith, length-drop at b))

number_back : (b : List ℕ) (at : ℕ) → AreBytes b → at + 8 ≤ length b → le64 (number_at w64 at b) ≡ take 8 (drop at b)
number_back b at h within =
    let eight : AreBytes (take 8 (drop at b)) = all_taken (λ x. x < 256) 8 (drop at b) (all_dropped (λ x. x < 256) at b h) in
    le_bytes_8 (take 8 (drop at b)) (number_at w64 at b) (slice_size b at within) (λ i. each_byte (take 8 (drop at b)) i eight) refl

number_below : (b : List ℕ) (at : ℕ) → AreBytes b → at + 8 ≤ length b → number_at w64 at b < 2 ^ 64
number_below b at h within = subst (λ bytes. from_le_bytes w64 bytes < 2 ^ 64) (number_back b at h within) (eight_bytes (number_at w64 at b) [])

-- Blocks.

pub blocks_count : (size n : ℕ) (b : List ℕ) → length (blocks_in size n b) ≡ n
blocks_count size zero b = refl
blocks_count size (suc n) b = ap suc (blocks_count size n (drop (size + 16) b))

-- the k-th block
pub slice_get-blocks_in : (size n k : ℕ) (b : List ℕ) → k < n → slice_get (blocks_in size n b) k ≡ Some (block_in size (drop (k * (size + 16)) b))
slice_get-blocks_in size zero k b below = absurd (omega arith)
slice_get-blocks_in size (suc n) zero b below =
    let none : 0 * (size + 16) ≡ 0 = omega arith in
    rw none refl
slice_get-blocks_in size (suc n) (suc k) b below =
    rw (suc-times k (size + 16), ← drop-drop (k * (size + 16)) (size + 16) b) (slice_get-blocks_in size n k (drop (size + 16) b) (omega arith))

-- what is read of a block alone is what stands there in all bytes
pub block_front : (size : ℕ) (b : List ℕ) → block_in size (take (size + 16) b) ≡ block_in size b
block_front size b =
    rw (
      take-take size (size + 16) b (omega arith),
      number_front w64 size (size + 16) b (omega arith),
      number_front w64 (size + 8) (size + 16) b (omega arith),
    ) refl

-- one block more
pub blocks_in-next : (size n : ℕ) (b : List ℕ) → blocks_in size (suc n) b ≡ blocks_in size n b ++ (block_in size (drop (n * (size + 16)) b) ∷ [])
blocks_in-next size zero b =
    let none : 0 * (size + 16) ≡ 0 = omega arith in
    rw none refl
blocks_in-next size (suc n) b =
    rw (suc-times n (size + 16), ← drop-drop (n * (size + 16)) (size + 16) b)
    (ap (λ bs. block_in size b ∷ bs) (blocks_in-next size n (drop (size + 16) b)))

block_back : (size : ℕ) (b : List ℕ) → AreBytes b → size + 16 ≤ length b → block_bytes (block_in size b) ≡ take (size + 16) b
block_back size b h within =
    let end : size + 8 + 8 ≡ size + 16 = omega arith in
    ap (λ x. take size b ++ x ++ le64 (number_at w64 (size + 8) b)) (number_back b size h (omega arith))
    ∙ (ap (λ x. take size b ++ take 8 (drop size b) ++ x) (number_back b (size + 8) h (omega arith))
    ∙ (ap (λ x. x ++ take 8 (drop (size + 8) b)) (sym (take-add size 8 b))
    ∙ (sym (take-add (size + 8) 8 b) ∙ ap (λ n. take n b) end)))

more_rows : (size n : ℕ) → (size + 16) * suc n ≡ size + 16 + (size + 16) * n
more_rows size n = grind arith

pub blocks_back : (size n : ℕ) (b : List ℕ) → AreBytes b → (size + 16) * n ≤ length b → flat_map block_bytes (blocks_in size n b) ≡ take ((size + 16) * n) b
blocks_back size zero b h within =
    let none : zero ≡ (size + 16) * zero = omega arith in
    ap (λ m. take m b) none
blocks_back size (suc n) b h within =
    let all = more_rows size n in
    let rest : (size + 16) * n ≤ length (drop (size + 16) b) = omega (arith, length-drop (size + 16) b) in
    ap (λ x. x ++ flat_map block_bytes (blocks_in size n (drop (size + 16) b))) (block_back size b h (omega arith))
    ∙ (ap (λ x. take (size + 16) b ++ x) (blocks_back size n (drop (size + 16) b) (all_dropped (λ x. x < 256) (size + 16) b h) rest)
    ∙ (sym (take-add (size + 16) ((size + 16) * n) b) ∙ ap (λ m. take m b) (sym all)))

pub blocks_are : (s : Shape) (n : ℕ) (b : List ℕ) → AreBytes b → (s.sector + 16) * n ≤ length b → AllByRecursion (IsBlock s) (blocks_in s.sector n b)
blocks_are s zero b h within = tt
blocks_are s (suc n) b h within =
    let size : ℕ = s.sector in
    let all = more_rows size n in
    let rest : (size + 16) * n ≤ length (drop (size + 16) b) = omega (arith, length-drop (size + 16) b) in (
      record {
        size = length-take-le size b (omega arith);
        bytes = all_taken (λ x. x < 256) size b h;
        lba = number_below b size h (omega arith);
        position = number_below b (size + 8) h (omega arith);
      },
      blocks_are s n (drop (size + 16) b) (all_dropped (λ x. x < 256) (size + 16) b h) rest,
    )
