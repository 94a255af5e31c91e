-- Lemmas about blocks whose bytes and marks stand in two lists.
use Rattle.std.proofs.Common.{◌≡◌, ℕ, zero, suc, ◌+◌, ◌-◌, ◌*◌, ◌≤◌, List, [], ◌∷◌, ◌++◌, length, take, drop, replicate, refl, ap, sym, ◌∙◌, arith, length-append}
use Rattle.std.proofs.lemmas.List.{length-replicate, drop-drop}
use Rattle.std.proofs.Math.Nat.{mul-le-mul_right}
use Rattle.pblk_model.specs.declared.chunk.Mark.{Mark}
use Rattle.pblk_model.specs.Bytes.{zeros}
use Rattle.pblk_model.specs.Blocks.{blocks_of}
use Rattle.pblk_model.proofs.Numbers.{suc-times}
use Rattle.pblk_model.proofs.BlocksLemmas.{blocks_of-append, length-blocks_of}

-- the first of a value's repetitions and the others
front_same : {X : Type 0} (n k : ℕ) (x : X) → take n (replicate n x ++ replicate k x) ≡ replicate n x
front_same zero k x = refl
front_same (suc n) k x = ap (λ xs. x ∷ xs) (front_same n k x)

rest_same : {X : Type 0} (n k : ℕ) (x : X) → drop n (replicate n x ++ replicate k x) ≡ replicate k x
rest_same zero k x = refl
rest_same (suc n) k x = rest_same n k x

more_same : {X : Type 0} (n k : ℕ) (x : X) → replicate (n + k) x ≡ replicate n x ++ replicate k x
more_same zero k x = let none : 0 + k ≡ k = omega arith in rw none refl
more_same (suc n) k x = let next : suc n + k ≡ suc (n + k) = omega arith in rw next (ap (λ xs. x ∷ xs) (more_same n k x))

-- zeros with one mark for each sector
pub zero_blocks : (size k : ℕ) (m : Mark) → blocks_of size (replicate (k * size) 0) (replicate k m) ≡ replicate k (record { sector = zeros size; mark = m })
unfolding zeros
zero_blocks size zero m = refl
zero_blocks size (suc k) m = rw
    (suc-times k size, more_same {X = ℕ} size (k * size) 0, front_same {X = ℕ} size (k * size) 0, rest_same {X = ℕ} size (k * size) 0, zero_blocks size k m)
    refl

-- a stripe that has room for so many blocks more has it for their marks and bytes
pub marks_room : (size : ℕ) (bytes : List ℕ) (marks : List Mark) (count stripe : ℕ) → length (blocks_of size bytes marks) + count ≤ stripe
    → length marks + count ≤ stripe
marks_room size bytes marks count stripe h = let n : length (blocks_of size bytes marks) ≡ length marks = length-blocks_of size bytes marks in omega arith

pub bytes_room : (size n count stripe long more room : ℕ) → n + count ≤ stripe → long ≡ n * size → more ≡ count * size → stripe * size ≤ room
    → long + more ≤ room
bytes_room size n count stripe long more room h long-is more-is enough =
    let all : (n + count) * size ≤ stripe * size = mul-le-mul_right size h in
    let sum : (n + count) * size ≡ n * size + count * size = grind arith in
    omega arith

-- sectors of one mark at the end
pub run_added : (size : ℕ) (bytes more : List ℕ) (marks : List Mark) (n count : ℕ) (m : Mark) → length bytes ≡ length marks * size → n ≡ length marks
    → blocks_of size (bytes ++ more) (marks ++ replicate (n + count - length marks) m) ≡ blocks_of size bytes marks ++ blocks_of size more (replicate count m)
run_added size bytes more marks n count m whole n-is =
    let same : n + count - length marks ≡ count = omega arith in
    rw same (blocks_of-append size bytes more marks (replicate count m) whole)

pub run_counts : (marks : List Mark) (n count : ℕ) (m : Mark) → n ≡ length marks
    → length (marks ++ replicate (n + count - length marks) m) ≡ length marks + count
run_counts marks n count m n-is = length-append marks (replicate (n + count - length marks) m) ∙ omega (arith, length-replicate (n + count - length marks) m)

pub run_whole : (size n count long : ℕ) → long ≡ n * size → long + count * size ≡ (n + count) * size
run_whole size n count long whole =
    let sum : (n + count) * size ≡ n * size + count * size = grind arith in
    omega arith

-- Pad blocks up to a stripe
pub padded_up : (size : ℕ) (bytes : List ℕ) (marks : List Mark) (stripe : ℕ) (m : Mark) → length bytes ≡ length marks * size → length marks ≤ stripe
    → blocks_of size (bytes ++ replicate (stripe * size - length bytes) 0) (marks ++ replicate (stripe - length marks) m)
    ≡ blocks_of size bytes marks ++ replicate (stripe - length (blocks_of size bytes marks)) (record { sector = zeros size; mark = m })
padded_up size bytes marks stripe m whole within =
    let left : ℕ = stripe - length marks in
    let all : (length marks + (stripe - length marks)) * size ≡ length marks * size + (stripe - length marks) * size = grind arith in
    let back : length marks + (stripe - length marks) ≡ stripe = omega arith in
    let all-is : stripe * size ≡ length marks * size + (stripe - length marks) * size = ap (λ n. n * size) (sym back) ∙ all in
    let zeros-is : stripe * size - length bytes ≡ (stripe - length marks) * size = omega arith in
    rw (
      zeros-is,
      length-blocks_of size bytes marks,
      blocks_of-append size bytes (replicate ((stripe - length marks) * size) 0) marks (replicate (stripe - length marks) m) whole,
      zero_blocks size (stripe - length marks) m,
    ) refl

pub drop-blocks_of : (size n : ℕ) (bytes : List ℕ) (marks : List Mark)
    → drop n (blocks_of size bytes marks) ≡ blocks_of size (drop (n * size) bytes) (drop n marks)
drop-blocks_of size zero bytes marks = let none : 0 * size ≡ 0 = omega arith in rw none refl
drop-blocks_of size (suc n) bytes [] = refl
drop-blocks_of size (suc n) bytes (m ∷ marks) =
    rw (suc-times n size, ← drop-drop (n * size) size bytes, drop-blocks_of size n (drop size bytes) marks) refl
