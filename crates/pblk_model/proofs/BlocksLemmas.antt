-- Lemmas on the words of Blocks.
use Rattle.std.proofs.Common.{List, [], ap, arith, drop, length, length-drop, refl, suc, take, zero, ℕ, ◌*◌, ◌++◌, ◌+◌, ◌∷◌, ◌≡◌, ◌≤◌}
use Rattle.std.proofs.lemmas.List.{drop-append-le, drop-take, nil_from_length, take-append-le, take-take}
use Rattle.pblk_model.proofs.Numbers.{suc-times}
use Rattle.pblk_model.specs.Blocks.{blocks_of}
use Rattle.pblk_model.specs.declared.chunk.Mark.{Mark}

pub length-blocks_of : (size : ℕ) (bytes : List ℕ) (marks : List Mark) → length (blocks_of size bytes marks) ≡ length marks
length-blocks_of size bytes [] = refl
length-blocks_of size bytes (m ∷ marks) = ap suc (length-blocks_of size (drop size bytes) marks)

pub blocks_of-append : (size : ℕ) (bytes more : List ℕ) (marks others : List Mark) → length bytes ≡ length marks * size
    → blocks_of size (bytes ++ more) (marks ++ others) ≡ blocks_of size bytes marks ++ blocks_of size more others
blocks_of-append size bytes more [] others whole =
    let none : bytes ≡ [] = nil_from_length bytes (omega arith) in
    rw none refl
blocks_of-append size bytes more (m ∷ marks) others whole =
    let split = suc-times (length marks) size in
    let enough : size ≤ length bytes = omega arith in
    let rest : length (drop size bytes) ≡ length marks * size = simp length-drop (omega arith) in
    rw (take-append-le size bytes more enough, drop-append-le size bytes more enough, blocks_of-append size (drop size bytes) more marks others rest) refl

-- the first blocks are those of the first bytes and marks
pub take-blocks_of : (size n : ℕ) (bytes : List ℕ) (marks : List Mark)
    → take n (blocks_of size bytes marks) ≡ blocks_of size (take (n * size) bytes) (take n marks)
take-blocks_of size zero bytes marks = refl
take-blocks_of size (suc n) bytes [] = refl
take-blocks_of size (suc n) bytes (m ∷ marks) =
    let front : take size (take (size + n * size) bytes) ≡ take size bytes = take-take size (size + n * size) bytes (omega arith) in
    let rest : drop size (take (size + n * size) bytes) ≡ take (n * size) (drop size bytes) = drop-take size (n * size) bytes in
    rw (suc-times n size, front, rest, take-blocks_of size n (drop size bytes) marks) refl
