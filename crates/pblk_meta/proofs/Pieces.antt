-- Pieces of bytes, and the numbers that they are.
use Rattle.std.proofs.Common.{◌≡◌, ℕ, ◌+◌, ◌<◌, ◌≤◌, zero, suc, Bool, true, false, List, [], ◌∷◌, ◌++◌, length, take, drop, get_or, refl, sym, ap, ◌∙◌, arith, eqb}
use Rattle.std.specs.List.{list_all}
use Rattle.std.specs.Str.{bytes_eq}
use Rattle.std.specs.Int.{w32, w64}
use Rattle.std.proofs.lemmas.Bool.{and_parts, eqb-true}
use Rattle.std.proofs.lemmas.List.{take_at, drop_at, take-append-drop, drop-drop, length-take, length-drop}
use Rattle.std.proofs.Math.Seq.{take-add}
use Rattle.std.proofs.lemmas.Nat.{le_bytes_4, le_bytes_8}
use Rattle.pblk_model.specs.Bytes.{le32, le64, zeros, number_at}
use Rattle.pblk_model.specs.StartRecord.{row_bytes}
use Rattle.pblk_meta.specs.Records.{row_in}
use Rattle.pblk_model.proofs.Bytes.{same_bytes, true_same}
use Rattle.pblk_model.proofs.Parts.{take_whole}
use Rattle.pblk_model.proofs.BytesLemmas.{zeros_length}

-- ---- lists

-- what is taken whole
pub taken : (xs ys : List ℕ) (n : ℕ) → length xs ≡ n → take n xs ≡ ys → xs ≡ ys
taken xs ys n long e = sym (take_whole xs) ∙ ap (λ (k : ℕ). take k xs) long ∙ e

-- two pieces are a list where the first is its front and the second is the rest
pub front_of : (p q b : List ℕ) (n : ℕ) → length p ≡ n → p ++ q ≡ b → p ≡ take n b
front_of p q b n long e = sym (take_at p q n long) ∙ ap (λ (xs : List ℕ). take n xs) e

pub rest_of : (p q b : List ℕ) (n : ℕ) → length p ≡ n → p ++ q ≡ b → q ≡ drop n b
rest_of p q b n long e = sym (drop_at p q n long) ∙ ap (λ (xs : List ℕ). drop n xs) e

pub joined : (p q b : List ℕ) (n : ℕ) → p ≡ take n b → q ≡ drop n b → p ++ q ≡ b
joined p q b n front rest = ap (λ (xs : List ℕ). xs ++ q) front ∙ ap (λ (xs : List ℕ). take n b ++ xs) rest ∙ take-append-drop n b

-- ---- tests

differ : (u : Bool) (xs ys : List ℕ) → bytes_eq xs ys ≡ u → (xs ≡ ys → ⊥) → u ≡ false
differ true xs ys e never = absurd (never (same_bytes xs ys e))
differ false xs ys e never = refl

pub false_differ : (xs ys : List ℕ) → (xs ≡ ys → ⊥) → bytes_eq xs ys ≡ false
false_differ xs ys never = differ (bytes_eq xs ys) xs ys refl never

all_zeros : (bytes : List ℕ) → list_all (λ b. eqb b 0) bytes ≡ true → bytes ≡ zeros (length bytes)
unfolding zeros
all_zeros [] h = refl
all_zeros (b ∷ bs) h =
    let parts = and_parts (eqb b 0) (list_all (λ b. eqb b 0) bs) h in
    ap (λ (x : ℕ). x ∷ bs) (eqb-true b 0 parts.0) ∙ ap (λ (xs : List ℕ). 0 ∷ xs) (all_zeros bs parts.1)

zeros_all : (n : ℕ) → list_all (λ b. eqb b 0) (zeros n) ≡ true
unfolding zeros
zeros_all zero = refl
zeros_all (suc n) = zeros_all n

pub are_zeros : (bytes : List ℕ) (n : ℕ) → length bytes ≡ n → list_all (λ b. eqb b 0) bytes ≡ true → bytes ≡ zeros n
are_zeros bytes n long h = all_zeros bytes h ∙ ap zeros long

pub no_zeros : (bytes : List ℕ) (n : ℕ) → bytes ≡ zeros n → list_all (λ b. eqb b 0) bytes ≡ false → ⊥
no_zeros bytes n e h = let yes : list_all (λ b. eqb b 0) bytes ≡ true = ap (list_all (λ b. eqb b 0)) e ∙ zeros_all n in absurd cc

-- ---- bytes

-- each number of a list is a byte
pub record AreBytes (b : List ℕ) : Type 0 where
  pub each : (i : ℕ) → get_or b i 0 < 256

take_bytes : (n : ℕ) (b : List ℕ) → ((i : ℕ) → get_or b i 0 < 256) → (i : ℕ) → get_or (take n b) i 0 < 256
take_bytes zero b h i = omega arith
take_bytes (suc n) [] h i = omega arith
take_bytes (suc n) (x ∷ xs) h zero = h 0
take_bytes (suc n) (x ∷ xs) h (suc i) = take_bytes n xs (λ j. h (suc j)) i

drop_bytes : (n : ℕ) (b : List ℕ) → ((i : ℕ) → get_or b i 0 < 256) → (i : ℕ) → get_or (drop n b) i 0 < 256
drop_bytes zero b h i = h i
drop_bytes (suc n) [] h i = omega arith
drop_bytes (suc n) (x ∷ xs) h i = drop_bytes n xs (λ j. h (suc j)) i

pub rest_bytes : (n : ℕ) (b : List ℕ) → AreBytes b → AreBytes (drop n b)
rest_bytes n b h = record { each = drop_bytes n b h.each }

pub le32_back : (at : ℕ) (b : List ℕ) → AreBytes b → at + 4 ≤ length b → le32 (number_at w32 at b) ≡ take 4 (drop at b)
le32_back at b h inside = le_bytes_4 (take 4 (drop at b)) (number_at w32 at b) (simp (length-take, length-drop) (omega arith))
    (take_bytes 4 (drop at b) (drop_bytes at b h.each)) refl

pub le64_back : (at : ℕ) (b : List ℕ) → AreBytes b → at + 8 ≤ length b → le64 (number_at w64 at b) ≡ take 8 (drop at b)
le64_back at b h inside = le_bytes_8 (take 8 (drop at b)) (number_at w64 at b) (simp (length-take, length-drop) (omega arith))
    (take_bytes 8 (drop at b) (drop_bytes at b h.each)) refl

-- ---- a row

four_pieces : (a b c d x y z : List ℕ) → a ≡ x → c ≡ y → d ≡ z → a ++ (b ++ (c ++ d)) ≡ x ++ (b ++ (y ++ z))
four_pieces a b c d x y z p q r = rw (p, q, r) refl

-- the first 24 bytes in pieces
row_pieces : (b : List ℕ) → take 24 b ≡ take 4 b ++ (take 4 (drop 4 b) ++ (take 8 (drop 8 b) ++ take 8 (drop 16 b)))
row_pieces b =
    let last : take 16 (drop 8 b) ≡ take 8 (drop 8 b) ++ take 8 (drop 16 b) = take-add 8 8 (drop 8 b)
    ∙ ap (λ (xs : List ℕ). take 8 (drop 8 b) ++ take 8 xs) (drop-drop 8 8 b) in
    let more : take 20 (drop 4 b) ≡ take 4 (drop 4 b) ++ (take 8 (drop 8 b) ++ take 8 (drop 16 b)) =
    take-add 4 16 (drop 4 b) ∙ ap (λ (xs : List ℕ). take 4 (drop 4 b) ++ take 16 xs) (drop-drop 4 4 b) ∙ ap (λ (xs : List ℕ). take 4 (drop 4 b) ++ xs) last in
    take-add 4 20 b ∙ ap (λ (xs : List ℕ). take 4 b ++ xs) more

row_spelling : (b : List ℕ) → AreBytes b → 24 ≤ length b → row_bytes (row_in b) ≡ take 4 b ++ (zeros 4 ++ (take 8 (drop 8 b) ++ take 8 (drop 16 b)))
unfolding zeros
row_spelling b h long =
    four_pieces (le32 (number_at w32 0 b)) (zeros 4) (le64 (number_at w64 8 b)) (le64 (number_at w64 16 b)) (take 4 b) (take 8 (drop 8 b)) (take 8 (drop 16 b))
    (le32_back 0 b h (omega arith)) (le64_back 8 b h (omega arith)) (le64_back 16 b h (omega arith))

by_test : (t : Bool) (xs ys : List ℕ) → (t ≡ true → xs ≡ ys) → (t ≡ false → xs ≡ ys → ⊥) → t ≡ bytes_eq xs ys
by_test true xs ys same never = sym (true_same xs ys (same refl))
by_test false xs ys same never = sym (false_differ xs ys (never refl))

-- pieces of one length that stand at one place of equal lists
same_middle : (a b c x y : List ℕ) → length b ≡ 4 → length c ≡ 4 → length a ≡ 4 → a ++ (b ++ x) ≡ a ++ (c ++ y) → b ≡ c
same_middle a b c x y b_long c_long a_long e =
    let rest : b ++ x ≡ c ++ y = sym (drop_at a (b ++ x) 4 a_long) ∙ ap (λ (xs : List ℕ). drop 4 xs) e ∙ drop_at a (c ++ y) 4 a_long in
    sym (take_at b x 4 b_long) ∙ ap (λ (xs : List ℕ). take 4 xs) rest ∙ take_at c y 4 c_long

-- whether a row is spelled is whether its four bytes between the numbers are 0
pub row_test : (b : List ℕ) → AreBytes b → 24 ≤ length b → list_all (λ x. eqb x 0) (take 4 (drop 4 b)) ≡ bytes_eq (row_bytes (row_in b)) (take 24 b)
row_test b h long =
    let short : length (take 4 (drop 4 b)) ≡ 4 = simp (length-take, length-drop) (omega arith) in
    let first : length (take 4 b) ≡ 4 = simp length-take (omega arith) in
    by_test (list_all (λ x. eqb x 0) (take 4 (drop 4 b))) (row_bytes (row_in b)) (take 24 b)
    (λ is. row_spelling b h long ∙ ap (λ (xs : List ℕ). take 4 b ++ (xs ++ (take 8 (drop 8 b) ++ take 8 (drop 16 b))))
    (sym (are_zeros (take 4 (drop 4 b)) 4 short is)) ∙ sym (row_pieces b))
    (λ isnt same.
    let middle : zeros 4 ≡ take 4 (drop 4 b) =
    same_middle (take 4 b) (zeros 4) (take 4 (drop 4 b)) (take 8 (drop 8 b) ++ take 8 (drop 16 b)) (take 8 (drop 8 b) ++ take 8 (drop 16 b))
    (zeros_length 4) short first (sym (row_spelling b h long) ∙ same ∙ row_pieces b) in
    no_zeros (take 4 (drop 4 b)) 4 (sym middle) isnt)
