-- Lemmas on the words of Own.
use Rattle.std.proofs.Common.{List, [], ap, arith, drop, length, refl, suc, take, zero, ℕ, ◌*◌, ◌++◌, ◌+◌, ◌∙◌, ◌∷◌, ◌≡◌, ◌≤◌}
use Rattle.std.proofs.lemmas.List.{drop-append-le, length-drop, take-append-le}
use Rattle.block_port.specs.Own.{placed_from, sectors_of}
use Rattle.pblk_model.proofs.Numbers.{suc-times}

-- two runs of sectors, one after the other
pub sectors_append : (size k n : ℕ) (front rest : List ℕ) → length front ≡ k * size
    → sectors_of size (k + n) (front ++ rest) ≡ sectors_of size k front ++ sectors_of size n rest
unfolding sectors_of
sectors_append size zero n [] rest h = let e : 0 + n ≡ n = omega arith in rw e refl
sectors_append size zero n (b ∷ front) rest h = absurd (omega (arith, h))
sectors_append size (suc k) n front rest h =
    let e : suc k + n ≡ suc (k + n) = omega arith in
    let long : length front ≡ size + k * size = h ∙ suc-times k size in
    let within : size ≤ length front = omega (arith, long) in
    let left : length (drop size front) ≡ k * size = length-drop size front ∙ omega (arith, long) in
    rw (e, take-append-le size front rest within, drop-append-le size front rest within)
    (ap (λ ss. take size front ∷ ss) (sectors_append size k n (drop size front) rest left))

pub cut_none : (size : ℕ) (bytes : List ℕ) → sectors_of size 0 bytes ≡ []
unfolding sectors_of
cut_none size bytes = refl

pub length_sectors : (size n : ℕ) (bytes : List ℕ) → length (sectors_of size n bytes) ≡ n
unfolding sectors_of
length_sectors size zero bytes = refl
length_sectors size (suc n) bytes = ap suc (length_sectors size n (drop size bytes))

pub length_placed : (position lba : ℕ) (sectors : List (List ℕ)) → length (placed_from position lba sectors) ≡ length sectors
length_placed position lba [] = refl
length_placed position lba (s ∷ sectors) = ap suc (length_placed (position + 1) (lba + 1) sectors)
