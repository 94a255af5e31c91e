-- A frame whose bytes were lent and written.
use Rattle.std.proofs.Common.{◌≡◌, ℕ, zero, suc, ◌+◌, ◌≤◌, List, [], ◌∷◌, ◌++◌, take, drop, length, refl, sym, ap, ◌∙◌, arith, le_refl}
use Rattle.std.proofs.lemmas.List.{take-take, take-append-le, length-append}
use lib.ListN.{length-drop}

-- to write over the beginning of a list is to write over the beginning of its first part
over_first : (n : ℕ) (w xs : List ℕ) → take n (w ++ drop (length w) xs) ≡ take n (w ++ drop (length w) (take n xs))
over_first n [] xs = sym (take-take n n xs (le_refl n))
over_first zero (y ∷ w) xs = refl
over_first (suc n) (y ∷ w) [] = refl
over_first (suc n) (y ∷ w) (x ∷ xs) = ap (λ l. y ∷ l) (over_first n w xs)

pub lent_bytes : (size len : ℕ) (w xs rest : List ℕ) → size ≤ len → length xs ≡ len
    → take size (take len ((w ++ drop (length w) xs) ++ rest)) ≡ take size (w ++ drop (length w) (take size xs))
lent_bytes size len w xs rest le long =
    let all = w ++ drop (length w) xs in
    let count : length all ≡ length w + length (drop (length w) xs) = length-append w (drop (length w) xs) in
    let more = length-drop (length w) xs in
    take-take size len (all ++ rest) le ∙ take-append-le size all rest (omega arith) ∙ over_first size w xs
