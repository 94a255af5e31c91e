-- Lemmas on the words of Bytes.
use Rattle.std.proofs.Common.{List, ap, arith, drop, get_or, length, length-append, refl, suc, take, zero, ℕ, ◌++◌, ◌+◌, ◌-◌, ◌<◌, ◌^◌, ◌∙◌, ◌≡◌, ◌≤◌}
use Rattle.std.proofs.lemmas.List.{drop-take, length-replicate, take-take}
use Rattle.std.specs.Int.{Width, byte_len, from_le_bytes, w64}
use Rattle.std.specs.List.{repeat}
use Rattle.pblk_model.proofs.Numbers.{byte_is}
use Rattle.pblk_model.specs.Bytes.{le64, number_at, zeros}

pub zeros_length : (n : ℕ) → length (zeros n) ≡ n
unfolding zeros
zeros_length n = length-replicate n 0

pub with_zeros : (xs : List ℕ) (k n : ℕ) → length xs ≡ k → length (xs ++ zeros n) ≡ k + n
with_zeros xs k n h = omega (arith, length-append xs (zeros n), zeros_length n)

pub number_front : (w : Width) (o n : ℕ) (xs : List ℕ) → o + byte_len w ≤ n → number_at w o (take n xs) ≡ number_at w o xs
number_front w o n xs h =
    let split : n ≡ o + (n - o) = omega arith in
    let past : drop o (take n xs) ≡ take (n - o) (drop o xs) = ap (λ m. drop o (take m xs)) split ∙ drop-take o (n - o) xs in
    ap (λ ys. from_le_bytes w (take (byte_len w) ys)) past ∙ ap (from_le_bytes w) (take-take (byte_len w) (n - o) (drop o xs) (omega arith))

pub eight_bytes : (n : ℕ) (rest : List ℕ) → number_at w64 0 (le64 n ++ rest) < 2 ^ 64
eight_bytes n rest = omega (arith, byte_is 0 n, byte_is 1 n, byte_is 2 n, byte_is 3 n, byte_is 4 n, byte_is 5 n, byte_is 6 n, byte_is 7 n)

pub tag_below : (k n : ℕ) → number_at w64 0 (repeat k (le64 n)) < 2 ^ 64
tag_below zero n = omega arith
tag_below (suc k) n = eight_bytes n (repeat k (le64 n))

pub zeros_first : (n : ℕ) → get_or (take 8 (zeros n)) 0 0 ≡ 0
unfolding zeros
zeros_first zero = refl
zeros_first (suc n) = refl
