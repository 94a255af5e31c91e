-- How many powers of two are below a count.
use Rattle.std.proofs.Common.{◌≡◌, ℕ, suc, ◌+◌, ◌*◌, ◌%◌, ◌<◌, ◌≤◌, ◌^◌, Bool, true, false, nat_lt, [], ◌∷◌, ◌++◌, length, refl, ap, ◌∙◌, if◌then◌else◌, add-one, arith}
use Rattle.std.specs.List.{filter, range_with_len}
use Rattle.std.proofs.lemmas.List.Elements.{filter-append}
use Rattle.std.proofs.lemmas.Nat.{pow_below}
use Rattle.std.proofs.Math.Nat.{mod-eq_of_lt}
use Rattle.std.proofs.lemmas.Bool.{lt-ltb, le-ltb}
use Rattle.std.proofs.lemmas.List.FromFn.{length-range_with_len}
use Rattle.std.proofs.lemmas.List.Sums.{length-filter, count_by-le-length}
use Rattle.std.proofs.lemmas.List.{length-append}
use Rattle.pblk_model.proofs.Maps.{range_more}

-- those among the first n
abbrev pub below : ℕ → ℕ → ℕ
below count n = length (filter (λ k. nat_lt (2 ^ k) count) (range_with_len 0 n))

pub below_more : (count n : ℕ) → below count (n + 1) ≡ below count n + length (filter (λ k. nat_lt (2 ^ k) count) (n ∷ []))
below_more count n = let p : ℕ → Bool = λ k. nat_lt (2 ^ k) count in
    ap (λ m. length (filter p (range_with_len 0 m))) {y = suc n} (add-one n)
    ∙ ap (λ xs. length (filter p xs)) (range_more 0 n ∙ ap (λ b. range_with_len 0 n ++ b ∷ []) {y = n} (omega arith))
    ∙ ap length (filter-append p (range_with_len 0 n) (n ∷ []))
    ∙ length-append (filter p (range_with_len 0 n)) (filter p (n ∷ []))

-- a power that is shifted to, without what overflows
pub shifted : (n : ℕ) → n < 32 → 1 * 2 ^ n % 18446744073709551616 ≡ 2 ^ n
shifted n h = let few : 2 ^ n < 4294967296 = pow_below n 32 h in
    ap (λ x. x % 18446744073709551616) (omega arith) ∙ mod-eq_of_lt (omega (arith, few))

counted_yes : (b : Bool) (n bits : ℕ) → b ≡ true → bits + length (if b then n ∷ [] else []) ≡ bits + 1
counted_yes true n bits h = refl
counted_yes false n bits h = absurd (cc)

counted_no : (b : Bool) (n bits : ℕ) → b ≡ false → bits + length (if b then n ∷ [] else []) ≡ bits
counted_no false n bits h = omega arith
counted_no true n bits h = absurd (cc)

pub one_more : (count n : ℕ) → 2 ^ n < count → below count (n + 1) ≡ below count n + 1
one_more count n h = below_more count n ∙ counted_yes (nat_lt (2 ^ n) count) n (below count n) (lt-ltb (2 ^ n) count h)

pub none_more : (count n : ℕ) → count ≤ 2 ^ n → below count (n + 1) ≡ below count n
none_more count n h = below_more count n ∙ counted_no (nat_lt (2 ^ n) count) n (below count n) (le-ltb (2 ^ n) count h)

-- never more than were looked at
pub few : (count n : ℕ) → below count n ≤ n
few count n = let p : ℕ → Bool = λ k. nat_lt (2 ^ k) count in
    omega (arith, length-filter p (range_with_len 0 n), count_by-le-length p (range_with_len 0 n), length-range_with_len 0 n)
