-- The units of a line as bits: the least one, and those that are left without it.
use Rattle.std.proofs.Common.{◌≡◌, ◌≢◌, ℕ, ◌+◌, ◌-◌, ◌*◌, ◌/◌, ◌%◌, ◌^◌, ◌<◌, ◌≤◌, ◌⊎◌, inl, inr, zero, suc, true, eqb, Some, List, [], ◌∷◌, drop, length, refl, sym, ap, ◌∙◌, arith, le_refl}
use Rattle.std.specs.Int.{bit_at, trailing_zeros, w64}
use Rattle.std.specs.List.{slice_get}
use Rattle.std.proofs.Math.Nat.{pow-suc}
use Rattle.std.proofs.lemmas.Bool.{cases_lt}
use Rattle.std.proofs.lemmas.Nat.Bits.{bit_at-suc, bit_at-trailing_zeros, bit_at-zero, bit_at_above, bit_at_lowest}
use Rattle.std.proofs.lemmas.Option.{none-some, same_Some}
use Rattle.pblk_model.proofs.Lists.{nil_cons}
use Rattle.pblk_model.proofs.Maps.{none_kept}
use Rattle.pblk_layout.specs.Online.{is_in, units_below, units_in}
use Rattle.pblk_layout.proofs.Sets.{bit_one, rank_is}
use Rattle.pblk_core.proofs.FirstReset.{IsFirstPassed, first_passed}

-- ---- a number without a bit that it has

power_within : (n u : ℕ) → bit_at n u ≡ 1 → 2 ^ u ≤ n
power_within n u is = go (cases_lt n (2 ^ u))
  where
    go : (n < 2 ^ u) ⊎ (2 ^ u ≤ n) → 2 ^ u ≤ n
    go (inl low) = let none : bit_at n u ≡ 0 = bit_at_above n u u low (le_refl u) in absurd (omega arith)
    go (inr high) = high

-- its halves
half_without : (n p : ℕ) → p ≤ n / 2 → (n - p * 2) / 2 ≡ n / 2 - p
half_without n p low = omega arith

rest_without : (n p : ℕ) → p ≤ n / 2 → (n - p * 2) % 2 ≡ n % 2
rest_without n p low = omega arith

pub bit_cleared : (n u : ℕ) → bit_at n u ≡ 1 → bit_at (n - 2 ^ u) u ≡ 0
bit_cleared n zero is =
    let odd : n % 2 ≡ 1 = sym (bit_at_lowest n) ∙ is in
    let even : (n - 1) % 2 ≡ 0 = omega arith in
    bit_at_lowest (n - 1) ∙ even
bit_cleared n (suc u) is =
    let half : bit_at (n / 2) u ≡ 1 = sym (bit_at-suc n u) ∙ is in
    ap (λ p. bit_at (n - p) (suc u)) (pow-suc 2 u) ∙ bit_at-suc (n - 2 ^ u * 2) u
    ∙ ap (λ m. bit_at m u) (half_without n (2 ^ u) (power_within (n / 2) u half)) ∙ bit_cleared (n / 2) u half

pub bit_stays : (n u i : ℕ) → bit_at n u ≡ 1 → i ≢ u → bit_at (n - 2 ^ u) i ≡ bit_at n i
bit_stays n zero zero is apart = absurd (apart refl)
bit_stays n zero (suc i) is apart =
    let odd : n % 2 ≡ 1 = sym (bit_at_lowest n) ∙ is in
    let half : (n - 1) / 2 ≡ n / 2 = omega arith in
    bit_at-suc (n - 1) i ∙ ap (λ m. bit_at m i) half ∙ sym (bit_at-suc n i)
bit_stays n (suc u) zero is apart =
    let half : bit_at (n / 2) u ≡ 1 = sym (bit_at-suc n u) ∙ is in
    ap (λ p. bit_at (n - p) 0) (pow-suc 2 u) ∙ bit_at_lowest (n - 2 ^ u * 2)
    ∙ rest_without n (2 ^ u) (power_within (n / 2) u half) ∙ sym (bit_at_lowest n)
bit_stays n (suc u) (suc i) is apart =
    let half : bit_at (n / 2) u ≡ 1 = sym (bit_at-suc n u) ∙ is in
    ap (λ p. bit_at (n - p) (suc i)) (pow-suc 2 u) ∙ bit_at-suc (n - 2 ^ u * 2) i
    ∙ ap (λ m. bit_at m i) (half_without n (2 ^ u) (power_within (n / 2) u half)) ∙ bit_stays (n / 2) u i half (λ e. apart (ap suc e)) ∙ sym (bit_at-suc n i)

-- ---- the first unit

pub record IsFirstUnit (n u : ℕ) (us : List ℕ) : Type 0 where
  pub inside : u < 64
  pub among : is_in n u ≡ true
  pub rest : units_in (n - 2 ^ u) ≡ us

pub first_unit : (n u : ℕ) (us : List ℕ) → units_in n ≡ u ∷ us → IsFirstUnit n u us
unfolding units_in
first_unit n u us e =
    let first : IsFirstPassed (is_in n) 0 64 u us = first_passed (is_in n) 0 64 u us e in
    let bit : bit_at n u ≡ 1 = bit_one n u first.passes in
    let inside : u < 0 + 64 = first.inside in
    record {
      inside = omega arith;
      among = first.passes;
      rest = first.others (is_in (n - 2 ^ u)) (ap (λ b. eqb b 1) (bit_cleared n u bit)) (λ k apart. ap (λ b. eqb b 1) (bit_stays n u k bit apart));
    }

-- a number of no bits has none
pub no_unit : units_in 0 ≡ []
unfolding units_in
no_unit = none_kept (is_in 0) 0 64 (λ k inside. ap (λ b. eqb b 1) (bit_at-zero (0 + k)))

split : (xs : List ℕ) (x : ℕ) → slice_get xs 0 ≡ Some x → xs ≡ x ∷ drop 1 xs
split [] x e = absurd (none-some x e)
split (y ∷ ys) x e = ap (λ z. z ∷ ys) (same_Some y x e)

-- the least bit of another is its first unit
pub least_unit : (n : ℕ) → 0 < n → n < 2 ^ 64 → units_in n ≡ trailing_zeros w64 n ∷ drop 1 (units_in n)
least_unit n some small =
    let least = bit_at-trailing_zeros w64 n some small in
    let none : units_below n (trailing_zeros w64 n) ≡ [] =
    none_kept (is_in n) 0 (trailing_zeros w64 n) (λ k below. let at : 0 + k ≡ k = omega arith in
    ap (is_in n) at ∙ ap (λ b. eqb b 1) (least.2 k below)) in
    split (units_in n) (trailing_zeros w64 n)
    (ap (λ us. slice_get (units_in n) (length us)) (sym none)
    ∙ rank_is n (trailing_zeros w64 n) least.0 (ap (λ b. eqb b 1) least.1))

pub some_unit : (n : ℕ) → 0 < n → n < 2 ^ 64 → units_in n ≢ []
some_unit n some small none = nil_cons (trailing_zeros w64 n) (drop 1 (units_in n)) (sym none ∙ least_unit n some small)

pub some_bit : (n : ℕ) → units_in n ≢ [] → 0 < n
some_bit zero some = absurd (some no_unit)
some_bit (suc n) some = omega arith
