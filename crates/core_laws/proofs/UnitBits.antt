-- The units of a line as bits, and back.
use Rattle.std.proofs.Common.{◌≡◌, ℕ, ◌+◌, ◌-◌, ◌*◌, ◌^◌, ◌<◌, ◌≤◌, ◌%◌, zero, suc, nat_lt, Bool, true, false, cond, List, [], ◌∷◌, length, refl, sym, subst, ap, ap₂, ◌∙◌, arith}
use Rattle.std.specs.List.{filter, range_with_len}
use Rattle.std.specs.Int.{bit_at}
use Rattle.std.specs.Prelude.{nat_eq}
use lib.Pow.{pow_mono}
use Rattle.std.proofs.Math.Nat.{mod-eq_of_lt}
use Rattle.std.proofs.lemmas.Nat.{mod_below, mod-pow-add, pow_pos}
use Rattle.std.proofs.lemmas.List.Sums.{sum_by-append}
use Rattle.std.proofs.lemmas.Nat.Bits.{bit_at-lt, bit_at_lowest, bit_at_cat_low, bit_at_cat_high}
use Rattle.pblk_model.specs.Image.{Image, line_units}
use Rattle.pblk_layout.specs.Online.{is_in, units_in, is_online}
use Rattle.pblk_layout.proofs.Sets.{filter_more, shorter}
use Rattle.pblk_layout.proofs.LineBits.{has_chunk, line_bits, units_kept}
use Rattle.pblk_layout.proofs.LiveLemmas.{none_past}
use Rattle.core_laws.specs.OpenedLines.{bits_of}

-- ---- bits of the numbers that a test keeps

-- those below n
abbrev kept : (ℕ → Bool) → ℕ → List ℕ
kept p n = filter p (range_with_len 0 n)

abbrev as_bit : Bool → ℕ
as_bit b = cond b 1 0

last_bit : (b : Bool) (n : ℕ) → bits_of (cond b (n ∷ []) []) ≡ as_bit b * 2 ^ n
last_bit true n = omega arith
last_bit false n = omega arith

bits_more : (p : ℕ → Bool) (n : ℕ) → bits_of (kept p (suc n)) ≡ as_bit (p n) * 2 ^ n + bits_of (kept p n)
bits_more p n =
    let from : 0 + n ≡ n = omega arith in
    let both : bits_of (kept p (suc n)) ≡ bits_of (kept p n) + bits_of (cond (p (0 + n)) ((0 + n) ∷ []) []) =
    ap bits_of (filter_more p 0 n) ∙ sum_by-append (λ unit. 2 ^ unit) (kept p n) (cond (p (0 + n)) ((0 + n) ∷ []) []) in
    let last : bits_of (cond (p (0 + n)) ((0 + n) ∷ []) []) ≡ as_bit (p n) * 2 ^ n = ap (λ k. bits_of (cond (p k) (k ∷ []) [])) from ∙ last_bit (p n) n in
    omega arith

pub bits_kept : (p : ℕ → Bool) (n : ℕ) → bits_of (filter p (range_with_len 0 (suc n))) ≡ bits_of (filter p (range_with_len 0 n)) + cond (p n) (2 ^ n) 0
bits_kept p n = bits_more p n ∙ go (p n) (bits_of (kept p n))
  where
    go : (b : Bool) (m : ℕ) → as_bit b * 2 ^ n + m ≡ m + cond b (2 ^ n) 0
    go true m = omega arith
    go false m = omega arith

pub kept_below : (p : ℕ → Bool) (n : ℕ) → bits_of (kept p n) < 2 ^ n
kept_below p zero = omega arith
kept_below p (suc n) = go (p n) (kept_below p n) (bits_more p n)
  where
    go : (b : Bool) → bits_of (kept p n) < 2 ^ n → bits_of (kept p (suc n)) ≡ as_bit b * 2 ^ n + bits_of (kept p n) → bits_of (kept p (suc n)) < 2 ^ suc n
    go true h e = let double : 2 ^ suc n ≡ 2 ^ n + 2 ^ n = omega arith in omega arith
    go false h e = let double : 2 ^ suc n ≡ 2 ^ n + 2 ^ n = omega arith in omega arith

as_bit_is : (b : ℕ) → b < 2 → as_bit (nat_eq b 1) ≡ b
as_bit_is zero h = refl
as_bit_is (suc zero) h = refl
as_bit_is (suc (suc b)) h = absurd (omega arith)

-- the low bits of a number are those of its units
low_bits : (live n : ℕ) → bits_of (kept (is_in live) n) ≡ live % 2 ^ n
low_bits live zero = omega (arith, mod_below live (2 ^ 0) (pow_pos 0))
low_bits live (suc n) =
    let next : suc n ≡ 1 + n = omega arith in
    let whole : live % 2 ^ suc n ≡ bit_at live n * 2 ^ n + live % 2 ^ n = ap (λ k. live % 2 ^ k) next ∙ mod-pow-add live 1 n in
    bits_more (is_in live) n ∙ ap₂ (λ b m. b * 2 ^ n + m) (as_bit_is (bit_at live n) (bit_at-lt live n)) (low_bits live n) ∙ sym whole

-- a set's units make its number
pub bits_again : (live n : ℕ) → n ≤ 64 → live < 2 ^ n → bits_of (units_in live) ≡ live
unfolding units_in
bits_again live n few low =
    let fits : live < 2 ^ 64 = omega (arith, pow_mono few) in
    low_bits live 64 ∙ mod-eq_of_lt fits

one_is : (b : Bool) → nat_eq (as_bit b) 1 ≡ b
one_is true = refl
one_is false = refl

low_bit : (b : Bool) → as_bit b % 2 ≡ as_bit b
low_bit true = refl
low_bit false = refl

-- bit u of them
pub bit_is : (p : ℕ → Bool) (n u : ℕ) → u < n → is_in (bits_of (kept p n)) u ≡ p u
bit_is p zero u h = absurd (omega arith)
bit_is p (suc n) u h = go (nat_lt u n) refl (λ inside. bit_is p n u inside)
  where
    go : (b : Bool) → nat_lt u n ≡ b → (u < n → is_in (bits_of (kept p n)) u ≡ p u) → is_in (bits_of (kept p (suc n))) u ≡ p u
    go true e rest =
        let inside : u < n = grind arith in
        ap (λ m. nat_eq (bit_at m u) 1) (bits_more p n) ∙ ap (λ k. nat_eq k 1) (bit_at_cat_low (as_bit (p n)) n (bits_of (kept p n)) u inside) ∙ rest inside
    go false e rest =
        let above : n ≤ u = grind arith in
        let same : u ≡ n = omega arith in
        let left : n - n ≡ 0 = omega arith in
        let within : n ≤ n = omega arith in
        ap (is_in (bits_of (kept p (suc n)))) same
        ∙ ap (λ m. nat_eq (bit_at m n) 1) (bits_more p n)
        ∙ ap (λ k. nat_eq k 1) (bit_at_cat_high (as_bit (p n)) n (bits_of (kept p n)) n (kept_below p n) within ∙ ap (bit_at (as_bit (p n))) left
        ∙ bit_at_lowest (as_bit (p n)) ∙ low_bit (p n))
        ∙ one_is (p n) ∙ ap p (sym same)

-- ---- the units of a line

-- the units that have a chunk of the line are those for which the test says so
pub units_are : (i : Image) (line : ℕ) (p : ℕ → Bool) → length i.units ≤ 64 → ((unit : ℕ) → p unit ≡ is_online i line unit)
    → line_units i line ≡ filter p (range_with_len 0 64)
unfolding has_chunk
units_are i line p few same = sym (units_kept line p 0 64 i.units few (λ k l. let place : 0 + k ≡ k = omega arith in ap p place ∙ same k))

-- the units of a line come back from their bits
pub bits_back : (i : Image) (line : ℕ) → length i.units ≤ 64 → units_in (bits_of (line_units i line)) ≡ line_units i line
bits_back i line few =
    let bits : bits_of (line_units i line) ≡ bits_of (kept (is_online i line) 64) = ap bits_of (units_are i line (is_online i line) few (λ unit. refl)) in
    line_bits i line (bits_of (line_units i line)) few (λ unit inside. ap (λ m. is_in m unit) bits ∙ bit_is (is_online i line) 64 unit inside)

-- they are those below the number of units that have a chunk of it
pub units_below : (i : Image) (line : ℕ) → length i.units ≤ 64 → line_units i line ≡ filter (is_online i line) (range_with_len 0 (length i.units))
units_below i line few =
    let all : length i.units + (64 - length i.units) ≡ 64 = omega arith in
    units_are i line (is_online i line) few (λ unit. refl) ∙ ap (λ n. filter (is_online i line) (range_with_len 0 n)) (sym all)
    ∙ shorter (is_online i line) (length i.units) (64 - length i.units) (λ k past. none_past i line k past)

pub bits_few : (i : Image) (line : ℕ) → length i.units ≤ 64 → bits_of (line_units i line) < 2 ^ length i.units
bits_few i line few = subst (λ us. bits_of us < 2 ^ length i.units) (sym (units_below i line few)) (kept_below (is_online i line) (length i.units))
