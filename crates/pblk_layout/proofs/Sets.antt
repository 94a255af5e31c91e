-- Sets of units as bits.
use Rattle.std.proofs.Common.{◌≡◌, ℕ, ◌+◌, ◌-◌, ◌*◌, ◌/◌, ◌%◌, ◌^◌, ◌<◌, ◌≤◌, zero, suc, Bool, true, false, cond, eqb, Option, Some, None, List, [], ◌∷◌, ◌++◌, length, refl, sym, ap, ◌∙◌, arith, length-append, add-zero, append-nil}
use Rattle.std.specs.List.{slice_get, filter, range_with_len}
use Rattle.std.specs.Int.{bit_at}
use Rattle.std.specs.Prelude.{count_ones}
use lib.Count.{ones}
use Rattle.std.proofs.Math.Nat.{mod-eq_of_lt}
use Rattle.std.proofs.lemmas.Bool.{eqb-true}
use Rattle.std.proofs.lemmas.Nat.{ones_cat, mod-pow-add, mod_below, pow_pos, ones-le}
use Rattle.std.proofs.lemmas.Nat.Bits.{bit_at-lt, bit_at_above}
use Rattle.std.proofs.lemmas.Option.{none-some, same_Some}
use Rattle.pblk_layout.specs.Online.{is_in, units_below, units_in}

-- ---- numbers that a test keeps

-- one more
keep_more : (b c : Bool) (x y : ℕ) (xs ys : List ℕ) → b ≡ c → x ≡ y → xs ≡ ys → cond b (x ∷ xs) xs ≡ cond c (y ∷ ys) ys
keep_more b c x y xs ys p q r = rw (p, q, r) refl

append_kept : (b : Bool) (x : ℕ) (xs ys : List ℕ) → cond b (x ∷ (xs ++ ys)) (xs ++ ys) ≡ cond b (x ∷ xs) xs ++ ys
append_kept true x xs ys = refl
append_kept false x xs ys = refl

pub filter_more : (p : ℕ → Bool) (a n : ℕ) → filter p (range_with_len a (suc n)) ≡ filter p (range_with_len a n) ++ cond (p (a + n)) ((a + n) ∷ []) []
filter_more p a zero = keep_more (p a) (p (a + 0)) a (a + 0) [] [] (ap p (sym (add-zero a))) (sym (add-zero a)) refl
filter_more p a (suc n) =
    let place : a + 1 + n ≡ a + suc n = omega arith in
    let rest : filter p (range_with_len (a + 1) (suc n)) ≡ filter p (range_with_len (a + 1) n) ++ cond (p (a + suc n)) ((a + suc n) ∷ []) [] =
    filter_more p (a + 1) n ∙ ap (λ x. filter p (range_with_len (a + 1) n) ++ cond (p x) (x ∷ []) []) place in
    ap (λ xs. cond (p a) (a ∷ xs) xs) rest ∙ append_kept (p a) a (filter p (range_with_len (a + 1) n)) (cond (p (a + suc n)) ((a + suc n) ∷ []) [])

-- a test that nothing passes from n on
pub shorter : (p : ℕ → Bool) (n m : ℕ) → ((k : ℕ) → n ≤ k → p k ≡ false) → filter p (range_with_len 0 (n + m)) ≡ filter p (range_with_len 0 n)
shorter p n zero none = let same : n + 0 ≡ n = omega arith in ap (λ k. filter p (range_with_len 0 k)) same
shorter p n (suc m) none =
    let next : n + suc m ≡ suc (n + m) = omega arith in
    let from : 0 + (n + m) ≡ n + m = omega arith in
    ap (λ k. filter p (range_with_len 0 k)) next ∙ filter_more p 0 (n + m)
    ∙ ap (λ b. filter p (range_with_len 0 (n + m)) ++ cond b ((0 + (n + m)) ∷ []) []) (ap p from ∙ none (n + m) (omega arith))
    ∙ append-nil (filter p (range_with_len 0 (n + m))) ∙ shorter p n m none

both_kept : (b : Bool) (x : ℕ) (xs ys : List ℕ) (r : Option ℕ) → slice_get xs (length ys) ≡ r → slice_get (cond b (x ∷ xs) xs) (length (cond b (x ∷ ys) ys)) ≡ r
both_kept true x xs ys r h = h
both_kept false x xs ys r h = h

kept_first : (b : Bool) (x : ℕ) (xs : List ℕ) → b ≡ true → slice_get (cond b (x ∷ xs) xs) 0 ≡ Some x
kept_first true x xs h = refl
kept_first false x xs h = absurd cc

-- a number that is kept stands behind those below it that are
pub at_rank : (p : ℕ → Bool) (a n k : ℕ) → k < n → p (a + k) ≡ true
    → slice_get (filter p (range_with_len a n)) (length (filter p (range_with_len a k))) ≡ Some (a + k)
at_rank p a zero k below h = absurd (omega arith)
at_rank p a (suc n) zero below h = kept_first (p a) a (filter p (range_with_len (a + 1) n)) (ap p (sym (add-zero a)) ∙ h) ∙ ap Some (sym (add-zero a))
at_rank p a (suc n) (suc k) below h =
    let place : a + 1 + k ≡ a + suc k = omega arith in
    both_kept (p a) a (filter p (range_with_len (a + 1) n)) (filter p (range_with_len (a + 1) k)) (Some (a + suc k))
    (at_rank p (a + 1) n k (omega arith) (ap p place ∙ h) ∙ ap Some place)

-- what stands there is kept, and has as many before it
pub record IsKept (p : ℕ → Bool) (a n u j : ℕ) : Type 0 where
  pub k : ℕ
  pub is : u ≡ a + k
  pub below : k < n
  pub kept : p u ≡ true
  pub rank : j ≡ length (filter p (range_with_len a k))

kept_case : (p : ℕ → Bool) (a n u j : ℕ) (b : Bool) → b ≡ p a
    → slice_get (cond b (a ∷ filter p (range_with_len (a + 1) n)) (filter p (range_with_len (a + 1) n))) j ≡ Some u
    → ((i : ℕ) → slice_get (filter p (range_with_len (a + 1) n)) i ≡ Some u → IsKept p (a + 1) n u i) → IsKept p a (suc n) u j
kept_case p a n u zero true e h later = record {
  k = 0;
  is = omega (arith, same_Some a u h);
  below = omega arith;
  kept = ap p (sym (same_Some a u h)) ∙ sym e;
  rank = refl;
}
kept_case p a n u (suc j) true e h later =
    let r : IsKept p (a + 1) n u j = later j h in
    record {
      k = suc r.k;
      is = omega (arith, r.is);
      below = omega (arith, r.below);
      kept = r.kept;
      rank = ap suc r.rank ∙ ap (λ b. length (cond b (a ∷ filter p (range_with_len (a + 1) r.k)) (filter p (range_with_len (a + 1) r.k)))) e;
    }
kept_case p a n u j false e h later =
    let r : IsKept p (a + 1) n u j = later j h in
    record {
      k = suc r.k;
      is = omega (arith, r.is);
      below = omega (arith, r.below);
      kept = r.kept;
      rank = r.rank ∙ ap (λ b. length (cond b (a ∷ filter p (range_with_len (a + 1) r.k)) (filter p (range_with_len (a + 1) r.k)))) e;
    }

pub kept_at : (p : ℕ → Bool) (a n u j : ℕ) → slice_get (filter p (range_with_len a n)) j ≡ Some u → IsKept p a n u j
kept_at p a zero u j h = absurd (none-some u h)
kept_at p a (suc n) u j h = kept_case p a n u j (p a) refl h (λ i there. kept_at p (a + 1) n u i there)

-- ---- the bits of a number

-- how long a list is with one more number or without
pub length_kept : (b : Bool) (x : ℕ) → length (cond b (x ∷ []) []) ≡ cond b 1 0
length_kept true x = refl
length_kept false x = refl

ones_bit : (b : ℕ) → b < 2 → count_ones b ≡ cond (eqb b 1) 1 0
unfolding ones
ones_bit zero h = refl
ones_bit (suc zero) h = refl
ones_bit (suc (suc b)) h = absurd (omega arith)

-- the bits below a place
no_ones : (n : ℕ) → n ≡ 0 → count_ones n ≡ 0
unfolding ones
no_ones n e = ap count_ones e

pub ones_below : (m d : ℕ) → count_ones (m % 2 ^ d) ≡ length (units_below m d)
ones_below m zero = no_ones (m % 2 ^ 0) (omega (arith, mod_below m (2 ^ 0) (pow_pos 0)))
ones_below m (suc d) =
    let parts : m % 2 ^ (1 + d) ≡ (m / 2 ^ d % 2 ^ 1) * 2 ^ d + m % 2 ^ d = mod-pow-add m 1 d in
    let one : suc d ≡ 1 + d = omega arith in
    let whole : m % 2 ^ suc d ≡ bit_at m d * 2 ^ d + m % 2 ^ d = ap (λ k. m % 2 ^ k) one ∙ parts in
    let split : count_ones (bit_at m d * 2 ^ d + m % 2 ^ d) ≡ count_ones (bit_at m d) + count_ones (m % 2 ^ d) =
    ones_cat d (bit_at m d) (m % 2 ^ d) (mod_below (m) (2 ^ d) (pow_pos d)) in
    let zero_first : 0 + d ≡ d = omega arith in
    let more : length (units_below m (suc d)) ≡ length (units_below m d) + cond (is_in m d) 1 0 =
    ap length (filter_more (is_in m) 0 d) ∙ length-append (units_below m d) (cond (is_in m (0 + d)) ((0 + d) ∷ []) [])
    ∙ ap (λ n. length (units_below m d) + n) (length_kept (is_in m (0 + d)) (0 + d))
    ∙ ap (λ x. length (units_below m d) + cond (is_in m x) 1 0) zero_first in
    let bit : count_ones (bit_at m d) ≡ cond (is_in m d) 1 0 = ones_bit (bit_at m d) (bit_at-lt m d) in
    let below : count_ones (m % 2 ^ d) ≡ length (units_below m d) = ones_below m d in
    ap count_ones whole ∙ split ∙ omega arith

-- ---- the loop over the units

-- a unit's bit as a test
pub none_above : (m unit : ℕ) → m < 2 ^ 64 → 64 ≤ unit → false ≡ is_in m unit
none_above m unit h far = ap (λ b. eqb b 1) (sym (bit_at_above m 64 unit h far))

-- what is left of the units from one on
abbrev pub units_from : ℕ → ℕ → List ℕ
units_from online unit = filter (is_in online) (range_with_len unit (64 - unit))

one_on : (online unit : ℕ) → unit < 64 → units_from online unit ≡ cond (is_in online unit) (unit ∷ units_from online (unit + 1)) (units_from online (unit + 1))
one_on online unit h =
    let k : 64 - unit ≡ suc (64 - (unit + 1)) = omega arith in
    ap (λ n. filter (is_in online) (range_with_len unit n)) k

pub here : (online unit left n : ℕ) → unit < 64 → is_in online unit ≡ true → left ≡ 0 → slice_get (units_from online unit) left ≡ slice_get (units_in online) n
    → slice_get (units_in online) n ≡ Some unit
unfolding units_in
here online unit left n inside is none so_far =
    sym so_far ∙ ap (slice_get (units_from online unit)) none ∙ ap (λ xs. slice_get xs 0) (one_on online unit inside)
    ∙ kept_first (is_in online unit) unit (units_from online (unit + 1)) is

pub behind : (online unit left n : ℕ) → unit < 64 → is_in online unit ≡ true → 0 < left
    → slice_get (units_from online unit) left ≡ slice_get (units_in online) n
    → slice_get (units_from online (unit + 1)) (left - 1) ≡ slice_get (units_in online) n
behind online unit left n inside is some so_far =
    let k : left ≡ suc (left - 1) = omega arith in
    let now : slice_get (units_from online unit) left ≡ slice_get (units_from online (unit + 1)) (left - 1) =
    ap (slice_get (units_from online unit)) k ∙ ap (λ xs. slice_get xs (suc (left - 1))) (one_on online unit inside)
    ∙ ap (λ b. slice_get (cond b (unit ∷ units_from online (unit + 1)) (units_from online (unit + 1))) (suc (left - 1))) is in
    sym now ∙ so_far

pub without : (online unit left n : ℕ) → unit < 64 → is_in online unit ≡ false → slice_get (units_from online unit) left ≡ slice_get (units_in online) n
    → slice_get (units_from online (unit + 1)) left ≡ slice_get (units_in online) n
without online unit left n inside is so_far =
    let now : slice_get (units_from online unit) left ≡ slice_get (units_from online (unit + 1)) left =
    ap (λ xs. slice_get xs left) (one_on online unit inside)
    ∙ ap (λ b. slice_get (cond b (unit ∷ units_from online (unit + 1)) (units_from online (unit + 1))) left) is in
    sym now ∙ so_far

pub from_first : (online n : ℕ) → slice_get (units_from online 0) n ≡ slice_get (units_in online) n
unfolding units_in
from_first online n = refl

-- how many there are
pub count_is : (online : ℕ) → online < 2 ^ 64 → count_ones online ≡ length (units_in online)
unfolding units_in
count_is online h = let same : online % 2 ^ 64 ≡ online = mod-eq_of_lt h in ap count_ones (sym same) ∙ ones_below online 64

-- ---- ranks

pub rank_is : (online unit : ℕ) → unit < 64 → is_in online unit ≡ true → slice_get (units_in online) (length (units_below online unit)) ≡ Some unit
unfolding units_in
rank_is online unit below is = at_rank (is_in online) 0 64 unit below (ap (is_in online) (omega arith) ∙ is) ∙ ap Some (omega arith)

pub member : (online unit j : ℕ) → slice_get (units_in online) j ≡ Some unit → (unit < 64) × (is_in online unit ≡ true) × (j ≡ length (units_below online unit))
unfolding units_in
member online unit j h =
    let r : IsKept (is_in online) 0 64 unit j = kept_at (is_in online) 0 64 unit j h in
    let k : r.k ≡ unit = omega (arith, r.is) in
    (omega (arith, r.below), r.kept, r.rank ∙ ap (λ x. length (units_below online x)) k)

pub get_within : (xs : List ℕ) (k : ℕ) → k < length xs → (x : ℕ) × (slice_get xs k ≡ Some x)
get_within [] k h = absurd (omega arith)
get_within (x ∷ xs) zero h = (x, refl)
get_within (x ∷ xs) (suc k) h = get_within xs k (omega arith)

pub none_left : (online unit left n : ℕ) → 64 ≤ unit → n < length (units_in online) → slice_get (units_from online unit) left ≡ slice_get (units_in online) n
    → ⊥
unfolding units_in
none_left online unit left n far inside so_far =
    let k : 64 - unit ≡ 0 = omega arith in
    let there = get_within (units_in online) n inside in
    let none : slice_get (units_from online unit) left ≡ None = ap (λ m. slice_get (filter (is_in online) (range_with_len unit m)) left) k in
    none-some there.0 (sym none ∙ so_far ∙ there.1)

pub bit_zero : (online unit : ℕ) → is_in online unit ≡ false → bit_at online unit ≡ 0
bit_zero online unit h = no_one (bit_at online unit) (bit_at-lt online unit) h where
  no_one : (b : ℕ) → b < 2 → eqb b 1 ≡ false → b ≡ 0
  no_one zero l e = refl
  no_one (suc zero) l e = absurd cc
  no_one (suc (suc b)) l e = absurd (omega arith)

pub bit_one : (online unit : ℕ) → is_in online unit ≡ true → bit_at online unit ≡ 1
bit_one online unit h = eqb-true (bit_at online unit) 1 h

pub few_units : (online n : ℕ) → online < 2 ^ 64 → online < 2 ^ n → length (units_in online) ≤ n
few_units online n word below = omega (arith, count_is online word, ones-le n online below)
