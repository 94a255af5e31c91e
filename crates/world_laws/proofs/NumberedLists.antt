-- Lists by place, and lists that are made of numbers in order.
use Rattle.std.proofs.Common.{◌≡◌, ℕ, ◌+◌, ◌*◌, ◌<◌, ◌≤◌, zero, suc, Bool, true, false, cond, Option, Some, None, List, [], ◌∷◌, ◌++◌, map, length, refl, sym, subst, ap, ◌∙◌, arith, inl, inr, add-zero, length-append, ◌⊎◌}
use Rattle.std.specs.Prelude.{⊤}
use Rattle.std.specs.List.{AllByRecursion, Contains, slice_get, filter, filter_map, flat_map, cons_option, range_with_len}
use Rattle.std.specs.Option.{option_map, option_and_then}
use Rattle.std.proofs.lemmas.Bool.{cases_eq, cases_order}
use Rattle.std.proofs.lemmas.Option.{none-some, same_Some, slice_get-map}
use Rattle.pblk_model.specs.Found.{Rise}
use Rattle.pblk_model.proofs.Lists.{contains_cases, contains_first, contains_more, contains_none}
use Rattle.pblk_model.proofs.Maps.{range_get as range_at}
use Rattle.pblk_model.proofs.Options.{map_some}
use Rattle.pblk_model.proofs.Parts.{get_first, get_rest}

-- ---- elements by place

-- an element of lists that are joined, each of one length
pub joined_at : {X Y : Type 0} (g : X → List Y) (n : ℕ) (us : List X) (k j : ℕ) → AllByRecursion (λ u. length (g u) ≡ n) us → j < n
    → slice_get (flat_map g us) (k * n + j) ≡ option_and_then (λ u. slice_get (g u) j) (slice_get us k)
joined_at g n [] k j all h = refl
joined_at g n (u ∷ us) zero j all h =
    let count : length (g u) ≡ n = all.0 in
    let place : 0 * n + j ≡ j = omega arith in
    ap (slice_get (g u ++ flat_map g us)) place ∙ get_first (g u) (flat_map g us) j (omega arith)
joined_at g n (u ∷ us) (suc k) j all h =
    let place : suc k * n + j ≡ n + (k * n + j) = omega arith in
    ap (slice_get (g u ++ flat_map g us)) place ∙ get_rest (g u) (flat_map g us) n (k * n + j) all.0 ∙ joined_at g n us k j all.1 h

pub joined_count : {X Y : Type 0} (g : X → List Y) (n : ℕ) (us : List X) → AllByRecursion (λ u. length (g u) ≡ n) us → length (flat_map g us) ≡ length us * n
joined_count g n [] all = omega arith
joined_count g n (u ∷ us) all =
    let count : length (g u) ≡ n = all.0 in
    let rest : length (flat_map g us) ≡ length us * n = joined_count g n us all.1 in
    let both : length (g u ++ flat_map g us) ≡ length (g u) + length (flat_map g us) = length-append (g u) (flat_map g us) in
    let next : suc (length us) * n ≡ n + length us * n = omega arith in
    omega arith

-- ---- lists that are made of the numbers from one on

pub range_get : (a n k x : ℕ) → slice_get (range_with_len a n) k ≡ Some x → (k < n) × (a + k ≡ x)
range_get a zero k x e = absurd (none-some x e)
range_get a (suc n) zero x e = (omega arith, add-zero a ∙ same_Some a x e)
range_get a (suc n) (suc k) x e = let rest = range_get (a + 1) n k x e in (omega (arith, rest.0), omega (arith, rest.1))

pub mapped_at : {Y : Type 0} (f : ℕ → Y) (n k : ℕ) → k < n → slice_get (map f (range_with_len 0 n)) k ≡ Some (f k)
mapped_at f n k h = let first : 0 + k ≡ k = omega arith in slice_get-map f (range_with_len 0 n) k ∙ ap (option_map f) (range_at 0 n k h)
    ∙ ap (λ m. Some (f m)) first

pub mapped_get : {Y : Type 0} (f : ℕ → Y) (n k : ℕ) (y : Y) → slice_get (map f (range_with_len 0 n)) k ≡ Some y → (k < n) × (f k ≡ y)
mapped_get f n k y e =
    let of = map_some f (slice_get (range_with_len 0 n) k) y (sym (slice_get-map f (range_with_len 0 n) k) ∙ e) in
    let at = range_get 0 n k of.0 of.1 in
    let same : k ≡ of.0 = omega (arith, at.1) in
    (at.0, ap f same ∙ of.2)

-- what is made of numbers, and of which number each is
pub made_of : {Y : Type 0} (h : ℕ → Option Y) (a n k : ℕ) (y : Y) → slice_get (filter_map h (range_with_len a n)) k ≡ Some y
    → (m : ℕ) × (a ≤ m) × (m < a + n) × (h m ≡ Some y)
made_of h a zero k y e = absurd (none-some y e)
made_of {Y} h a (suc n) k y e = go (λ j f. made_of h (a + 1) n j y f) (h a) refl k e
  where
    one_later : (m : ℕ) × (a + 1 ≤ m) × (m < a + 1 + n) × (h m ≡ Some y) → (m : ℕ) × (a ≤ m) × (m < a + suc n) × (h m ≡ Some y)
    one_later (m, low, high, is) = (m, omega arith, omega arith, is)

    go : ((j : ℕ) → slice_get (filter_map h (range_with_len (a + 1) n)) j ≡ Some y → (m : ℕ) × (a + 1 ≤ m) × (m < a + 1 + n) × (h m ≡ Some y))
        → (o : Option Y) → h a ≡ o → (j : ℕ) → slice_get (cons_option o (filter_map h (range_with_len (a + 1) n))) j ≡ Some y
        → (m : ℕ) × (a ≤ m) × (m < a + suc n) × (h m ≡ Some y)
    go later None is j f = one_later (later j f)
    go later (Some x) is zero f = (a, omega arith, omega arith, is ∙ f)
    go later (Some x) is (suc j) f = one_later (later j f)

-- what names its number rises
pub made_rise : {Y : Type 0} (h : ℕ → Option Y) (key : Y → ℕ) → ((m : ℕ) (y : Y) → h m ≡ Some y → key y ≡ m) → (a n j k : ℕ) (v w : Y) → j < k
    → slice_get (filter_map h (range_with_len a n)) j ≡ Some v → slice_get (filter_map h (range_with_len a n)) k ≡ Some w → key v < key w
made_rise h key names a zero j k v w before e f = absurd (none-some v e)
made_rise {Y} h key names a (suc n) j k v w before e f = go (λ j k b e f. made_rise h key names (a + 1) n j k v w b e f) (h a) refl j k before e f
  where
    go : ((j k : ℕ) → j < k → slice_get (filter_map h (range_with_len (a + 1) n)) j ≡ Some v → slice_get (filter_map h (range_with_len (a + 1) n)) k ≡ Some w
        → key v < key w)
        → (o : Option Y) → h a ≡ o → (j k : ℕ) → j < k → slice_get (cons_option o (filter_map h (range_with_len (a + 1) n))) j ≡ Some v
        → slice_get (cons_option o (filter_map h (range_with_len (a + 1) n))) k ≡ Some w → key v < key w
    go later None is j k b e f = later j k b e f
    go later (Some x) is j zero b e f = absurd (omega arith)
    go later (Some x) is zero (suc k) b e f =
        let of = made_of h (a + 1) n k w f in
        let first : key v ≡ a = names a v (is ∙ e) in
        let second : key w ≡ of.0 = names of.0 w of.3 in
        omega (arith, of.1)
    go later (Some x) is (suc j) (suc k) b e f = later j k (omega arith) e f

-- so one number is at one place
pub made_once : {Y : Type 0} (h : ℕ → Option Y) (key : Y → ℕ) → ((m : ℕ) (y : Y) → h m ≡ Some y → key y ≡ m) → (a n j k : ℕ) (v w : Y)
    → slice_get (filter_map h (range_with_len a n)) j ≡ Some v → slice_get (filter_map h (range_with_len a n)) k ≡ Some w → key v ≡ key w → j ≡ k
made_once h key names a n j k v w e f same = elim (cases_order j k) [
  | inl one ↦ one
  | inr two ↦ elim two [
    | inl before ↦ let less : key v < key w = made_rise h key names a n j k v w before e f in absurd (omega arith)
    | inr after ↦ let less : key w < key v = made_rise h key names a n k j w v after f e in absurd (omega arith)
  ]
]

-- ---- numbers that pass a test

in_cond : {X : Type 0} (b : Bool) (x y : X) (xs : List X) → Contains (cond b (x ∷ xs) xs) y → ((b ≡ true) × (x ≡ y)) ⊎ Contains xs y
in_cond true x y xs there = elim (contains_cases x y xs there) [ inl same ↦ inl (refl, same) | inr later ↦ inr later ]
in_cond false x y xs there = inr there

pub passed : (p : ℕ → Bool) (a n x : ℕ) → Contains (filter p (range_with_len a n)) x → (a ≤ x) × (x < a + n) × (p x ≡ true)
passed p a zero x there = absurd (contains_none x there)
passed p a (suc n) x there = elim (in_cond (p a) a x (filter p (range_with_len (a + 1) n)) there) [
  | inl here ↦ let same : a ≡ x = here.1 in (omega arith, omega arith, ap p (sym same) ∙ here.0)
  | inr later ↦ let rest = passed p (a + 1) n x later in (omega (arith, rest.0), omega (arith, rest.1), rest.2)
]

keep_first : {X : Type 0} (b : Bool) (x : X) (xs : List X) → b ≡ true → Contains (cond b (x ∷ xs) xs) x
keep_first true x xs e = contains_first x xs
keep_first false x xs e = absurd cc

keep_later : {X : Type 0} (b : Bool) (x y : X) (xs : List X) → Contains xs y → Contains (cond b (x ∷ xs) xs) y
keep_later true x y xs there = contains_more x y xs there
keep_later false x y xs there = there

pub passes : (p : ℕ → Bool) (a n x : ℕ) → a ≤ x → x < a + n → p x ≡ true → Contains (filter p (range_with_len a n)) x
passes p a zero x low high e = absurd (omega arith)
passes p a (suc n) x low high e = elim (cases_eq a x) [
  | inl same ↦ subst (Contains (filter p (range_with_len a (suc n)))) same (keep_first (p a) a (filter p (range_with_len (a + 1) n)) (ap p same ∙ e))
  | inr other ↦ keep_later (p a) a x (filter p (range_with_len (a + 1) n)) (passes p (a + 1) n x (omega arith) (omega arith) e)
]

-- they rise

abbrev IsFrom : ℕ → List ℕ → Type 0
IsFrom a [] = ⊤
IsFrom a (x ∷ xs) = a ≤ x

from_filter : (p : ℕ → Bool) (b a n : ℕ) → b ≤ a → IsFrom b (filter p (range_with_len a n))
from_filter p b a zero low = tt
from_filter p b a (suc n) low = go (p a) (from_filter p b (a + 1) n (omega arith))
  where
    go : (c : Bool) → IsFrom b (filter p (range_with_len (a + 1) n))
        → IsFrom b (cond c (a ∷ filter p (range_with_len (a + 1) n)) (filter p (range_with_len (a + 1) n)))
    go true rest = low
    go false rest = rest

rise_more : (a : ℕ) (xs : List ℕ) → IsFrom (a + 1) xs → Rise xs → Rise (a ∷ xs)
rise_more a [] from rise = tt
rise_more a (x ∷ xs) from rise = (let low : a + 1 ≤ x = from in omega arith, rise)

pub passed_rise : (p : ℕ → Bool) (a n : ℕ) → Rise (filter p (range_with_len a n))
passed_rise p a zero = tt
passed_rise p a (suc n) = go (p a) (passed_rise p (a + 1) n) (from_filter p (a + 1) (a + 1) n (omega arith))
  where
    go : (c : Bool) → Rise (filter p (range_with_len (a + 1) n)) → IsFrom (a + 1) (filter p (range_with_len (a + 1) n))
        → Rise (cond c (a ∷ filter p (range_with_len (a + 1) n)) (filter p (range_with_len (a + 1) n)))
    go true rest from = rise_more a (filter p (range_with_len (a + 1) n)) from rest
    go false rest from = rest
