-- How many stripes pass a test, and what a change of one does to it.
use Rattle.std.proofs.Common.{◌≡◌, ℕ, zero, suc, ◌+◌, ◌-◌, ◌<◌, ◌≤◌, Bool, true, false, cond, not, ◌&&◌, ◌||◌, Some, List, [], ◌∷◌, length, take, drop, refl, ap, ◌∙◌, arith}
use Rattle.std.specs.Prelude.{nat_lt, nat_eq, replicate}
use Rattle.std.specs.List.{slice_get, slice_set, list_all, list_any}
use Rattle.std.proofs.lemmas.Bool.Decides.{nat_tests}
use Rattle.stripe_placer.specs.OpenLines.{Stripe}
use Rattle.stripe_placer.specs.Slots.{tally}

abbrev pub one : Bool → ℕ
one b = cond b 1 0

-- another stripe at one place
pub tally_set : (test : Stripe → Bool) (xs : List Stripe) (j : ℕ) (old new : Stripe) → slice_get xs j ≡ Some old
    → tally test (slice_set xs j new) + one (test old) ≡ tally test xs + one (test new)
tally_set test [] j old new h = absurd cc
tally_set test (x ∷ xs) zero old new h =
    let same : x ≡ old = cc in
    omega (arith, ap (λ s. one (test s)) same)
tally_set test (x ∷ xs) (suc j) old new h = omega (arith, tally_set test xs j old new h)

pub take_set : (xs : List Stripe) (n j : ℕ) (new : Stripe) → n ≤ j → take n (slice_set xs j new) ≡ take n xs
take_set [] n j new h = refl
take_set (x ∷ xs) zero j new h = refl
take_set (x ∷ xs) (suc n) zero new h = absurd (omega arith)
take_set (x ∷ xs) (suc n) (suc j) new h = ap (λ ys. x ∷ ys) (take_set xs n j new (omega arith))

set_none : (n j : ℕ) (new : Stripe) → take n (slice_set [] j new) ≡ slice_set (take n []) j new
set_none zero j new = refl
set_none (suc n) j new = refl

pub set_take : (xs : List Stripe) (n j : ℕ) (new : Stripe) → j < n → take n (slice_set xs j new) ≡ slice_set (take n xs) j new
set_take [] n j new h = set_none n j new
set_take (x ∷ xs) zero j new h = absurd (omega arith)
set_take (x ∷ xs) (suc n) zero new h = refl
set_take (x ∷ xs) (suc n) (suc j) new h = ap (λ ys. x ∷ ys) (set_take xs n j new (omega arith))

pub get_take : (xs : List Stripe) (n j : ℕ) (s : Stripe) → j < n → slice_get xs j ≡ Some s → slice_get (take n xs) j ≡ Some s
get_take [] n j s h is = absurd cc
get_take (x ∷ xs) zero j s h is = absurd (omega arith)
get_take (x ∷ xs) (suc n) zero s h is = is
get_take (x ∷ xs) (suc n) (suc j) s h is = get_take xs n j s (omega arith) is

pub drop_set : (xs : List Stripe) (n j : ℕ) (new : Stripe) → j < n → drop n (slice_set xs j new) ≡ drop n xs
drop_set [] n j new h = refl
drop_set (x ∷ xs) zero j new h = absurd (omega arith)
drop_set (x ∷ xs) (suc n) zero new h = refl
drop_set (x ∷ xs) (suc n) (suc j) new h = drop_set xs n j new (omega arith)

pub set_drop : (xs : List Stripe) (n j k : ℕ) (new : Stripe) → j ≡ n + k → drop n (slice_set xs j new) ≡ slice_set (drop n xs) k new
set_drop xs zero j k new h = ap (λ i. slice_set xs i new) (omega (arith, h))
set_drop [] (suc n) j k new h = refl
set_drop (x ∷ xs) (suc n) zero k new h = absurd (omega (arith, h))
set_drop (x ∷ xs) (suc n) (suc j) k new h = set_drop xs n j k new (omega (arith, h))

pub get_drop : (xs : List Stripe) (n j k : ℕ) (s : Stripe) → j ≡ n + k → slice_get xs j ≡ Some s → slice_get (drop n xs) k ≡ Some s
get_drop xs zero j k s h is = ap (slice_get xs) (omega (arith, h)) ∙ is
get_drop [] (suc n) j k s h is = absurd cc
get_drop (x ∷ xs) (suc n) zero k s h is = absurd (omega (arith, h))
get_drop (x ∷ xs) (suc n) (suc j) k s h is = get_drop xs n j k s (omega (arith, h)) is

-- of the first n
pub tally_first : (test : Stripe → Bool) (xs : List Stripe) (n j : ℕ) (old new : Stripe) → j < n → slice_get xs j ≡ Some old
    → tally test (take n (slice_set xs j new)) + one (test old) ≡ tally test (take n xs) + one (test new)
tally_first test xs n j old new h is = omega (arith, ap (tally test) (set_take xs n j new h), tally_set test (take n xs) j old new (get_take xs n j old h is))

-- of d from s on
pub tally_part : (test : Stripe → Bool) (xs : List Stripe) (s d j : ℕ) (old new : Stripe) → s ≤ j → j < s + d → slice_get xs j ≡ Some old
    → tally test (take d (drop s (slice_set xs j new))) + one (test old) ≡ tally test (take d (drop s xs)) + one (test new)
tally_part test xs s d j old new from below is =
    let place : j ≡ s + (j - s) = omega arith in
    omega (
      arith,
      ap (λ ys. tally test (take d ys)) (set_drop xs s j (j - s) new place),
      tally_first test (drop s xs) d (j - s) old new (omega arith) (get_drop xs s j (j - s) old place is),
    )

-- of another part none changes
pub tally_part_before : (test : Stripe → Bool) (xs : List Stripe) (s d j : ℕ) (new : Stripe) → j < s
    → tally test (take d (drop s (slice_set xs j new))) ≡ tally test (take d (drop s xs))
tally_part_before test xs s d j new h = ap (λ ys. tally test (take d ys)) (drop_set xs s j new h)

pub tally_part_after : (test : Stripe → Bool) (xs : List Stripe) (s d j : ℕ) (new : Stripe) → s + d ≤ j
    → tally test (take d (drop s (slice_set xs j new))) ≡ tally test (take d (drop s xs))
tally_part_after test xs s d j new h =
    let place : j ≡ s + (j - s) = omega arith in
    ap (λ ys. tally test (take d ys)) (set_drop xs s j (j - s) new place) ∙ ap (tally test) (take_set (drop s xs) d (j - s) new (omega arith))

-- where the test says the same of both, nothing changes
pub tally_same : (test : Stripe → Bool) (xs : List Stripe) (j : ℕ) (old new : Stripe) → slice_get xs j ≡ Some old → test old ≡ test new
    → tally test (slice_set xs j new) ≡ tally test xs
tally_same test xs j old new is same = omega (arith, tally_set test xs j old new is, ap one same)

one_at_most : (b : Bool) → one b ≤ 1
one_at_most true = omega arith
one_at_most false = omega arith

pub tally_at_most : (test : Stripe → Bool) (xs : List Stripe) → tally test xs ≤ length xs
tally_at_most test [] = omega arith
tally_at_most test (x ∷ xs) = omega (arith, one_at_most (test x), tally_at_most test xs)

-- one that passes is counted
pub tally_some : (test : Stripe → Bool) (xs : List Stripe) (j : ℕ) (s : Stripe) → slice_get xs j ≡ Some s → test s ≡ true → 1 ≤ tally test xs
tally_some test [] j s is passes = absurd cc
tally_some test (x ∷ xs) zero s is passes =
    let same : x ≡ s = cc in
    omega (arith, ap (λ y. one (test y)) same, ap one passes)
tally_some test (x ∷ xs) (suc j) s is passes = omega (arith, tally_some test xs j s is passes)

all_more : (b : Bool) (n : ℕ) (all : Bool) → nat_eq n 0 ≡ all → nat_eq (one (not b) + n) 0 ≡ (b && all)
all_more true n all e = ap (λ k. nat_eq k 0) (omega arith) ∙ e
all_more false n all e = grind (arith, nat_tests)

any_more : (b : Bool) (n : ℕ) (any : Bool) → nat_lt 0 n ≡ any → nat_lt 0 (one b + n) ≡ (b || any)
any_more true n any e = grind (arith, nat_tests)
any_more false n any e = ap (nat_lt 0) (omega arith) ∙ e

pub none_left : (test : Stripe → Bool) (xs : List Stripe) → nat_eq (tally (λ s. not (test s)) xs) 0 ≡ list_all test xs
none_left test [] = refl
none_left test (x ∷ xs) = all_more (test x) (tally (λ s. not (test s)) xs) (list_all test xs) (none_left test xs)

pub some_counted : (test : Stripe → Bool) (xs : List Stripe) → nat_lt 0 (tally test xs) ≡ list_any test xs
some_counted test [] = refl
some_counted test (x ∷ xs) = any_more (test x) (tally test xs) (list_any test xs) (some_counted test xs)

pub none_of_new : (test : Stripe → Bool) (new : Stripe) (n : ℕ) → test new ≡ false → tally test (replicate n new) ≡ 0
none_of_new test new zero h = refl
none_of_new test new (suc n) h = omega (arith, ap one h, none_of_new test new n h)

pub all_of_new : (test : Stripe → Bool) (new : Stripe) (n : ℕ) → test new ≡ true → tally test (replicate n new) ≡ n
all_of_new test new zero h = refl
all_of_new test new (suc n) h = omega (arith, ap one h, all_of_new test new n h)
