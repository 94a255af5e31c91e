-- Lists of what a function gives of the numbers from one on, and the first number that passes a test.
use Rattle.std.proofs.Common.{◌≡◌, ◌≢◌, ℕ, zero, suc, ◌+◌, ◌<◌, ◌≤◌, Bool, true, false, cond, ◌||◌, Option, Some, None, List, ◌∷◌, refl, sym, ap, ◌∙◌, arith}
use Rattle.std.specs.Prelude.{map, nat_eq, is_some}
use Rattle.std.proofs.lemmas.Bool.{eqb-true, eqb-false}
use Rattle.std.specs.List.{slice_get, slice_set, range_with_len, find, list_any}
use Rattle.pblk_model.proofs.Tests.{or_right}

shift : (a i : ℕ) → (a + 1) + i ≡ a + suc i
shift a i = omega arith

first_of : (a : ℕ) → a + 0 ≡ a
first_of a = omega arith

pub get_mapped : {X : Type 0} (f : ℕ → X) (a n j : ℕ) → j < n → slice_get (map f (range_with_len a n)) j ≡ Some (f (a + j))
get_mapped f a zero j h = absurd (omega arith)
get_mapped f a (suc n) zero h = ap (λ k. Some (f k)) (sym (first_of a))
get_mapped f a (suc n) (suc j) h = get_mapped f (a + 1) n j (omega arith) ∙ ap (λ k. Some (f k)) (shift a j)

pub same_mapped : {X : Type 0} (f g : ℕ → X) (a n : ℕ) → ((i : ℕ) → i < n → f (a + i) ≡ g (a + i)) → map f (range_with_len a n) ≡ map g (range_with_len a n)
same_mapped f g a zero h = refl
same_mapped {X} f g a (suc n) h =
    let here : f a ≡ g a = ap f (sym (first_of a)) ∙ h 0 (omega arith) ∙ ap g (first_of a) in
    ap (λ (x : X). x ∷ map f (range_with_len (a + 1) n)) here
    ∙ ap (λ (xs : List X). g a ∷ xs) (same_mapped f g (a + 1) n (λ i inside. ap f (shift a i) ∙ h (suc i) (omega arith) ∙ ap g (sym (shift a i))))

-- another function that differs at one number
pub set_mapped : {X : Type 0} (f g : ℕ → X) (a n j : ℕ) (v : X) → j < n → g (a + j) ≡ v → ((i : ℕ) → i < n → i ≢ j → f (a + i) ≡ g (a + i))
    → slice_set (map f (range_with_len a n)) j v ≡ map g (range_with_len a n)
set_mapped f g a zero j v inside here others = absurd (omega arith)
set_mapped {X} f g a (suc n) zero v inside here others =
    let first : v ≡ g a = sym here ∙ ap g (first_of a) in
    ap (λ (x : X). x ∷ map f (range_with_len (a + 1) n)) first
    ∙ ap (λ (xs : List X). g a ∷ xs) (same_mapped f g (a + 1) n (λ i h. ap f (shift a i) ∙ others (suc i) (omega arith) (omega arith) ∙ ap g (sym (shift a i))))
set_mapped {X} f g a (suc n) (suc j) v inside here others =
    let first : f a ≡ g a = ap f (sym (first_of a)) ∙ others 0 (omega arith) (omega arith) ∙ ap g (first_of a) in
    ap (λ (x : X). x ∷ slice_set (map f (range_with_len (a + 1) n)) j v) first
    ∙ ap (λ (xs : List X). g a ∷ xs)
    (set_mapped f g (a + 1) n j v (omega arith) (ap g (shift a j) ∙ here)
    (λ i h apart. ap f (shift a i) ∙ others (suc i) (omega arith) (omega arith) ∙ ap g (sym (shift a i))))

-- The first number that passes a test.

pub found_in_range : (test : ℕ → Bool) (a n j : ℕ) → j < n → test (a + j) ≡ true → ((i : ℕ) → i < j → test (a + i) ≡ false)
    → find test (range_with_len a n) ≡ Some (a + j)
found_in_range test a zero j inside here before = absurd (omega arith)
found_in_range test a (suc n) zero inside here before =
    let now : test a ≡ true = ap test (sym (first_of a)) ∙ here in
    ap (λ b. cond b (Some a) (find test (range_with_len (a + 1) n))) now ∙ ap (λ k. Some k) (sym (first_of a))
found_in_range test a (suc n) (suc j) inside here before =
    let now : test a ≡ false = ap test (sym (first_of a)) ∙ before 0 (omega arith) in
    ap (λ b. cond b (Some a) (find test (range_with_len (a + 1) n))) now
    ∙ found_in_range test (a + 1) n j (omega arith) (ap test (shift a j) ∙ here) (λ i h. ap test (shift a i) ∙ before (suc i) (omega arith))
    ∙ ap (λ k. Some k) (shift a j)

pub none_in_range : (test : ℕ → Bool) (a n : ℕ) → ((i : ℕ) → i < n → test (a + i) ≡ false) → find test (range_with_len a n) ≡ None
none_in_range test a zero h = refl
none_in_range test a (suc n) h =
    let now : test a ≡ false = ap test (sym (first_of a)) ∙ h 0 (omega arith) in
    ap (λ b. cond b (Some a) (find test (range_with_len (a + 1) n))) now
    ∙ none_in_range test (a + 1) n (λ i inside. ap test (shift a i) ∙ h (suc i) (omega arith))

-- what a first number comes to
pub record IsFirst (test : ℕ → Bool) (a n j : ℕ) : Type 0 where
  pub from : a ≤ j
  pub inside : j < a + n
  pub passes : test j ≡ true
  pub before : (i : ℕ) → a ≤ i → i < j → test i ≡ false

some_same : (a j : ℕ) → ◌≡◌ {A = Option ℕ} (Some a) (Some j) → a ≡ j
some_same a j e = cc

first_here : (test : ℕ → Bool) (a n j : ℕ) → test a ≡ true → cond (test a) (Some a) (find test (range_with_len (a + 1) n)) ≡ Some j → IsFirst test a (suc n) j
first_here test a n j now is =
    let same : a ≡ j = some_same a j (ap (λ b. cond b (Some a) (find test (range_with_len (a + 1) n))) (sym now) ∙ is) in
    record {
      from = omega arith;
      inside = omega arith;
      passes = ap test (sym same) ∙ now;
      before = λ i from below. absurd (omega arith);
    }

pub first_is : (test : ℕ → Bool) (a n j : ℕ) → find test (range_with_len a n) ≡ Some j → IsFirst test a n j
first_is test a zero j is = absurd cc
first_is test a (suc n) j is = elim (test a) as (λ b. test a ≡ b → IsFirst test a (suc n) j) [
  | true ↦ λ now. first_here test a n j now is
  | false ↦ λ now.
      let later : IsFirst test (a + 1) n j = first_is test (a + 1) n j (ap (λ b. cond b (Some a) (find test (range_with_len (a + 1) n))) (sym now) ∙ is) in
      record {
        from = omega (arith, later.from);
        inside = omega (arith, later.inside);
        passes = later.passes;
        before = λ i from below. elim (nat_eq i a) as (λ b. nat_eq i a ≡ b → test i ≡ false) [
          | true ↦ λ e. ap test (eqb-true i a e) ∙ now
          | false ↦ λ e.
              let apart : i ≢ a = eqb-false i a e in
              later.before i (omega arith) below
        ] refl;
      }
] refl

-- some number passes
pub some_in_range : (test : ℕ → Bool) (a n j : ℕ) → a ≤ j → j < a + n → test j ≡ true → list_any test (range_with_len a n) ≡ true
some_in_range test a zero j from inside here = absurd (omega arith)
some_in_range test a (suc n) j from inside here = elim (nat_eq j a) as (λ b. nat_eq j a ≡ b → (test a || list_any test (range_with_len (a + 1) n)) ≡ true) [
  | true ↦ λ e. ap (λ b. b || list_any test (range_with_len (a + 1) n)) (ap test (sym (eqb-true j a e)) ∙ here)
  | false ↦ λ e.
      let apart : j ≢ a = eqb-false j a e in
      or_right (test a) (list_any test (range_with_len (a + 1) n)) (some_in_range test (a + 1) n j (omega arith) (omega arith) here)
] refl

pub no_in_range : (test : ℕ → Bool) (a n : ℕ) → ((i : ℕ) → a ≤ i → i < a + n → test i ≡ false) → list_any test (range_with_len a n) ≡ false
no_in_range test a zero h = refl
no_in_range test a (suc n) h = ap (λ b. b || list_any test (range_with_len (a + 1) n)) (h a (omega arith) (omega arith))
    ∙ no_in_range test (a + 1) n (λ i from inside. h i (omega arith) (omega arith))

either : (b : Bool) (a : ℕ) (any : Bool) (first : Option ℕ) → any ≡ is_some first → (b || any) ≡ is_some (cond b (Some a) first)
either true a any first e = refl
either false a any first e = e

-- whether some number passes is whether there is a first
pub some_is_first : (test : ℕ → Bool) (a n : ℕ) → list_any test (range_with_len a n) ≡ is_some (find test (range_with_len a n))
some_is_first test a zero = refl
some_is_first test a (suc n) =
    either (test a) a (list_any test (range_with_len (a + 1) n)) (find test (range_with_len (a + 1) n)) (some_is_first test (a + 1) n)
