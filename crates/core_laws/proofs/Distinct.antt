-- Lists of numbers in which none stands twice.
use Rattle.std.proofs.Common.{◌≡◌, ◌≢◌, ◌⊎◌, inl, inr, ℕ, ◌+◌, ◌<◌, ◌≤◌, ◌==◌, ◌||◌, zero, suc, not, nat_eq, Bool, true, false, cond, Some, List, [], ◌∷◌, ◌++◌, length, refl, sym, subst, ap, ◌∙◌, arith}
use Rattle.std.specs.Prelude.{slice_get, ⊤}
use Rattle.std.specs.List.{filter, flat_map, list_any, range_with_len}
use Rattle.std.proofs.lemmas.Bool.{eqb-true}
use Rattle.std.proofs.lemmas.Option.{same_Some, none-some}
use Rattle.std.proofs.lemmas.List.Folds.{list_any-append}
use Rattle.core_laws.proofs.Placed.{is_in_list}
use Rattle.pblk_model.proofs.Lists.{IsAmong, later}
use Rattle.pblk_model.proofs.Tests.{either, no_both, or_left, or_right, same_number}

abbrev pub IsIn : List ℕ → ℕ → Type 0
IsIn xs q = is_in_list xs q ≡ true

abbrev pub Distinct : List ℕ → Type 0
Distinct [] = ⊤
Distinct (x ∷ xs) = (is_in_list xs x ≡ false) × Distinct xs

-- what is in a list

pub in_joined : (xs ys : List ℕ) (q : ℕ) → IsIn (xs ++ ys) q → IsIn xs q ⊎ IsIn ys q
in_joined xs ys q e = either (is_in_list xs q) (is_in_list ys q) (sym (list_any-append (λ x. x == q) xs ys) ∙ e)

pub in_first : (xs ys : List ℕ) (q : ℕ) → IsIn xs q → IsIn (xs ++ ys) q
in_first xs ys q e = list_any-append (λ x. x == q) xs ys ∙ or_left (is_in_list xs q) (is_in_list ys q) e

pub in_second : (xs ys : List ℕ) (q : ℕ) → IsIn ys q → IsIn (xs ++ ys) q
in_second xs ys q e = list_any-append (λ x. x == q) xs ys ∙ or_right (is_in_list xs q) (is_in_list ys q) e

pub at_in : (xs : List ℕ) (k q : ℕ) → slice_get xs k ≡ Some q → IsIn xs q
at_in [] k q e = absurd (none-some q e)
at_in (x ∷ xs) zero q e = or_left (x == q) (is_in_list xs q) (ap (λ y. y == q) (same_Some x q e) ∙ same_number q)
at_in (x ∷ xs) (suc k) q e = or_right (x == q) (is_in_list xs q) (at_in xs k q e)

-- a test that some element passes
pub passing : {X : Type 0} (f : X → Bool) (xs : List X) → list_any f xs ≡ true → (x : X) × IsAmong xs x × (f x ≡ true)
passing f [] e = absurd cc
passing {X} f (x ∷ xs) e = go (either (f x) (list_any f xs) e) (passing f xs)
  where
    go : (f x ≡ true) ⊎ (list_any f xs ≡ true) → (list_any f xs ≡ true → (y : X) × IsAmong xs y × (f y ≡ true)) → (y : X) × IsAmong (x ∷ xs) y × (f y ≡ true)
    go (inl here) rest = (x, (0, refl), here)
    go (inr there) rest = let r = rest there in (r.0, later x xs r.0 r.1, r.2)

pub in_made : {X : Type 0} (f : X → List ℕ) (xs : List X) (x : X) (k q : ℕ) → slice_get xs k ≡ Some x → IsIn (f x) q → IsIn (flat_map f xs) q
in_made f [] x k q e is = absurd (none-some x e)
in_made f (y ∷ ys) x zero q e is = in_first (f y) (flat_map f ys) q (subst (λ z. IsIn (f z) q) (sym (same_Some y x e)) is)
in_made f (y ∷ ys) x (suc k) q e is = in_second (f y) (flat_map f ys) q (in_made f ys x k q e is)

pub made_of : (f : ℕ → List ℕ) (a n q : ℕ) → IsIn (flat_map f (range_with_len a n)) q → (u : ℕ) × (a ≤ u) × (u < a + n) × IsIn (f u) q
made_of f a zero q e = absurd cc
made_of f a (suc n) q e = go (in_joined (f a) (flat_map f (range_with_len (a + 1) n)) q e) (made_of f (a + 1) n q)
  where
    go : IsIn (f a) q ⊎ IsIn (flat_map f (range_with_len (a + 1) n)) q
        → (IsIn (flat_map f (range_with_len (a + 1) n)) q → (u : ℕ) × (a + 1 ≤ u) × (u < a + 1 + n) × IsIn (f u) q)
        → (u : ℕ) × (a ≤ u) × (u < a + suc n) × IsIn (f u) q
    go (inl here) rest = (a, omega arith, omega arith, here)
    go (inr there) rest = let r = rest there in let low : a + 1 ≤ r.0 = r.1 in let high : r.0 < a + 1 + n = r.2 in (r.0, omega arith, omega arith, r.3)

-- distinct lists

not_in : (xs : List ℕ) (q : ℕ) → (IsIn xs q → ⊥) → is_in_list xs q ≡ false
not_in xs q h = go (is_in_list xs q) refl
  where
    go : (b : Bool) → is_in_list xs q ≡ b → b ≡ false
    go true e = absurd (h e)
    go false e = refl

pub distinct_joined : (xs ys : List ℕ) → Distinct xs → Distinct ys → ((q : ℕ) → IsIn xs q → IsIn ys q → ⊥) → Distinct (xs ++ ys)
distinct_joined [] ys a b apart = b
distinct_joined (x ∷ xs) ys a b apart = (
  not_in (xs ++ ys) x (λ e. elim (in_joined xs ys x e) as (λ _. ⊥) [
    | inl l ↦ no_both (is_in_list xs x) l a.0
    | inr r ↦ apart x (or_left (x == x) (is_in_list xs x) (same_number x)) r
  ]),
  distinct_joined xs ys a.1 b (λ q l r. apart q (or_right (x == q) (is_in_list xs q) l) r),
)

pub distinct_first : (xs ys : List ℕ) → Distinct (xs ++ ys) → Distinct xs
distinct_first [] ys d = tt
distinct_first (x ∷ xs) ys d = (not_in xs x (λ e. no_both (is_in_list (xs ++ ys) x) (in_first xs ys x e) d.0), distinct_first xs ys d.1)

pub distinct_second : (xs ys : List ℕ) → Distinct (xs ++ ys) → Distinct ys
distinct_second [] ys d = d
distinct_second (x ∷ xs) ys d = distinct_second xs ys d.1

pub distinct_apart : (xs ys : List ℕ) → Distinct (xs ++ ys) → (q : ℕ) → IsIn xs q → IsIn ys q → ⊥
distinct_apart [] ys d q a b = absurd cc
distinct_apart (x ∷ xs) ys d q a b = elim (either (x == q) (is_in_list xs q) a) as (λ _. ⊥) [
  | inl here ↦ no_both (is_in_list (xs ++ ys) x) (in_second xs ys x (subst (IsIn ys) (sym (eqb-true x q here)) b)) d.0
  | inr there ↦ distinct_apart xs ys d.1 q there b
]

pub distinct_made : {X : Type 0} (f : X → List ℕ) (xs : List X) (x : X) (k : ℕ) → slice_get xs k ≡ Some x → Distinct (flat_map f xs) → Distinct (f x)
distinct_made f [] x k e d = absurd (none-some x e)
distinct_made f (y ∷ ys) x zero e d = subst (λ z. Distinct (f z)) (same_Some y x e) (distinct_first (f y) (flat_map f ys) d)
distinct_made f (y ∷ ys) x (suc k) e d = distinct_made f ys x k e (distinct_second (f y) (flat_map f ys) d)

pub distinct_rows : (f : ℕ → List ℕ) (a n : ℕ) → ((u : ℕ) → Distinct (f u)) → ((u v q : ℕ) → IsIn (f u) q → IsIn (f v) q → u ≡ v)
    → Distinct (flat_map f (range_with_len a n))
distinct_rows f a zero each one = tt
distinct_rows f a (suc n) each one = distinct_joined (f a) (flat_map f (range_with_len (a + 1) n)) (each a) (distinct_rows f (a + 1) n each one)
    (λ q here there. let at = made_of f (a + 1) n q there in let same : a ≡ at.0 = one a at.0 q here at.3 in let low : a + 1 ≤ at.0 =
    at.1 in absurd (omega arith))

pub distinct_at : (xs : List ℕ) (j k q : ℕ) → Distinct xs → slice_get xs j ≡ Some q → slice_get xs k ≡ Some q → j ≡ k
distinct_at [] j k q d a b = absurd (none-some q a)
distinct_at (x ∷ xs) zero zero q d a b = refl
distinct_at (x ∷ xs) zero (suc k) q d a b = no_both (is_in_list xs x) (subst (IsIn xs) (sym (same_Some x q a)) (at_in xs k q b)) d.0
distinct_at (x ∷ xs) (suc j) zero q d a b = no_both (is_in_list xs x) (subst (IsIn xs) (sym (same_Some x q b)) (at_in xs j q a)) d.0
distinct_at (x ∷ xs) (suc j) (suc k) q d a b = ap suc (distinct_at xs j k q d.1 a b)

-- there are no more of them than numbers that they may be

in_without : (q : ℕ) (xs : List ℕ) (r : ℕ) → IsIn (filter (λ x. not (x == q)) xs) r → IsIn xs r × (r ≢ q)
in_without q [] r e = absurd cc
in_without q (x ∷ xs) r e = go (nat_eq x q) refl e (in_without q xs r)
  where
    go : (b : Bool) → nat_eq x q ≡ b → IsIn (cond (not b) (x ∷ filter (λ x. not (x == q)) xs) (filter (λ x. not (x == q)) xs)) r
        → (IsIn (filter (λ x. not (x == q)) xs) r → IsIn xs r × (r ≢ q)) → IsIn (x ∷ xs) r × (r ≢ q)
    go true same f rest = (or_right (x == r) (is_in_list xs r) (rest f).0, (rest f).1)
    go false other f rest = elim (either (x == r) (is_in_list (filter (λ x. not (x == q)) xs) r) f) as (λ _. IsIn (x ∷ xs) r × (r ≢ q)) [
      | inl here ↦ (or_left (x == r) (is_in_list xs r) here, λ e. no_both (nat_eq x q) (ap (λ y. y == q) (eqb-true x r here ∙ e) ∙ same_number q) other)
      | inr there ↦ (or_right (x == r) (is_in_list xs r) (rest there).0, (rest there).1)
    ]

distinct_without : (q : ℕ) (xs : List ℕ) → Distinct xs → Distinct (filter (λ x. not (x == q)) xs)
distinct_without q [] d = tt
distinct_without q (x ∷ xs) d = go (not (x == q)) (distinct_without q xs d.1)
  where
    go : (b : Bool) → Distinct (filter (λ x. not (x == q)) xs) → Distinct (cond b (x ∷ filter (λ x. not (x == q)) xs) (filter (λ x. not (x == q)) xs))
    go true rest = (not_in (filter (λ x. not (x == q)) xs) x (λ e. no_both (is_in_list xs x) (in_without q xs x e).0 d.0), rest)
    go false rest = rest

none_without : (q : ℕ) (xs : List ℕ) → is_in_list xs q ≡ false → length xs ≤ length (filter (λ x. not (x == q)) xs)
none_without q [] e = omega arith
none_without q (x ∷ xs) e = go (nat_eq x q) e (none_without q xs)
  where
    go : (b : Bool) → (b || is_in_list xs q) ≡ false → (is_in_list xs q ≡ false → length xs ≤ length (filter (λ x. not (x == q)) xs))
        → suc (length xs) ≤ length (cond (not b) (x ∷ filter (λ x. not (x == q)) xs) (filter (λ x. not (x == q)) xs))
    go true f rest = absurd cc
    go false f rest = let r : length xs ≤ length (filter (λ x. not (x == q)) xs) = rest f in omega arith

length_without : (q : ℕ) (xs : List ℕ) → Distinct xs → length xs ≤ length (filter (λ x. not (x == q)) xs) + 1
length_without q [] d = omega arith
length_without q (x ∷ xs) d = go (nat_eq x q) refl (length_without q xs d.1)
  where
    go : (b : Bool) → nat_eq x q ≡ b → length xs ≤ length (filter (λ x. not (x == q)) xs) + 1
        → suc (length xs) ≤ length (cond (not b) (x ∷ filter (λ x. not (x == q)) xs) (filter (λ x. not (x == q)) xs)) + 1
    go true e rest = let r : length xs ≤ length (filter (λ x. not (x == q)) xs) =
        none_without q xs (ap (is_in_list xs) (sym (eqb-true x q e)) ∙ d.0) in omega arith
    go false e rest = omega arith

pub distinct_few : (a n : ℕ) (xs : List ℕ) → Distinct xs → ((q : ℕ) → IsIn xs q → (a ≤ q) × (q < a + n)) → length xs ≤ n
distinct_few a zero [] d within = omega arith
distinct_few a zero (x ∷ xs) d within = let at = within x (or_left (x == x) (is_in_list xs x) (same_number x)) in let low : a ≤ x =
    at.0 in let high : x < a + 0 = at.1 in absurd (omega arith)
distinct_few a (suc n) xs d within =
    let rest : length (filter (λ x. not (x == a)) xs) ≤ n = distinct_few (a + 1) n (filter (λ x. not (x == a)) xs) (distinct_without a xs d)
    (λ q e.
    let is = in_without a xs q e in
    let at = within q is.0 in let low : a ≤ q = at.0 in let high : q < a + suc n = at.1 in let other : q ≢ a = is.1 in
    (omega arith, omega arith)) in
    let all : length xs ≤ length (filter (λ x. not (x == a)) xs) + 1 = length_without a xs d in
    omega arith
