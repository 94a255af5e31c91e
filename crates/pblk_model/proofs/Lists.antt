-- Lists, and what holds of each element.
use Rattle.std.proofs.Common.{Bool, List, None, Option, Some, [], ap, arith, cond, false, get_or, inl, inr, length, refl, replicate, subst, suc, true, zero, ℕ, ◌++◌, ◌+◌, ◌<◌, ◌∙◌, ◌∷◌, ◌≡◌, ◌⊎◌}
use Rattle.std.proofs.lemmas.Option.{none-some, same_Some, slice_get-get_or}
use Rattle.std.specs.List.{AllByRecursion, Contains, last_or, slice_get}
use Rattle.std.specs.List.Sorted.{IsStrictlyIncreasing}
use Rattle.std.specs.Prelude.{slice_index}

-- what holds of everything
pub all_of : {X : Type 0} (P : X → Type 0) → ((x : X) → P x) → (xs : List X) → AllByRecursion P xs
all_of P all [] = tt
all_of P all (x ∷ xs) = (all x, all_of P all xs)

pub zipped : {X : Type 0} (P Q R : X → Type 0) → ((x : X) → P x → Q x → R x) → (xs : List X) → AllByRecursion P xs → AllByRecursion Q xs → AllByRecursion R xs
zipped P Q R says [] p q = tt
zipped P Q R says (x ∷ xs) p q = (says x p.0 q.0, zipped P Q R says xs p.1 q.1)

pub with_last : {X : Type 0} (P : X → Type 0) (xs : List X) (x : X) → AllByRecursion P xs → P x → AllByRecursion P (xs ++ x ∷ [])
with_last P [] x h last = (last, tt)
with_last P (y ∷ xs) x h last = (h.0, with_last P xs x h.1 last)

pub all_weaker : {X : Type 0} (P Q : X → Type 0) (xs : List X) → ((x : X) → P x → Q x) → AllByRecursion P xs → AllByRecursion Q xs
all_weaker P Q [] step h = tt
all_weaker P Q (x ∷ xs) step h = (step x h.0, all_weaker P Q xs step h.1)

pub rises_far : (xs : List ℕ) (a d : ℕ) → IsStrictlyIncreasing xs → a + suc d < length xs → slice_index xs a < slice_index xs (a + suc d)
rises_far xs a zero rise inside =
    let next : a + 1 ≡ a + suc 0 = omega arith in
    subst (λ n. slice_index xs a < slice_index xs n) next (rise a (omega arith))
rises_far xs a (suc d) rise inside =
    let near : slice_index xs a < slice_index xs (a + suc d) = rises_far xs a d rise (omega arith) in
    let step : slice_index xs (a + suc d) < slice_index xs (a + suc d + 1) = rise (a + suc d) (omega arith) in
    let next : a + suc d + 1 ≡ a + suc (suc d) = omega arith in
    subst (λ n. slice_index xs a < slice_index xs n) next (omega arith)

pub all_true : {X : Type 0} (xs : List X) → AllByRecursion (λ (x : X). true ≡ true) xs
all_true [] = tt
all_true (x ∷ xs) = (refl, all_true xs)

abbrev pub IsAmong : {X : Type 0} → List X → X → Type 0
IsAmong xs x = (i : ℕ) × (slice_get xs i ≡ Some x)

pub later : {X : Type 0} (y : X) (xs : List X) (x : X) → IsAmong xs x → IsAmong (y ∷ xs) x
later y xs x at = (suc at.0, at.1)

pub all_imply : {X : Type 0} (P Q : X → Type 0) → ((x : X) → P x → Q x) → (xs : List X) → AllByRecursion P xs → AllByRecursion Q xs
all_imply P Q says [] h = tt
all_imply P Q says (x ∷ xs) h = (says x h.0, all_imply P Q says xs h.1)

pub among_all : {X : Type 0} (xs : List X) → AllByRecursion (IsAmong xs) xs
among_all [] = tt
among_all (x ∷ xs) = ((0, refl), all_imply (IsAmong xs) (IsAmong (x ∷ xs)) (λ y at. later x xs y at) xs (among_all xs))

pub last_in : {X : Type 0} (P : X → Type 0) (o : Option X) (xs : List X) (x : X) → ((y : X) → o ≡ Some y → P y) → AllByRecursion P xs → last_or o xs ≡ Some x
    → P x
last_in P o [] x was all e = was x e
last_in P o (y ∷ xs) x was all e = last_in P (Some y) xs x (λ z f. subst P (same_Some y z f) all.0) all.1 e

pub all_but_last : {X : Type 0} (P : X → Type 0) (xs : List X) (x : X) → AllByRecursion P (xs ++ x ∷ []) → AllByRecursion P xs
all_but_last P [] x h = tt
all_but_last P (y ∷ xs) x h = (h.0, all_but_last P xs x h.1)

pub last_of : {X : Type 0} (P : X → Type 0) (xs : List X) (x : X) → AllByRecursion P (xs ++ x ∷ []) → P x
last_of P [] x h = h.0
last_of P (y ∷ xs) x h = last_of P xs x h.1

pub all_append : {X : Type 0} (P : X → Type 0) (xs ys : List X) → AllByRecursion P xs → AllByRecursion P ys → AllByRecursion P (xs ++ ys)
all_append P [] ys h k = k
all_append P (x ∷ xs) ys h k = (h.0, all_append P xs ys h.1 k)

pub all_replicated : {X : Type 0} (P : X → Type 0) (n : ℕ) (x : X) → P x → AllByRecursion P (replicate n x)
all_replicated P zero x h = tt
all_replicated P (suc n) x h = (h, all_replicated P n x h)

-- a list that is filled with what is read past its end
pub replicated : {X : Type 0} (n k : ℕ) (x : X) → get_or (replicate n x) k x ≡ x
replicated zero k x = refl
replicated (suc n) zero x = refl
replicated (suc n) (suc k) x = replicated n k x

pub all_cond : {X : Type 0} (P : X → Type 0) (b : Bool) (x : X) (xs : List X) → P x → AllByRecursion P xs → AllByRecursion P (cond b (x ∷ xs) xs)
all_cond P true x xs h k = (h, k)
all_cond P false x xs h k = k

pub contains_more : {X : Type 0} (x r : X) (xs : List X) → Contains xs r → Contains (x ∷ xs) r
contains_more x r xs (k, inside, e) = (suc k, omega arith, e)

pub contains_first : {X : Type 0} (x : X) (xs : List X) → Contains (x ∷ xs) x
contains_first x xs = (0, omega arith, refl)

pub contains_cases : {X : Type 0} (x r : X) (xs : List X) → Contains (x ∷ xs) r → (x ≡ r) ⊎ Contains xs r
contains_cases x r xs (zero, inside, e) = inl e
contains_cases x r xs (suc k, inside, e) = inr (k, omega arith, e)

pub contains_none : {X : Type 0} (r : X) → Contains {X = X} [] r → ⊥
contains_none r (k, inside, e) = omega arith

pub all_contains : {X : Type 0} (P : X → Type 0) (xs : List X) (x : X) → AllByRecursion P xs → Contains xs x → P x
all_contains P [] x h there = absurd (contains_none x there)
all_contains P (y ∷ xs) x h there = elim (contains_cases y x xs there) [ inl same ↦ subst P same h.0 | inr later ↦ all_contains P xs x h.1 later ]

pub all_everywhere : {X : Type 0} (P : X → Type 0) (xs : List X) → ((x : X) → P x) → AllByRecursion P xs
all_everywhere P [] h = tt
all_everywhere P (x ∷ xs) h = (h x, all_everywhere P xs h)

pub all_front : {X : Type 0} (P : X → Type 0) (xs ys : List X) → AllByRecursion P (xs ++ ys) → AllByRecursion P xs × AllByRecursion P ys
all_front P [] ys h = (tt, h)
all_front P (x ∷ xs) ys h = let rest = all_front P xs ys h.1 in ((h.0, rest.0), rest.1)

-- by what a command lets through
pub cases_passed : (o : Option (List (List ℕ))) → (o ≡ None) ⊎ ((more : List (List ℕ)) × (o ≡ Some more))
cases_passed None = inl refl
cases_passed (Some more) = inr (more, refl)

pub among_contained : {X : Type 0} (xs : List X) (x : X) → Contains xs x → IsAmong xs x
among_contained xs x c = (c.0, slice_get-get_or xs c.0 x c.1 ∙ ap (λ y. Some y) (c.2))

pub among_more : {X : Type 0} (xs ys : List X) (x : X) → IsAmong xs x → IsAmong (xs ++ ys) x
among_more [] ys x (k, e) = absurd (none-some x e)
among_more (y ∷ xs) ys x (zero, e) = (0, e)
among_more (y ∷ xs) ys x (suc k, e) = let rest = among_more xs ys x (k, e) in (suc rest.0, rest.1)

pub length_replicate : {X : Type 0} (n : ℕ) (x : X) → length (replicate n x) ≡ n
length_replicate zero x = refl
length_replicate (suc n) x = ap suc (length_replicate n x)

pub nil_cons : {A : Type 0} (x : A) (rest : List A) → [] ≡ x ∷ rest → ⊥
nil_cons x rest h = cc
