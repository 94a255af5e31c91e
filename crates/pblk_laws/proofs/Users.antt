-- How many of rising positions are below one.
use Rattle.std.proofs.Common.{◌≡◌, ℕ, zero, suc, ◌+◌, ◌<◌, ◌≤◌, cond, Some, List, [], ◌∷◌, length, refl, ap, ◌∙◌, subst, arith, inl, inr}
use Rattle.std.specs.Prelude.{◌↔◌, slice_index, nat_lt}
use Rattle.std.specs.List.{AllByRecursion, slice_get, filter}
use Rattle.std.specs.List.Sorted.{IsStrictlyIncreasing}
use Rattle.std.proofs.lemmas.Bool.{cases_lt, lt-ltb, le-ltb}
use Rattle.std.proofs.lemmas.Option.{same_Some, none-some}
use Rattle.pblk_model.specs.History.{users}
use Rattle.pblk_model.proofs.Parts.{all_get}

Rises : List ℕ → Type 0
Rises [] = Unit {0}
Rises (x ∷ []) = Unit {0}
Rises (x ∷ (y ∷ xs)) = (x < y) × Rises (y ∷ xs)

rises : (xs : List ℕ) → IsStrictlyIncreasing xs → Rises xs
unfolding Rises
rises [] h = tt
rises (x ∷ []) h = tt
rises (x ∷ (y ∷ xs)) h = (
  h 0 (omega arith),
  rises (y ∷ xs) (λ k inside.
      let same : suc k + 1 ≡ suc (k + 1) = omega arith in
      subst (λ n. slice_index (x ∷ (y ∷ xs)) (suc k) < slice_index (x ∷ (y ∷ xs)) n) same (h (suc k) (omega arith))),
)

rises_on : (x : ℕ) (xs : List ℕ) → Rises (x ∷ xs) → Rises xs
unfolding Rises
rises_on x [] h = tt
rises_on x (y ∷ xs) h = h.1

above : (p x : ℕ) (xs : List ℕ) → Rises (x ∷ xs) → p ≤ x → AllByRecursion (λ y. p ≤ y) (x ∷ xs)
unfolding Rises
above p x [] h low = (low, tt)
above p x (y ∷ xs) h low = (low, above p y xs h.1 (let more = h.0 in omega arith))

users_first : (p x : ℕ) (xs : List ℕ) → x < p → users (x ∷ xs) p ≡ suc (users xs p)
users_first p x xs h = ap (λ b. length (cond b (x ∷ filter (λ q. nat_lt q p) xs) (filter (λ q. nat_lt q p) xs))) (lt-ltb x p h)

users_past : (p x : ℕ) (xs : List ℕ) → p ≤ x → users (x ∷ xs) p ≡ users xs p
users_past p x xs h = ap (λ b. length (cond b (x ∷ filter (λ q. nat_lt q p) xs) (filter (λ q. nat_lt q p) xs))) (le-ltb x p h)

pub users_none : (p : ℕ) (xs : List ℕ) → AllByRecursion (λ y. p ≤ y) xs → users xs p ≡ 0
users_none p [] h = refl
users_none p (x ∷ xs) h = users_past p x xs h.0 ∙ users_none p xs h.1

none_of_rising : (x : ℕ) (xs : List ℕ) (p k q : ℕ) → Rises (x ∷ xs) → slice_get (x ∷ xs) k ≡ Some q → p ≤ x → (q < p) ↔ (k < users (x ∷ xs) p)
none_of_rising x xs p k q h e past =
    let each : AllByRecursion (λ y. p ≤ y) (x ∷ xs) = above p x xs h past in
    let none : users (x ∷ xs) p ≡ 0 = users_none p (x ∷ xs) each in
    let high : p ≤ q = all_get (λ y. p ≤ y) (x ∷ xs) k q each e in
    (λ less. absurd (omega arith), λ less. absurd (omega arith))

first_of_rising : (xs : List ℕ) (p k q : ℕ) → Rises xs → slice_get xs k ≡ Some q → (q < p) ↔ (k < users xs p)
first_of_rising [] p k q h e = absurd (none-some q e)
first_of_rising (x ∷ xs) p zero q h e = elim (cases_lt x p) [
  | inl low ↦
      let same : x ≡ q = same_Some x q e in
      let count = users_first p x xs low in
      (λ less. omega arith, λ less. omega arith)
  | inr past ↦ none_of_rising x xs p 0 q h e past
]
first_of_rising (x ∷ xs) p (suc k) q h e = elim (cases_lt x p) [
  | inl low ↦
      let rest = first_of_rising xs p k q (rises_on x xs h) e in
      let count = users_first p x xs low in
      (λ less. let l = rest.0 less in omega arith, λ less. rest.1 (omega arith))
  | inr past ↦ none_of_rising x xs p (suc k) q h e past
]

pub first_users : (xs : List ℕ) (p k q : ℕ) → IsStrictlyIncreasing xs → slice_get xs k ≡ Some q → (q < p) ↔ (k < users xs p)
first_users xs p k q h e = first_of_rising xs p k q (rises xs h) e
