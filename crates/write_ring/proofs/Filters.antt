-- What holds of each element of a list, and what a filter leaves of it.
use Rattle.std.proofs.Common.{◌≡◌, ℕ, zero, suc, List, [], ◌∷◌, Bool, true, false, cond, filter, refl, sym, ap, ◌∙◌, subst}
use Rattle.std.specs.List.{AllByRecursion}
use mathlib.Core.Option.{some, some-ne-none, some-injective}
use lib.ListN.{get_elem?}

-- what holds of the element at each place holds of all, and the other way round
module _ {X : Type 0} (P : X → Type 0) where
  pub all_of_each : (xs : List X) → ((i : ℕ) (x : X) → get_elem? xs i ≡ some x → P x) → AllByRecursion P xs
  all_of_each [] each = tt
  all_of_each (x ∷ xs) each = (each 0 x refl, all_of_each xs (λ i y there. each (suc i) y there))

  pub each_of_all : (xs : List X) → AllByRecursion P xs → (i : ℕ) (x : X) → get_elem? xs i ≡ some x → P x
  each_of_all [] all i x there = absurd (some-ne-none x (sym there))
  each_of_all (y ∷ xs) all zero x there = subst P (some-injective y x there) all.0
  each_of_all (y ∷ xs) all (suc i) x there = each_of_all xs all.1 i x there

module _ {X : Type 0} (p : X → Bool) where
  -- an element that passes
  pub kept : (xs : List X) (i : ℕ) (x : X) → get_elem? xs i ≡ some x → p x ≡ true → (j : ℕ) × (get_elem? (filter p xs) j ≡ some x)
  kept [] i x there is = absurd (some-ne-none x (sym there))
  kept (y ∷ xs) zero x there is =
      let same : p y ≡ true = ap p (some-injective y x there) ∙ is in
      (0, ap (λ b. get_elem? (cond b (y ∷ filter p xs) (filter p xs)) 0) same ∙ there)
  kept (y ∷ xs) (suc i) x there is = by (p y) refl (kept xs i x there is)
    where
      by : (b : Bool) → p y ≡ b → (j : ℕ) × (get_elem? (filter p xs) j ≡ some x)
          → (j : ℕ) × (get_elem? (cond (p y) (y ∷ filter p xs) (filter p xs)) j ≡ some x)
      by true is later = (suc later.0, ap (λ b. get_elem? (cond b (y ∷ filter p xs) (filter p xs)) (suc later.0)) is ∙ later.1)
      by false is later = (later.0, ap (λ b. get_elem? (cond b (y ∷ filter p xs) (filter p xs)) later.0) is ∙ later.1)
