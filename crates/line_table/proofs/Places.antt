-- Lists by place.
use Rattle.std.proofs.Common.{◌≡◌, ◌≢◌, ℕ, ◌<◌, zero, suc, true, false, eqb, Some, List, [], ◌∷◌, ◌++◌, length, refl, ap, subst, ◌∙◌, arith}
use Rattle.std.proofs.lemmas.Bool.Decides.{nat_tests}
use Rattle.std.proofs.lemmas.Option.{none-some, same_Some}
use Rattle.std.specs.List.{slice_get, slice_set}

pub eqb-same : (n : ℕ) → eqb n n ≡ true
eqb-same n = grind (arith, nat_tests)

pub some_isnt_zero : (n : ℕ) → n ≢ 0 → eqb n 0 ≡ false
some_isnt_zero n h = grind (arith, nat_tests)

module _ {X : Type 0} where
  pub get_within : (xs : List X) (k : ℕ) → k < length xs → (x : X) × (slice_get xs k ≡ Some x)
  get_within [] k h = absurd (omega arith)
  get_within (x ∷ xs) zero h = (x, refl)
  get_within (x ∷ xs) (suc k) h = get_within xs k (omega arith)

  get_set_at : (xs : List X) (i : ℕ) (y : X) → i < length xs → slice_get (slice_set xs i y) i ≡ Some y
  get_set_at [] i y h = absurd (omega arith)
  get_set_at (x ∷ xs) zero y h = refl
  get_set_at (x ∷ xs) (suc i) y h = get_set_at xs i y (omega arith)

  pub get_set_same : (xs : List X) (i j : ℕ) (y : X) → j ≡ i → i < length xs → slice_get (slice_set xs i y) j ≡ Some y
  get_set_same xs i j y e h = ap (slice_get (slice_set xs i y)) e ∙ get_set_at xs i y h

  pub get_set_other : (xs : List X) (i j : ℕ) (y : X) → j ≢ i → slice_get (slice_set xs i y) j ≡ slice_get xs j
  get_set_other [] i j y other = refl
  get_set_other (x ∷ xs) zero zero y other = absurd (other refl)
  get_set_other (x ∷ xs) zero (suc j) y other = refl
  get_set_other (x ∷ xs) (suc i) zero y other = refl
  get_set_other (x ∷ xs) (suc i) (suc j) y other = get_set_other xs i j y (λ e. other (ap suc e))

  pub set_twice : (xs : List X) (k : ℕ) (x y : X) → slice_set (slice_set xs k x) k y ≡ slice_set xs k y
  set_twice [] k x y = refl
  set_twice (z ∷ xs) zero x y = refl
  set_twice (z ∷ xs) (suc k) x y = ap (λ ys. z ∷ ys) (set_twice xs k x y)

  -- what holds of each element by its place holds also with one more at the end
  pub each_more : (xs : List X) (x : X) (P : ℕ → X → Type 0) → ((k : ℕ) (y : X) → slice_get xs k ≡ Some y → P k y) → P (length xs) x
      → (k : ℕ) (y : X) → slice_get (xs ++ x ∷ []) k ≡ Some y → P k y
  each_more [] x P each last zero y h = subst (P 0) (same_Some x y h) last
  each_more [] x P each last (suc k) y h = absurd (none-some y h)
  each_more (z ∷ xs) x P each last zero y h = each zero y h
  each_more (z ∷ xs) x P each last (suc k) y h = each_more xs x (λ n. P (suc n)) (λ n v there. each (suc n) v there) last k y h
