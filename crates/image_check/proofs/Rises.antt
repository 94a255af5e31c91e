-- Numbers that rise, first by first.
use Rattle.std.proofs.Common.{◌≡◌, ℕ, ◌+◌, ◌<◌, suc, zero, List, [], ◌∷◌, map, slice_index, subst, arith}
use Rattle.std.specs.List.{AllByRecursion}
use Rattle.std.specs.List.Sorted.{IsStrictlyIncreasing}

pub rise_one : (x : ℕ) → IsStrictlyIncreasing (x ∷ [])
rise_one x k inside = absurd (omega (arith, inside))

pub rise_none : IsStrictlyIncreasing []
rise_none k inside = absurd (omega (arith, inside))

pub rise_cons : (x y : ℕ) (xs : List ℕ) → x < y → IsStrictlyIncreasing (y ∷ xs) → IsStrictlyIncreasing (x ∷ (y ∷ xs))
rise_cons x y xs less h zero inside = less
rise_cons x y xs less h (suc k) inside = let e : suc k + 1 ≡ suc (k + 1) = omega arith in rw e (h k (omega arith))

pub rise_tail : (x : ℕ) (xs : List ℕ) → IsStrictlyIncreasing (x ∷ xs) → IsStrictlyIncreasing xs
rise_tail x xs h k inside =
    let e : suc k + 1 ≡ suc (k + 1) = omega arith in
    subst (λ n. slice_index xs k < slice_index (x ∷ xs) n) e (h (suc k) (omega arith))

pub rise_first : (x y : ℕ) (xs : List ℕ) → IsStrictlyIncreasing (x ∷ (y ∷ xs)) → x < y
rise_first x y xs h = h 0 (omega arith)

pub rise_skip : (x y : ℕ) (xs : List ℕ) → IsStrictlyIncreasing (x ∷ (y ∷ xs)) → IsStrictlyIncreasing (x ∷ xs)
rise_skip x y [] h = rise_one x
rise_skip x y (z ∷ xs) h =
    let low : x < y = rise_first x y (z ∷ xs) h in
    let tail : IsStrictlyIncreasing (y ∷ (z ∷ xs)) = rise_tail x (y ∷ (z ∷ xs)) h in
    let high : y < z = rise_first y z xs tail in
    rise_cons x z xs (omega arith) (rise_tail y (z ∷ xs) tail)

module _ {X : Type 0} (number : X → ℕ) where
  -- all of them are above a number
  abbrev pub AreAbove : ℕ → List X → Type 0
  AreAbove n xs = AllByRecursion (λ x. n < number x) xs

  -- they rise
  abbrev pub AreRising : List X → Type 0
  AreRising [] = Unit {0}
  AreRising (x ∷ xs) = AreAbove (number x) xs × AreRising xs

  above_of : (n : ℕ) (xs : List X) → IsStrictlyIncreasing (n ∷ map number xs) → AreAbove n xs
  above_of n [] h = tt
  above_of n (x ∷ xs) h = (rise_first n (number x) (map number xs) h, above_of n xs (rise_skip n (number x) (map number xs) h))

  pub rising_of : (xs : List X) → IsStrictlyIncreasing (map number xs) → AreRising xs
  rising_of [] h = tt
  rising_of (x ∷ xs) h = (above_of (number x) xs h, rising_of xs (rise_tail (number x) (map number xs) h))
