-- Positions that rise.
use Rattle.std.proofs.Common.{◌≡◌, ℕ, zero, suc, ◌+◌, ◌<◌, ◌≤◌, Bool, true, false, ◌||◌, List, [], ◌∷◌, ◌++◌, length, take, drop, get_or, refl, sym, ap, ◌∙◌, arith}
use Rattle.std.specs.Prelude.{nat_lt, nat_le}
use Rattle.std.specs.List.{All, AllByRecursion, filter, list_any}
use Rattle.std.proofs.lemmas.Bool.Decides.{nat_tests}
use Rattle.stripe_placer.specs.Entries.{Rises}
use Rattle.pblk_model.proofs.Tests.{le_of_lt_false, le_true, lt_true, not_before}

pub le_false : (a b : ℕ) → b < a → nat_le a b ≡ false
le_false a b h = grind (arith, nat_tests)

-- each is at least x
abbrev AreFrom : ℕ → List ℕ → Type 0
AreFrom x xs = AllByRecursion (λ y. x ≤ y) xs

from_lower : (a b : ℕ) (xs : List ℕ) → a ≤ b → AreFrom b xs → AreFrom a xs
from_lower a b [] h all = tt
from_lower a b (x ∷ xs) h all = (omega (arith, all.0), from_lower a b xs h all.1)

from_at : (a k : ℕ) (xs : List ℕ) → AreFrom a xs → k < length xs → a ≤ get_or xs k 0
from_at a k [] all h = absurd (omega arith)
from_at a zero (x ∷ xs) all h = all.0
from_at a (suc k) (x ∷ xs) all h = from_at a k xs all.1 (omega arith)

none_below : (p x : ℕ) (xs : List ℕ) → AreFrom x xs → p ≤ x → list_any (λ q. nat_lt q p) xs ≡ false
none_below p x [] h e = refl
none_below p x (y ∷ ys) h e = rw (not_before y p (omega (arith, h.0))) (none_below p x ys h.1 e)

or_decided : (b rest : Bool) → (b ≡ false → rest ≡ false) → b ≡ b || rest
or_decided true rest h = refl
or_decided false rest h = sym (h refl)

-- the first decides whether one lies below
pub first_below : (p f : ℕ) (xs : List ℕ) → Rises xs → 0 < length xs → f ≡ get_or xs 0 f → nat_lt f p ≡ list_any (λ q. nat_lt q p) xs
first_below p f [] h some first = absurd (omega arith)
first_below p f (x ∷ xs) h some first =
    ap (λ y. nat_lt y p) first ∙ or_decided (nat_lt x p) (list_any (λ q. nat_lt q p) xs) (λ e. none_below p x xs h.0 (le_of_lt_false x p e))

-- Where a position belongs among them.
pub record IsPlace (xs : List ℕ) (i p : ℕ) : Type 0 where
  pub inside : i ≤ length xs
  pub below : (k : ℕ) → k + 1 ≡ i → get_or xs k 0 < p
  pub above : i < length xs → p ≤ get_or xs i 0

pub none_under : (p x : ℕ) (xs : List ℕ) → AreFrom x xs → p ≤ x → filter (λ q. nat_lt q p) xs ≡ []
none_under p x [] h e = refl
none_under p x (y ∷ ys) h e = rw (not_before y p (omega (arith, h.0))) (none_under p x ys h.1 e)

pub all_over : (p x : ℕ) (xs : List ℕ) → AreFrom x xs → p ≤ x → filter (λ q. nat_le p q) xs ≡ xs
all_over p x [] h e = refl
all_over p x (y ∷ ys) h e = rw (le_true p y (omega (arith, h.0))) (ap (λ zs. y ∷ zs) (all_over p x ys h.1 e))

later_place : (x i p : ℕ) (xs : List ℕ) → IsPlace (x ∷ xs) (suc i) p → IsPlace xs i p
later_place x i p xs at = record {
  inside = omega (arith, at.inside);
  below = λ k e. at.below (suc k) (omega (arith, e));
  above = λ h. at.above (omega (arith, h));
}

first_is_below : (x i p : ℕ) (xs : List ℕ) → Rises (x ∷ xs) → IsPlace (x ∷ xs) (suc i) p → x < p
first_is_below x zero p xs rise at = at.below 0 (omega arith)
first_is_below x (suc i) p xs rise at =
    let short : suc i ≤ length xs = omega (arith, at.inside) in
    let last : get_or xs i 0 < p = at.below (suc i) (omega arith) in
    omega (arith, from_at x i xs rise.0 (omega arith))

pub place_below : (xs : List ℕ) (i p : ℕ) → Rises xs → IsPlace xs i p → take i xs ≡ filter (λ q. nat_lt q p) xs
place_below [] zero p rise at = refl
place_below [] (suc i) p rise at = absurd (omega (arith, at.inside))
place_below (x ∷ xs) zero p rise at =
    let up : p ≤ x = at.above (omega arith) in
    rw (not_before x p up) (sym (none_under p x xs rise.0 up))
place_below (x ∷ xs) (suc i) p rise at =
    rw (lt_true x p (first_is_below x i p xs rise at)) (ap (λ ys. x ∷ ys) (place_below xs i p rise.1 (later_place x i p xs at)))

pub place_above : (xs : List ℕ) (i p : ℕ) → Rises xs → IsPlace xs i p → drop i xs ≡ filter (λ q. nat_le p q) xs
place_above [] zero p rise at = refl
place_above [] (suc i) p rise at = absurd (omega (arith, at.inside))
place_above (x ∷ xs) zero p rise at =
    let up : p ≤ x = at.above (omega arith) in
    rw (le_true p x up) (ap (λ ys. x ∷ ys) (sym (all_over p x xs rise.0 up)))
place_above (x ∷ xs) (suc i) p rise at =
    rw (le_false p x (first_is_below x i p xs rise at)) (place_above xs i p rise.1 (later_place x i p xs at))

from_placed : (a i p : ℕ) (xs : List ℕ) → AreFrom a xs → a ≤ p → AreFrom a (take i xs ++ p ∷ drop i xs)
from_placed a zero p [] all h = (h, tt)
from_placed a (suc i) p [] all h = (h, tt)
from_placed a zero p (x ∷ xs) all h = (h, all)
from_placed a (suc i) p (x ∷ xs) all h = (all.0, from_placed a i p xs all.1 h)

pub place_rises : (xs : List ℕ) (i p : ℕ) → Rises xs → IsPlace xs i p → Rises (take i xs ++ p ∷ drop i xs)
place_rises [] zero p rise at = (tt, tt)
place_rises [] (suc i) p rise at = absurd (omega (arith, at.inside))
place_rises (x ∷ xs) zero p rise at =
    let up : p ≤ x = at.above (omega arith) in
    ((up, from_lower p x xs up rise.0), rise)
place_rises (x ∷ xs) (suc i) p rise at =
    let below : x < p = first_is_below x i p xs rise at in
    (from_placed x i p xs rise.0 (omega arith), place_rises xs i p rise.1 (later_place x i p xs at))

from_last : (a p : ℕ) (xs : List ℕ) → AreFrom a xs → a ≤ p → AreFrom a (xs ++ p ∷ [])
from_last a p [] all h = (h, tt)
from_last a p (x ∷ xs) all h = (all.0, from_last a p xs all.1 h)

pub last_rises : (xs : List ℕ) (p : ℕ) → Rises xs → All (λ q. q < p) xs → Rises (xs ++ p ∷ [])
last_rises [] p rise all = (tt, tt)
last_rises (x ∷ xs) p rise all =
    let here : x < p = all 0 0 (omega arith) in
    (from_last x p xs rise.0 (omega arith), last_rises xs p rise.1 (λ k d h. all (suc k) d (omega arith)))

pub drop_rises : (n : ℕ) (xs : List ℕ) → Rises xs → Rises (drop n xs)
drop_rises zero xs rise = rise
drop_rises (suc n) [] rise = tt
drop_rises (suc n) (x ∷ xs) rise = drop_rises n xs rise.1
