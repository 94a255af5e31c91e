-- What a search finds among faults whose numbers fall, and what an insert at that place does.
use Rattle.std.proofs.Common.{◌≡◌, ℕ, zero, suc, ◌^◌, ◌<◌, ◌≤◌, ◌≢◌, List, [], ◌∷◌, length, take, drop, get_or, None, Result, Ok, Err, IfSome, IfNone, IsSome, refl, sym, arith}
use Rattle.std.specs.List.{AllByRecursion, AllWithin, insert}
use Rattle.std.specs.List.Sorted.{IsSearchInRange, IsBinarySearchResult}
use Rattle.std.specs.Option.{option_or}
use Rattle.std.specs.Result.{result_err}
use Rattle.std.specs.Ordering.{nat_cmp, ordering_index}
use Rattle.std.proofs.lemmas.Bool.Decides.{nat_tests}
use Rattle.std.proofs.lemmas.Cmp.{ranked}
use Rattle.std.proofs.lemmas.Option.{slice_get-get_or}
use Rattle.std.proofs.lemmas.List.Elements.{All-from_recursion, recursion_from_All}
use Rattle.ocssd_drive.specs.declared.tally.Fall.{Fall}
use Rattle.ocssd_drive.specs.Tally.{cut_of, IsFalling, IsPlace}
use Rattle.ocssd_drive.proofs.FallingOrder.{cut_of-absent, cut_of-at}
use Rattle.pblk_model.proofs.Lists.{all_imply}

pub all-insert : {X : Type 0} (P : X → Type 0) (xs : List X) (at : ℕ) (x : X) → AllByRecursion P xs → P x → AllByRecursion P (insert xs at x)
all-insert P xs zero x all this = (this, all)
all-insert P [] (suc at) x all this = (this, tt)
all-insert P (y ∷ ys) (suc at) x all this = (all.0, all-insert P ys at x all.1 this)

place_tail : (f : Fall) (falls : List Fall) (n at : ℕ) → IsPlace (f ∷ falls) n (suc at) → IsPlace falls n at
place_tail f falls n at place = record { within = omega (arith, place.within); later = place.later.1; earlier = place.earlier }

-- a fault in its place keeps the order
pub IsFalling-insert : (falls : List Fall) (at : ℕ) (fall : Fall) → IsFalling falls → IsPlace falls fall.nth at → 0 < fall.nth → fall.nth < 2 ^ 32 → IsFalling (insert falls at fall)
IsFalling-insert falls zero fall falling place counted fits = (counted, fits, place.earlier, falling)
IsFalling-insert [] (suc at) fall falling place counted fits = absurd (omega (arith, place.within))
IsFalling-insert (f ∷ falls) (suc at) fall falling place counted fits =
    (falling.0, falling.1, all-insert _ falls at fall falling.2 place.later.0, IsFalling-insert falls at fall falling.3 (place_tail f falls _ at place) counted fits)

-- and adds its cut, on its command alone
pub cut_of-insert : (falls : List Fall) (at : ℕ) (fall : Fall) → IsPlace falls fall.nth at → (m : ℕ) → cut_of (insert falls at fall) m ≡ option_or (cut_of falls m) (cut_of (fall ∷ []) m)
cut_of-insert falls zero fall place m =
    let none : fall.nth ≡ m → cut_of falls m ≡ None = λ same. cut_of-absent falls m (all_imply (λ (f : Fall). f.nth < fall.nth) (λ (f : Fall). f.nth ≢ m) (λ f below is. omega arith) falls place.earlier) in
    grind (arith, nat_tests)
cut_of-insert [] (suc at) fall place m = absurd (omega (arith, place.within))
cut_of-insert (f ∷ falls) (suc at) fall place m =
    let rest = cut_of-insert falls at fall (place_tail f falls _ at place) m in
    grind (arith, nat_tests)

-- A binary search asks that the comparisons with n rise along the list: they do, since the numbers fall.

comparison_rises : (n a b : ℕ) → b ≤ a → ordering_index (nat_cmp n a) ≤ ordering_index (nat_cmp n b)
comparison_rises n a b le = grind (arith, nat_tests)

numbers_fall : (falls : List Fall) → IsFalling falls → (i j : ℕ) (d : Fall) → i ≤ j → j < length falls → (get_or falls j d).nth ≤ (get_or falls i d).nth
numbers_fall [] falling i j d le below = absurd (omega arith)
numbers_fall (f ∷ falls) falling zero zero d le below = omega arith
numbers_fall (f ∷ falls) falling zero (suc j) d le below = let lower = All-from_recursion _ falls falling.2 j d (omega arith) in omega arith
numbers_fall (f ∷ falls) falling (suc i) zero d le below = absurd (omega arith)
numbers_fall (f ∷ falls) falling (suc i) (suc j) d le below = numbers_fall falls falling.3 i j d (omega arith) (omega arith)

all_front : {X : Type 0} (P : X → Type 0) (xs : List X) (at : ℕ) → AllWithin P xs 0 at → AllByRecursion P (take at xs)
all_front P xs zero all = tt
all_front P [] (suc at) all = tt
all_front P (x ∷ xs) (suc at) all = (all 0 x (omega arith) (omega arith), all_front P xs at (λ k d low high. all (suc k) d (omega arith) (omega arith)))

all_back : {X : Type 0} (P : X → Type 0) (xs : List X) (at : ℕ) → AllWithin P xs at (length xs) → AllByRecursion P (drop at xs)
all_back P xs zero all = recursion_from_All P xs (λ k d high. all k d (omega arith) high)
all_back P [] (suc at) all = tt
all_back P (x ∷ xs) (suc at) all = all_back P xs at (λ k d low high. all (suc k) d (omega arith) (omega arith))

-- A binary search ends at a fault on the nth command, or at the place for one.
module _ (falls : List Fall) (falling : IsFalling falls) (n : ℕ) where
  pub searched_place : (r : Result ℕ ℕ) → IsSearchInRange r (length falls) → IsBinarySearchResult (λ (f : Fall). nat_cmp n f.nth) falls r → IfSome (result_err r) (IsPlace falls n)
  searched_place (Ok at) in_range equal = tt
  searched_place (Err at) in_range parted =
      let parts = parted (λ i j d le below. comparison_rises n _ _ (numbers_fall falls falling i j d le below)) in
      record {
        within = in_range;
        later = all_front _ falls at (λ k d low high. ranked n _ _ (sym (parts.0 k d low high)));
        earlier = all_back _ falls at (λ k d low high. ranked n _ _ (sym (parts.1 k d low high)));
      }

  pub searched_taken : (r : Result ℕ ℕ) → IsSearchInRange r (length falls) → IsBinarySearchResult (λ (f : Fall). nat_cmp n f.nth) falls r → IfNone (result_err r) (IsSome (cut_of falls n))
  searched_taken (Ok at) in_range equal =
      let none : Fall = record { nth = 0; cut = 0 } in
      let is : n ≡ (get_or falls at none).nth = ranked n _ _ (sym (equal none)) in
      rw (cut_of-at falls at n (get_or falls at none) falling (slice_get-get_or falls at none in_range) (sym is)) refl
  searched_taken (Err at) in_range parted = tt
