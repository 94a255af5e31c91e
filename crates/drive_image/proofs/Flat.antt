-- Lists of lists of one length as one list, of which one element is changed.
use Rattle.std.proofs.Common.{◌≡◌, ℕ, ◌+◌, ◌-◌, ◌*◌, zero, suc, ◌<◌, ◌≤◌, Option, Some, None, List, [], ◌∷◌, ◌++◌, length, slice_get, slice_set, refl, sym, ap, ◌∙◌, subst, arith, append_assoc, append-nil}
use Rattle.std.specs.List.{AllByRecursion, flat_map}
use Rattle.std.specs.Option.{option_map_or}
use Rattle.std.proofs.lemmas.List.{set-append_left, set-append_right}
use Rattle.std.proofs.lemmas.Option.{none-some, same_Some}
use Rattle.pblk_laws.proofs.ImageBytesFlat.{flat}
use Rattle.ocssd_drive.specs.Drive.{changed_at}

changed_cons : {X : Type 0} (change : X → X) (y : X) (o : Option X) (xs : List X) (u : ℕ)
    → option_map_or (λ x. slice_set (y ∷ xs) (suc u) (change x)) o (y ∷ xs) ≡ y ∷ option_map_or (λ x. slice_set xs u (change x)) o xs
changed_cons change y None xs u = refl
changed_cons change y (Some x) xs u = refl

pub changed_next : {X : Type 0} (change : X → X) (y : X) (xs : List X) (u : ℕ) → changed_at change (suc u) (y ∷ xs) ≡ y ∷ changed_at change u xs
changed_next change y xs u = changed_cons change y (slice_get xs u) xs u

-- changing one element of one of the lists changes the one list there
pub flat_changed : {X : Type 0} (n : ℕ) (xss : List (List X)) (u j : ℕ) (x : X) → AllByRecursion (λ xs. length xs ≡ n) xss → j < n
    → flat (changed_at (λ xs. slice_set xs j x) u xss) ≡ slice_set (flat xss) (u * n + j) x
flat_changed n [] u j x all within = refl
flat_changed n (ys ∷ xss) zero j x all within =
    let first : length ys ≡ n = all.0 in
    let place : j ≡ zero * n + j = omega arith in
    sym (set-append_left ys (flat xss) j x (omega arith)) ∙ ap (λ i. slice_set (ys ++ flat xss) i x) place
flat_changed n (ys ∷ xss) (suc u) j x all within =
    let place : suc u * n + j - n ≡ u * n + j = omega arith in
    ap flat (changed_next (λ xs. slice_set xs j x) ys xss u)
    ∙ (ap (λ zs. ys ++ zs) (flat_changed n xss u j x all.1 within)
    ∙ (ap (λ i. ys ++ slice_set (flat xss) i x) (sym place)
    ∙ sym (set-append_right ys (flat xss) n (suc u * n + j) x all.0 (omega arith))))

-- What holds of each element, where one is changed.

pub all_changed : {X : Type 0} (P : X → Type 0) (change : X → X) (u : ℕ) (xs : List X) → ((x : X) → P x → P (change x)) → AllByRecursion P xs
    → AllByRecursion P (changed_at change u xs)
all_changed P change u [] step all = tt
all_changed P change zero (x ∷ xs) step all = (step x all.0, all.1)
all_changed P change (suc u) (x ∷ xs) step all = subst (AllByRecursion P) (sym (changed_next change x xs u)) (all.0, all_changed P change u xs step all.1)

-- What is spelled, where nothing was from there on.

pub record AreEmptyFrom {X : Type 0} (f : X → List ℕ) (n : ℕ) (xs : List X) : Type 0 where
  pub empty : (m : ℕ) (x : X) → n ≤ m → slice_get xs m ≡ Some x → f x ≡ []

empty_tail : {X : Type 0} (f : X → List ℕ) (n : ℕ) (x : X) (xs : List X) → AreEmptyFrom f (suc n) (x ∷ xs) → AreEmptyFrom f n xs
empty_tail f n x xs h = record { empty = λ m y within is. h.empty (suc m) y (omega arith) is }

pub empty_all : {X : Type 0} (f : X → List ℕ) (xs : List X) → AreEmptyFrom f 0 xs → flat_map f xs ≡ []
empty_all f [] h = refl
empty_all f (x ∷ xs) h =
    let rest : AreEmptyFrom f 0 xs = record { empty = λ m y within is. h.empty (suc m) y (omega arith) is } in
    ap (λ ys. ys ++ flat_map f xs) (h.empty 0 x (omega arith) refl) ∙ empty_all f xs rest

pub spelled_more : {X : Type 0} (f : X → List ℕ) (xs : List X) (n : ℕ) (k : X) → n < length xs → AreEmptyFrom f n xs
    → flat_map f (slice_set xs n k) ≡ flat_map f xs ++ f k
spelled_more f [] n k within h = absurd (omega arith)
spelled_more f (x ∷ xs) zero k within h =
    let rest : AreEmptyFrom f 0 xs = record { empty = λ m y low is. h.empty (suc m) y (omega arith) is } in
    ap (λ ys. f k ++ ys) (empty_all f xs rest) ∙ (append-nil (f k) ∙ ap (λ ys. ys ++ f k) (sym (empty_all f (x ∷ xs) h)))
spelled_more f (x ∷ xs) (suc n) k within h =
    ap (λ ys. f x ++ ys) (spelled_more f xs n k (omega arith) (empty_tail f n x xs h)) ∙ sym (append_assoc (f x) (flat_map f xs) (f k))

pub get_same : {X : Type 0} (xs : List X) (n : ℕ) (k x : X) → slice_get (slice_set xs n k) n ≡ Some x → x ≡ k
get_same [] n k x is = absurd (none-some x is)
get_same (y ∷ xs) zero k x is = sym (same_Some k x is)
get_same (y ∷ xs) (suc n) k x is = get_same xs n k x is

pub get_other : {X : Type 0} (xs : List X) (n m : ℕ) (k : X) → (n ≡ m → ⊥) → slice_get (slice_set xs n k) m ≡ slice_get xs m
get_other [] n m k other = refl
get_other (y ∷ xs) zero zero k other = absurd (other refl)
get_other (y ∷ xs) zero (suc m) k other = refl
get_other (y ∷ xs) (suc n) zero k other = refl
get_other (y ∷ xs) (suc n) (suc m) k other = get_other xs n m k (λ same. other (ap suc same))
