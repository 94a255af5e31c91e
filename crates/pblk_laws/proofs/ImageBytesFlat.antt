-- Lists of lists of one length as one list.
use Rattle.std.proofs.Common.{◌≡◌, ℕ, ◌+◌, ◌*◌, ◌/◌, ◌%◌, zero, suc, ◌<◌, Some, List, [], ◌∷◌, ◌++◌, length, length-append, get_or, refl, sym, ap, ◌∙◌, subst, arith}
use Rattle.std.specs.List.{AllByRecursion, flat_map, range_with_len, slice_get, sum_by}
use Rattle.std.proofs.lemmas.Grind.{flat_map-append}
use Rattle.std.proofs.lemmas.List.Sums.{sum_by-cons}
use Rattle.std.proofs.lemmas.Nat.{div-add-mod', div_below, mod_below}
use Rattle.std.proofs.lemmas.Option.{none-some, same_Some, slice_get-get_or}
use Rattle.pblk_model.proofs.Lists.{all_append}
use Rattle.pblk_model.proofs.Parts.{all_get, get_more, get_right}

abbrev pub flat : {X : Type 0} → List (List X) → List X
flat xss = flat_map (λ xs. xs) xss

pub flat_of_flat : {X Y : Type 0} (f : X → List Y) (xss : List (List X)) → flat_map (flat_map f) xss ≡ flat_map f (flat xss)
flat_of_flat f [] = refl
flat_of_flat f (xs ∷ xss) = ap (λ ys. flat_map f xs ++ ys) (flat_of_flat f xss) ∙ sym (flat_map-append f xs (flat xss))

pub length_of_flat : {X : Type 0} (n : ℕ) (xss : List (List X)) → AllByRecursion (λ xs. length xs ≡ n) xss → length (flat xss) ≡ length xss * n
length_of_flat n [] all = omega arith
length_of_flat n (xs ∷ xss) all =
    let first : length xs ≡ n = all.0 in
    let rest : length (flat xss) ≡ length xss * n = length_of_flat n xss all.1 in
    omega (arith, length-append xs (flat xss))

pub all_flat : {X : Type 0} (P : X → Type 0) (xss : List (List X)) → AllByRecursion (AllByRecursion P) xss → AllByRecursion P (flat xss)
all_flat P [] h = tt
all_flat P (xs ∷ xss) h = all_append P xs (flat xss) h.0 (all_flat P xss h.1)

pub flat_get : {X : Type 0} (n : ℕ) (xss : List (List X)) (u j : ℕ) (xs : List X) (x : X) → AllByRecursion (λ xs. length xs ≡ n) xss
    → slice_get xss u ≡ Some xs → slice_get xs j ≡ Some x → slice_get (flat xss) (u * n + j) ≡ Some x
flat_get n [] u j xs x all list is = absurd (none-some xs list)
flat_get n (ys ∷ xss) zero j xs x all list is =
    let same : ys ≡ xs = same_Some ys xs list in
    let place : zero * n + j ≡ j = omega arith in
    ap (slice_get (ys ++ flat xss)) place ∙ get_more ys (flat xss) j x (ap (λ zs. slice_get zs j) same ∙ is)
flat_get n (ys ∷ xss) (suc u) j xs x all list is =
    let first : length ys ≡ n = all.0 in
    let place : suc u * n + j ≡ length ys + (u * n + j) = omega arith in
    ap (slice_get (ys ++ flat xss)) place ∙ (get_right ys (flat xss) (u * n + j) ∙ flat_get n xss u j xs x all.1 list is)

-- the n-th of all is in a list of them
pub record IsFlatAt {X : Type 0} (c : ℕ) (xss : List (List X)) (n : ℕ) (x : X) : Type 0 where
  pub list : List X
  pub there : slice_get xss (n / c) ≡ Some list
  pub is : slice_get list (n % c) ≡ Some x

pub flat_at : {X : Type 0} (c : ℕ) (xss : List (List X)) (n : ℕ) (x : X) → AllByRecursion (λ xs. length xs ≡ c) xss → 0 < c → n < length xss * c
    → slice_get (flat xss) n ≡ Some x
    → IsFlatAt c xss n x
flat_at c xss n x all some inside is =
    let low : n / c < length xss = div_below n c (length xss) some inside in
    let list = get_or xss (n / c) [] in
    let there : slice_get xss (n / c) ≡ Some list = slice_get-get_or xss (n / c) [] low in
    let count : length list ≡ c = all_get (λ xs. length xs ≡ c) xss (n / c) list all there in
    let within : n % c < length list = subst (λ m. n % c < m) (sym count) (mod_below n c some) in
    let found : slice_get list (n % c) ≡ Some (get_or list (n % c) x) = slice_get-get_or list (n % c) x within in
    let place : n / c * c + n % c ≡ n = div-add-mod' n c in
    let same : get_or list (n % c) x ≡ x =
    same_Some _ x (sym (flat_get c xss (n / c) (n % c) list (get_or list (n % c) x) all there found) ∙ (ap (slice_get (flat xss)) place ∙ is)) in
    record { list = list; there = there; is = found ∙ ap (λ y. Some y) same }

-- Sums.

sum_from : {X : Type 0} (g : X → ℕ) (f : ℕ → ℕ) (a : ℕ) (xs : List X) → ((n : ℕ) (x : X) → slice_get xs n ≡ Some x → f (a + n) ≡ g x)
    → sum_by f (range_with_len a (length xs)) ≡ sum_by g xs
sum_from g f a [] each = refl
sum_from g f a (x ∷ xs) each =
    let here : a + 0 ≡ a = omega arith in
    let first : f a ≡ g x = ap f (sym here) ∙ each 0 x refl in
    let rest : sum_by f (range_with_len (a + 1) (length xs)) ≡ sum_by g xs =
    sum_from g f (a + 1) xs (λ n y is. let next : a + 1 + n ≡ a + suc n = omega arith in ap f next ∙ each (suc n) y is) in
    let left : sum_by f (range_with_len a (length (x ∷ xs))) ≡ f a + sum_by f (range_with_len (a + 1) (length xs)) =
    sum_by-cons f a (range_with_len (a + 1) (length xs)) in
    let right : sum_by g (x ∷ xs) ≡ g x + sum_by g xs = sum_by-cons g x xs in
    omega arith

pub sum_of_range : {X : Type 0} (g : X → ℕ) (f : ℕ → ℕ) (xs : List X) → ((n : ℕ) (x : X) → slice_get xs n ≡ Some x → f n ≡ g x)
    → sum_by f (range_with_len 0 (length xs)) ≡ sum_by g xs
sum_of_range g f xs each = sum_from g f 0 xs (λ n x is. let same : 0 + n ≡ n = omega arith in ap f same ∙ each n x is)
