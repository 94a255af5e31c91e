-- The elements and the parts of lists.
use Rattle.std.proofs.Common.{List, None, Some, [], add-one, ap, append_assoc, ap₂, arith, drop, drop-cons, get_or, inl, inr, length, length-drop, refl, slice_get, slice_range, slice_set, subst, suc, sym, take, take-add, true, zero, zero-add, ℕ, ◌++◌, ◌+◌, ◌-◌, ◌<◌, ◌∙◌, ◌∷◌, ◌≡◌, ◌≢◌, ◌≤◌, ◌⊎◌}
use Rattle.std.proofs.lemmas.Bool.{cases_order}
use Rattle.std.proofs.lemmas.List.{drop-drop, drop_all, length-take, length-take-le, take-append-drop}
use Rattle.std.proofs.lemmas.Option.{get_or_from_slice_get, none-some, same_Some, slice_get_within}
use Rattle.std.proofs.lemmas.Slice.{drop-put_mid, take-put_mid}
use Rattle.std.specs.List.{AllByRecursion, Contains}
use Rattle.std.specs.List.Sorted.{IsStrictlyIncreasing}
use Rattle.std.specs.Option.{IfSome, is_some}
use Rattle.std.specs.Prelude.{slice_index}
use Rattle.pblk_model.proofs.Lists.{IsAmong, later, rises_far}
use borrow.Rule.Slice.PartMut.{put_mid}
use lib.ListN.{get_elem?}
use mathlib.Core.Option.{some, some-injective, some-ne-none}

pub all_at : {X : Type 0} (P : X → Type 0) (xs : List X) (k : ℕ) (x : X) → slice_get xs k ≡ Some x → AllByRecursion P xs → P x
all_at P [] k x e all = absurd (none-some x e)
all_at P (y ∷ ys) zero x e all = subst P (same_Some y x e) all.0
all_at P (y ∷ ys) (suc k) x e all = all_at P ys k x e all.1

-- there is an element at each place inside
pub got_within : {X : Type 0} (xs : List X) (k : ℕ) → k < length xs → (x : X) × (slice_get xs k ≡ Some x)
got_within [] k h = absurd (omega arith)
got_within (x ∷ xs) zero h = (x, refl)
got_within (x ∷ xs) (suc k) h = got_within xs k (omega arith)

pub all_dropped : {X : Type 0} (P : X → Type 0) (n : ℕ) (xs : List X) → AllByRecursion P xs → AllByRecursion P (drop n xs)
all_dropped P zero xs all = all
all_dropped P (suc n) [] all = tt
all_dropped P (suc n) (x ∷ xs) all = all_dropped P n xs all.1

pub get_more : {X : Type 0} (xs ys : List X) (n : ℕ) (x : X) → slice_get xs n ≡ Some x → slice_get (xs ++ ys) n ≡ Some x
get_more [] ys n x e = absurd (none-some x e)
get_more (y ∷ xs) ys zero x e = e
get_more (y ∷ xs) ys (suc n) x e = get_more xs ys n x e

pub get_whole : {X : Type 0} (m : ℕ) (xs : List X) (n : ℕ) (x : X) → slice_get (take m xs) n ≡ Some x → slice_get xs n ≡ Some x
get_whole zero xs n x e = absurd (none-some x e)
get_whole (suc m) [] n x e = e
get_whole (suc m) (y ∷ xs) zero x e = e
get_whole (suc m) (y ∷ xs) (suc n) x e = get_whole m xs n x e

pub get_taken : {X : Type 0} (m : ℕ) (xs : List X) (n : ℕ) → n < m → slice_get (take m xs) n ≡ slice_get xs n
get_taken zero xs n h = absurd (omega arith)
get_taken (suc m) [] n h = refl
get_taken (suc m) (x ∷ xs) zero h = refl
get_taken (suc m) (x ∷ xs) (suc n) h = get_taken m xs n (omega arith)

-- what stands at a place is in the list
pub is_in : {X : Type 0} (xs : List X) (k : ℕ) (x : X) → slice_get xs k ≡ Some x → Contains xs x
is_in xs k x e = (k, slice_get_within xs k x e, get_or_from_slice_get xs k x x e)

pub get_dropped : {X : Type 0} (n : ℕ) (xs : List X) (r : ℕ) → slice_get (drop n xs) r ≡ slice_get xs (n + r)
get_dropped zero xs r = ap (slice_get xs) (let same : r ≡ 0 + r = omega arith in same)
get_dropped (suc n) [] r = refl
get_dropped (suc n) (x ∷ xs) r = get_dropped n xs r ∙ ap (slice_get (x ∷ xs)) (let same : suc (n + r) ≡ suc n + r = omega arith in same)

pub none_past : {X : Type 0} (xs : List X) (k : ℕ) → slice_get xs k ≡ None → length xs ≤ k
none_past [] k e = omega arith
none_past (x ∷ xs) zero e = absurd cc
none_past (x ∷ xs) (suc k) e = let rest : length xs ≤ k = none_past xs k e in omega arith

-- an element set to itself
pub set_same : {X : Type 0} (xs : List X) (k : ℕ) (x : X) → slice_get xs k ≡ Some x → slice_set xs k x ≡ xs
set_same [] k x e = refl
set_same (y ∷ xs) zero x e = ap (λ z. z ∷ xs) (sym (same_Some y x e))
set_same (y ∷ xs) (suc k) x e = ap (λ zs. y ∷ zs) (set_same xs k x e)

pub get_set_other : {X : Type 0} (xs : List X) (k m : ℕ) (x : X) → m ≢ k → slice_get (slice_set xs k x) m ≡ slice_get xs m
get_set_other [] k m x other = refl
get_set_other (y ∷ xs) zero zero x other = absurd (other refl)
get_set_other (y ∷ xs) zero (suc m) x other = refl
get_set_other (y ∷ xs) (suc k) zero x other = refl
get_set_other (y ∷ xs) (suc k) (suc m) x other = get_set_other xs k m x (λ e. other (ap suc e))

pub get_set_same : {X : Type 0} (xs : List X) (k : ℕ) (x : X) → k < length xs → slice_get (slice_set xs k x) k ≡ Some x
get_set_same [] k x inside = absurd (omega arith)
get_set_same (y ∷ ys) zero x inside = refl
get_set_same (y ∷ ys) (suc k) x inside = get_set_same ys k x (omega arith)

-- a part that was written over
pub put_part : (at n : ℕ) (xs ys zs : List ℕ) → ys ≡ zs → n ≡ length zs → at + length zs ≤ length xs
    → put_mid at n xs ys ≡ take at xs ++ (zs ++ drop (at + length zs) xs)
put_part at n xs ys zs same long fits =
    let end = at + length zs in
    let ys_long : length ys ≡ n = ap length same ∙ sym long in
    let front = take-put_mid at n xs ys end (ap (λ k. at + k) (sym long ∙ sym ys_long)) (omega (arith, fits)) in
    let back = drop-put_mid at n xs ys end (omega (arith, long)) (omega (arith, fits)) ys_long in
    sym (take-append-drop end (put_mid at n xs ys)) ∙ ap (λ f. f ++ drop end (put_mid at n xs ys)) front ∙ ap (λ b. (take at xs ++ ys) ++ b) back
    ∙ append_assoc (take at xs) ys (drop end xs) ∙ ap (λ y. take at xs ++ (y ++ drop end xs)) same

pub take_next : {X : Type 0} (xs : List X) (i : ℕ) (x : X) → slice_get xs i ≡ Some x → take (suc i) xs ≡ take i xs ++ x ∷ []
take_next [] i x e = absurd (cc e)
take_next (y ∷ xs) zero x e = ap (λ z. z ∷ []) (cc e)
take_next (y ∷ xs) (suc i) x e = ap (λ ys. y ∷ ys) (take_next xs i x e)

pub take_whole : (xs : List ℕ) → take (length xs) xs ≡ xs
take_whole [] = refl
take_whole (x ∷ xs) = ap (λ ys. x ∷ ys) (take_whole xs)

-- a list with a first element
pub take-all : {X : Type 0} (xs : List X) → take (length xs) xs ≡ xs
take-all [] = refl
take-all (x ∷ xs) = ap (λ ys. x ∷ ys) (take-all xs)

pub all_get : {X : Type 0} (P : X → Type 0) (xs : List X) (k : ℕ) (x : X) → AllByRecursion P xs → slice_get xs k ≡ Some x → P x
all_get P [] k x h e = absurd (none-some x e)
all_get P (y ∷ ys) zero x h e = subst P (same_Some y x e) h.0
all_get P (y ∷ ys) (suc k) x h e = all_get P ys k x h.1 e

pub get_first : {X : Type 0} (xs ys : List X) (k : ℕ) → k < length xs → slice_get (xs ++ ys) k ≡ slice_get xs k
get_first [] ys k h = absurd (omega arith)
get_first (x ∷ xs) ys zero h = refl
get_first (x ∷ xs) ys (suc k) h = get_first xs ys k (omega arith)

pub not_less : (xs : List ℕ) (a b v : ℕ) → IsStrictlyIncreasing xs → slice_get xs a ≡ Some v → slice_get xs b ≡ Some v → a < b → ⊥
not_less xs a b v rise first second below =
    let inside : b < length xs = slice_get_within xs b v second in
    let far : a + suc (b - a - 1) ≡ b = omega arith in
    let more : slice_index xs a < slice_index xs b = subst (λ n. slice_index xs a < slice_index xs n) far (rises_far xs a (b - a - 1) rise (omega arith)) in
    let one : slice_index xs a ≡ v = get_or_from_slice_get xs a v 0 first in
    let other : slice_index xs b ≡ v = get_or_from_slice_get xs b v 0 second in
    omega arith

pub one_column : (xs : List ℕ) (a b v : ℕ) → IsStrictlyIncreasing xs → slice_get xs a ≡ Some v → slice_get xs b ≡ Some v → a ≡ b
one_column xs a b v rise first second = go (cases_order a b)
  where
    go : (a ≡ b) ⊎ ((a < b) ⊎ (b < a)) → a ≡ b
    go (inl same) = same
    go (inr (inl below)) = absurd (not_less xs a b v rise first second below)
    go (inr (inr above)) = absurd (not_less xs b a v rise second first above)

pub get_right : {X : Type 0} (xs ys : List X) (k : ℕ) → slice_get (xs ++ ys) (length xs + k) ≡ slice_get ys k
get_right [] ys k = ap (slice_get ys) (zero-add k)
get_right (x ∷ xs) ys k = let index : suc (length xs) + k ≡ suc (length xs + k) = omega arith in ap (slice_get (x ∷ (xs ++ ys))) index ∙ get_right xs ys k

pub part_is_whole : {X : Type 0} (xs : List X) (a n : ℕ) → a + n ≤ length xs → length (slice_range xs a (a + n)) ≡ n
part_is_whole xs a n h =
    let few : a + n - a ≡ n = omega arith in
    let left : length (drop a xs) ≡ length xs - a = length-drop a xs in
    length-take-le (a + n - a) (drop a xs) (omega arith) ∙ few

pub take_nothing : {X : Type 0} (n : ℕ) → take {A = X} n [] ≡ []
take_nothing zero = refl
take_nothing (suc n) = refl

pub get_below : {X : Type 0} (xs : List X) (k : ℕ) (x : X) → slice_get xs k ≡ Some x → k < length xs
get_below [] k x at = absurd (none-some x at)
get_below (y ∷ xs) zero x at = omega arith
get_below (y ∷ xs) (suc k) x at = let rest : k < length xs = get_below xs k x at in omega arith

pub joined : (b : List ℕ) (from at to : ℕ) → from ≤ at → at ≤ to → slice_range b from at ++ slice_range b at to ≡ slice_range b from to
joined b from at to p q =
    let whole : (at - from) + (to - at) ≡ to - from = omega arith in
    let start : from + (at - from) ≡ at = omega arith in
    ap (λ n. slice_range b from at ++ take (to - at) (drop n b)) (sym start)
    ∙ (ap (λ xs. slice_range b from at ++ take (to - at) xs) (sym (drop-drop (at - from) from b))
    ∙ (sym (take-add (at - from) (to - at) (drop from b)) ∙ ap (λ n. take n (drop from b)) whole))

pub slice_length : (b : List ℕ) (from to n : ℕ) → from + n ≡ to → to ≤ length b → length (slice_range b from to) ≡ n
slice_length b from to n is within = omega (arith, length-take (to - from) (drop from b), length-drop from b)

pub get_past : {X : Type 0} (xs : List X) (k : ℕ) → length xs ≤ k → slice_get xs k ≡ None
get_past [] k h = refl
get_past (x ∷ xs) zero h = absurd (omega arith)
get_past (x ∷ xs) (suc k) h = get_past xs k (omega arith)

pub all_taken : {X : Type 0} (P : X → Type 0) (n : ℕ) (xs : List X) → AllByRecursion P xs → AllByRecursion P (take n xs)
all_taken P zero xs h = tt
all_taken P (suc n) [] h = tt
all_taken P (suc n) (x ∷ xs) h = (h.0, all_taken P n xs h.1)

pub all_get_some : {X : Type 0} (P : X → Type 0) (xs : List X) (k : ℕ) → AllByRecursion P xs → IfSome (slice_get xs k) P
all_get_some P [] k h = tt
all_get_some P (x ∷ xs) zero h = h.0
all_get_some P (x ∷ xs) (suc k) h = all_get_some P xs k h.1

pub all_by_get : {X : Type 0} (P : X → Type 0) (xs : List X) → ((k : ℕ) (x : X) → slice_get xs k ≡ Some x → P x) → AllByRecursion P xs
all_by_get P [] h = tt
all_by_get P (x ∷ xs) h = (h 0 x refl, all_by_get P xs (λ k y e. h (suc k) y e))

pub take_less : (m n : ℕ) (xs : List ℕ) → m ≤ n → take m (take n xs) ≡ take m xs
take_less zero n xs h = refl
take_less (suc m) zero xs h = absurd (omega arith)
take_less (suc m) (suc n) [] h = refl
take_less (suc m) (suc n) (x ∷ xs) h = ap (λ ys. x ∷ ys) (take_less m n xs (omega arith))

pub all_set : {X : Type 0} (P : X → Type 0) (xs : List X) (k : ℕ) (x : X) → AllByRecursion P xs → P x → AllByRecursion P (slice_set xs k x)
all_set P [] k x h p = h
all_set P (y ∷ xs) zero x h p = (p, h.1)
all_set P (y ∷ xs) (suc k) x h p = (h.0, all_set P xs k x h.1 p)

pub get_rest : {X : Type 0} (xs ys : List X) (n k : ℕ) → length xs ≡ n → slice_get (xs ++ ys) (n + k) ≡ slice_get ys k
get_rest [] ys n k h = ap (slice_get ys) (omega arith)
get_rest (x ∷ xs) ys zero k h = absurd (omega arith)
get_rest (x ∷ xs) ys (suc n) k h = let more : suc n + k ≡ suc (n + k) = omega arith in ap (slice_get (x ∷ (xs ++ ys))) more ∙ get_rest xs ys n k (omega arith)

pub get_whole_within : {X : Type 0} (m : ℕ) (xs : List X) (n : ℕ) (x : X) → slice_get (take m xs) n ≡ Some x → (slice_get xs n ≡ Some x) × (n < m)
get_whole_within zero xs n x e = absurd (none-some x e)
get_whole_within (suc m) [] n x e = absurd (none-some x e)
get_whole_within (suc m) (y ∷ xs) zero x e = (e, omega arith)
get_whole_within (suc m) (y ∷ xs) (suc n) x e = let rest = get_whole_within m xs n x e in (rest.0, omega (arith, rest.1))

pub some_within : {X : Type 0} (xs : List X) (k : ℕ) → is_some (slice_get xs k) ≡ true → k < length xs
some_within [] k e = absurd cc
some_within (x ∷ xs) zero e = omega arith
some_within (x ∷ xs) (suc k) e = let rest : k < length xs = some_within xs k e in omega arith

pub take_and_drop : {X : Type 0} (n : ℕ) (xs : List X) → take n xs ++ drop n xs ≡ xs
take_and_drop zero xs = refl
take_and_drop (suc n) [] = refl
take_and_drop (suc n) (x ∷ xs) = ap (λ ys. x ∷ ys) (take_and_drop n xs)

pub within_some : {X : Type 0} (xs : List X) (k : ℕ) → k < length xs → is_some (slice_get xs k) ≡ true
within_some [] k h = absurd (omega arith)
within_some (x ∷ xs) zero h = refl
within_some (x ∷ xs) (suc k) h = within_some xs k (omega arith)

pub take_more : {X : Type 0} (xs : List X) (n : ℕ) (x : X) → slice_get xs n ≡ Some x → take (n + 1) xs ≡ take n xs ++ x ∷ []
take_more [] n x e = absurd (none-some x e)
take_more (y ∷ ys) zero x e = ap (λ z. z ∷ []) (same_Some y x e)
take_more (y ∷ ys) (suc n) x e =
    let next : suc n + 1 ≡ suc (n + 1) = omega arith in
    ap (λ m. take m (y ∷ ys)) next ∙ ap (λ zs. y ∷ zs) (take_more ys n x e)

pub put_at_end : {X : Type 0} (a : List X) (o y : X) (rest : List X) → slice_set (a ++ o ∷ rest) (length a) y ≡ a ++ y ∷ rest
put_at_end [] o y rest = refl
put_at_end (x ∷ a) o y rest = ap (λ zs. x ∷ zs) (put_at_end a o y rest)

pub part_length : (at len : ℕ) (xs : List ℕ) → at + len ≤ length xs → length (slice_range xs at (at + len)) ≡ len
part_length at len xs h =
    let e : at + len - at ≡ len = omega arith in
    rw e (length-take-le len (drop at xs) (rw (length-drop at xs) (omega (arith, h))))

pub contained_among : {X : Type 0} (xs : List X) (x : X) → IsAmong xs x → Contains xs x
contained_among xs x at = is_in xs at.0 x at.1

pub same_lists : {X : Type 0} (xs ys : List X) → ((k : ℕ) → slice_get xs k ≡ slice_get ys k) → xs ≡ ys
same_lists [] [] h = refl
same_lists [] (y ∷ ys) h = absurd (none-some y (h 0))
same_lists (x ∷ xs) [] h = absurd (none-some x (sym (h 0)))
same_lists (x ∷ xs) (y ∷ ys) h = ap₂ (λ z zs. z ∷ zs) (same_Some x y (h 0)) (same_lists xs ys (λ k. h (suc k)))

pub drop_at : {X : Type 0} (xs : List X) (i : ℕ) (x : X) → slice_get xs i ≡ Some x → drop i xs ≡ x ∷ drop (i + 1) xs
drop_at [] i x e = absurd (cc e)
drop_at (y ∷ xs) zero x e = ap (λ z. z ∷ xs) (cc e)
drop_at (y ∷ xs) (suc i) x e = let n : suc i + 1 ≡ suc (i + 1) = omega arith in rw n (drop_at xs i x e)

pub next_item : {A : Type 0} (xs : List A) (i : ℕ) (x : A) → i < length xs → x ≡ get_or xs i x → drop i xs ≡ x ∷ drop (i + 1) xs
next_item xs i x h is = drop-cons xs i x h ∙ ap (λ y. y ∷ drop (suc i) xs) (sym is) ∙ ap (λ m. x ∷ drop m xs) (sym (add-one i))

pub drop_past : {A : Type 0} (xs : List A) (i : ℕ) → length xs ≤ i → drop i xs ≡ []
drop_past xs i h = drop_all i xs h

pub take_front : {X : Type 0} (xs ys : List X) (n : ℕ) → length xs ≡ n → take n (xs ++ ys) ≡ xs
take_front [] ys n e = ap (λ k. take k ys) (sym e)
take_front (x ∷ xs) ys n e = ap (λ k. take k (x ∷ (xs ++ ys))) (sym e) ∙ ap (λ zs. x ∷ zs) (take_front xs ys (length xs) refl)

pub drop_front : {X : Type 0} (xs ys : List X) (n : ℕ) → length xs ≡ n → drop n (xs ++ ys) ≡ ys
drop_front [] ys n e = ap (λ k. drop k ys) (sym e)
drop_front (x ∷ xs) ys n e = ap (λ k. drop k (x ∷ (xs ++ ys))) (sym e) ∙ drop_front xs ys (length xs) refl

pub get_last : {X : Type 0} (xs : List X) (x : X) → slice_get (xs ++ x ∷ []) (length xs) ≡ Some x
get_last [] x = refl
get_last (y ∷ xs) x = get_last xs x

pub last_at : {X : Type 0} (xs : List X) (y x : X) (i : ℕ) → slice_get (xs ++ y ∷ []) i ≡ Some x → IsAmong xs x ⊎ (y ≡ x)
last_at [] y x zero e = inr cc
last_at [] y x (suc i) e = absurd cc
last_at (z ∷ zs) y x zero e = inl (0, e)
last_at (z ∷ zs) y x (suc i) e = elim (last_at zs y x i e) as (λ _. IsAmong (z ∷ zs) x ⊎ (y ≡ x)) [ inl at ↦ inl (later z zs x at) | inr same ↦ inr same ]

pub from_last : {X : Type 0} (xs : List X) (y x : X) → IsAmong (xs ++ y ∷ []) x → IsAmong xs x ⊎ (y ≡ x)
from_last xs y x at = last_at xs y x at.0 at.1

pub before_at : {X : Type 0} (xs : List X) (y x : X) (i : ℕ) → slice_get xs i ≡ Some x → slice_get (xs ++ y ∷ []) i ≡ Some x
before_at [] y x i e = absurd cc
before_at (z ∷ zs) y x zero e = e
before_at (z ∷ zs) y x (suc i) e = before_at zs y x i e

pub before_last : {X : Type 0} (xs : List X) (y x : X) → IsAmong xs x → IsAmong (xs ++ y ∷ []) x
before_last xs y x at = (at.0, before_at xs y x at.0 at.1)

pub got_here : {X : Type 0} (xs : List X) (i : ℕ) (old new : X) → slice_get xs i ≡ Some old → slice_get (slice_set xs i new) i ≡ Some new
got_here [] i old new e = absurd cc
got_here (y ∷ ys) zero old new e = refl
got_here (y ∷ ys) (suc i) old new e = got_here ys i old new e

pub got_else : {X : Type 0} (xs : List X) (i k : ℕ) (new : X) → (k ≡ i → ⊥) → slice_get (slice_set xs i new) k ≡ slice_get xs k
got_else [] i k new apart = refl
got_else (y ∷ ys) zero zero new apart = absurd (apart refl)
got_else (y ∷ ys) zero (suc k) new apart = refl
got_else (y ∷ ys) (suc i) zero new apart = refl
got_else (y ∷ ys) (suc i) (suc k) new apart = got_else ys i k new (λ e. apart (omega (arith, e)))

pub store_sets : (words : List ℕ) (n m : ℕ) → words ≡ n ∷ [] → slice_set words 0 m ≡ m ∷ []
store_sets words n m is = ap (λ (l : List ℕ). slice_set l 0 m) is

pub take_all : {A : Type 0} (xs : List A) (n : ℕ) → length xs ≤ n → take n xs ≡ xs
take_all [] zero h = refl
take_all [] (suc n) h = refl
take_all (x ∷ xs) zero h = absurd (omega arith)
take_all (x ∷ xs) (suc n) h = ap (λ ys. x ∷ ys) (take_all xs n (omega arith))

-- what stands in a list of one element
pub only_one : {X : Type 0} (x : X) (k : ℕ) (y : X) → get_elem? (x ∷ []) k ≡ some y → (k ≡ 0) × (x ≡ y)
only_one x zero y there = (refl, some-injective x y there)
only_one x (suc k) y there = absurd (some-ne-none y (sym there))
