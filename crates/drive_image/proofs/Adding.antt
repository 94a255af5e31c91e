-- Bytes that are added to a list piece by piece.
use Rattle.std.proofs.Common.{◌≡◌, ℕ, ◌+◌, ◌≤◌, zero, suc, Some, List, [], ◌∷◌, ◌++◌, length, length-append, map, take, slice_get, refl, sym, ap, ◌∙◌, subst, arith, append_assoc, append-nil}
use Rattle.std.specs.Prelude.{Vec, vec_capacity}
use Rattle.std.specs.List.{enumerate_from, flat_map, sum_by}
use Rattle.std.proofs.lemmas.Option.{none-some, same_Some}
use Rattle.drive_image.specs.Storing.{HasCapacity, WasAdded}
use Rattle.pblk_model.proofs.Maps.{enumerate_get}
use Rattle.pblk_model.proofs.Parts.{take-all}

pub room_here : {Z : Type 0} (old : Vec ℕ Z) (xs ys : List ℕ) → HasCapacity old (xs ++ ys) → HasCapacity old xs
room_here old xs ys room = omega (arith, length-append xs ys)

pub room_then : {Z : Type 0} (old new : Vec ℕ Z) (xs ys : List ℕ) → HasCapacity old (xs ++ ys) → WasAdded old new xs → HasCapacity new ys
room_then old new xs ys room added =
    let size : length new.items ≡ length old.items + length xs = ap length added.items ∙ length-append old.items xs in
    omega (arith, length-append xs ys, added.capacity)

pub added_both : {Z : Type 0} (old mid new : Vec ℕ Z) (xs ys : List ℕ) → WasAdded old mid xs → WasAdded mid new ys → WasAdded old new (xs ++ ys)
added_both old mid new xs ys first second = record {
  items = second.items ∙ (ap (λ zs. zs ++ ys) first.items ∙ append_assoc old.items xs ys);
  capacity = omega (arith, first.capacity, second.capacity);
}

-- The pieces of the first elements.

pub flat_take : {X : Type 0} (f : X → List ℕ) (xs : List X) (i : ℕ) (x : X) → slice_get xs i ≡ Some x
    → flat_map f (take (suc i) xs) ≡ flat_map f (take i xs) ++ f x
flat_take f [] i x is = absurd (none-some x is)
flat_take f (y ∷ xs) zero x is = append-nil (f y) ∙ ap f (same_Some y x is)
flat_take f (y ∷ xs) (suc i) x is = ap (λ ys. f y ++ ys) (flat_take f xs i x is) ∙ sym (append_assoc (f y) (flat_map f (take i xs)) (f x))

room_take : {X : Type 0} (f : X → List ℕ) (xs : List X) (i : ℕ) (x : X) → slice_get xs i ≡ Some x
    → length (flat_map f (take i xs)) + length (f x) ≤ length (flat_map f xs)
room_take f [] i x is = absurd (none-some x is)
room_take f (y ∷ xs) zero x is =
    let same : length (f y) ≡ length (f x) = ap (λ z. length (f z)) (same_Some y x is) in
    let all : length (flat_map f (y ∷ xs)) ≡ length (f y) + length (flat_map f xs) = length-append (f y) (flat_map f xs) in
    let none : length (flat_map f (take zero (y ∷ xs))) ≡ 0 = refl in
    omega arith
room_take f (y ∷ xs) (suc i) x is =
    let rest : length (flat_map f (take i xs)) + length (f x) ≤ length (flat_map f xs) = room_take f xs i x is in
    let all : length (flat_map f (y ∷ xs)) ≡ length (f y) + length (flat_map f xs) = length-append (f y) (flat_map f xs) in
    let part : length (flat_map f (take (suc i) (y ∷ xs))) ≡ length (f y) + length (flat_map f (take i xs)) = length-append (f y) (flat_map f (take i xs)) in
    omega arith

-- those of the first i elements were added
pub record FirstAdded {X Z : Type 0} (f : X → List ℕ) (xs : List X) (i : ℕ) (old new : Vec ℕ Z) : Type 0 where
  pub items : new.items ≡ old.items ++ flat_map f (take i xs)
  pub capacity : vec_capacity old ≤ vec_capacity new

pub none_added : {X Z : Type 0} (f : X → List ℕ) (xs : List X) (old : Vec ℕ Z) → FirstAdded f xs 0 old old
none_added f xs old = record { items = sym (append-nil old.items); capacity = omega arith }

pub one_added : {X Z : Type 0} (f : X → List ℕ) (xs : List X) (i : ℕ) (x : X) (old now new : Vec ℕ Z) → FirstAdded f xs i old now → slice_get xs i ≡ Some x
    → WasAdded now new (f x)
    → FirstAdded f xs (i + 1) old new
one_added f xs i x old now new before is added =
    let next : suc i ≡ i + 1 = omega arith in
    record {
      items = added.items ∙ (ap (λ ys. ys ++ f x) before.items ∙ (append_assoc old.items (flat_map f (take i xs)) (f x)
          ∙ (ap (λ ys. old.items ++ ys) (sym (flat_take f xs i x is)) ∙ ap (λ n. old.items ++ flat_map f (take n xs)) next)));
      capacity = omega (arith, before.capacity, added.capacity);
    }

pub room_left : {X Z : Type 0} (f : X → List ℕ) (xs : List X) (i : ℕ) (x : X) (old now : Vec ℕ Z) → HasCapacity old (flat_map f xs) → FirstAdded f xs i old now
    → slice_get xs i ≡ Some x
    → HasCapacity now (f x)
room_left f xs i x old now room before is =
    let size : length now.items ≡ length old.items + length (flat_map f (take i xs)) = ap length before.items
    ∙ length-append old.items (flat_map f (take i xs)) in
    let part : length (flat_map f (take i xs)) + length (f x) ≤ length (flat_map f xs) = room_take f xs i x is in
    omega (arith, before.capacity)

pub all_added : {X Z : Type 0} (f : X → List ℕ) (xs : List X) (n : ℕ) (old new : Vec ℕ Z) → FirstAdded f xs n old new → length xs ≡ n
    → WasAdded old new (flat_map f xs)
all_added f xs n old new added count = record {
  items = added.items ∙ ap (λ ys. old.items ++ flat_map f ys) (ap (λ m. take m xs) (sym count) ∙ take-all xs);
  capacity = added.capacity;
}

-- the first elements have room where all have
pub room_first : {X Z : Type 0} (f : X → List ℕ) (xs : List X) (n : ℕ) (old : Vec ℕ Z) → HasCapacity old (flat_map f xs)
    → HasCapacity old (flat_map f (take n xs))
room_first {X = X} f xs n old room = omega (arith, shorter n xs)
  where
    shorter : (n : ℕ) (ys : List X) → length (flat_map f (take n ys)) ≤ length (flat_map f ys)
    shorter zero ys = omega arith
    shorter (suc n) [] = omega arith
    shorter (suc n) (y ∷ ys) =
        omega (arith, shorter n ys, length-append (f y) (flat_map f (take n ys)), length-append (f y) (flat_map f ys))

-- they were added, all of them at once
pub first_added : {X Z : Type 0} (f : X → List ℕ) (xs : List X) (n : ℕ) (bytes : List ℕ) (old new : Vec ℕ Z) → flat_map f (take n xs) ≡ bytes
    → WasAdded old new bytes → FirstAdded f xs n old new
first_added f xs n bytes old new same added = record {
  items = added.items ∙ ap (λ ys. old.items ++ ys) (sym same);
  capacity = added.capacity;
}

pub enumerated : {X : Type 0} (xs : List X) (k : ℕ) (x : X) → slice_get xs k ≡ Some x → slice_get (enumerate_from 0 xs) k ≡ Some (k, x)
enumerated xs k x is =
    let place : 0 + k ≡ k = omega arith in
    enumerate_get 0 xs k x is ∙ ap (λ i. Some (i, x)) place

-- Sums of the first elements.

pub sum_all : {X : Type 0} (g : X → ℕ) (xs : List X) (n : ℕ) → length xs ≡ n → sum_by g (take n xs) ≡ sum_by g xs
sum_all g xs n count = ap (sum_by g) (ap (λ m. take m xs) (sym count) ∙ take-all xs)

-- Five pieces one after another.

pub added_as : {Z : Type 0} (old new : Vec ℕ Z) (xs ys : List ℕ) → new.items ≡ old.items ++ ys → ys ≡ xs → vec_capacity old ≤ vec_capacity new
    → WasAdded old new xs
added_as old new xs ys items same room = record { items = items ∙ ap (λ zs. old.items ++ zs) same; capacity = room }

pub five_added : {Z : Type 0} (v0 v1 v2 v3 v4 v5 : Vec ℕ Z) (a b c d e : List ℕ) → WasAdded v0 v1 a → WasAdded v1 v2 b → WasAdded v2 v3 c → WasAdded v3 v4 d
    → WasAdded v4 v5 e
    → WasAdded v0 v5 (a ++ b ++ c ++ d ++ e)
five_added v0 v1 v2 v3 v4 v5 a b c d e p q r s t =
    added_both v0 v4 v5 (a ++ b ++ c ++ d) e (added_both v0 v3 v4 (a ++ b ++ c) d (added_both v0 v2 v3 (a ++ b) c (added_both v0 v1 v2 a b p q) r) s) t

-- The pieces of elements as they are seen, and those of one more.

pub flat_both : {X Y : Type 0} (f : Y → List ℕ) (g : X → Y) (xs ys : List X)
    → flat_map f (map g (xs ++ ys)) ≡ flat_map f (map g xs) ++ flat_map f (map g ys)
flat_both f g [] ys = refl
flat_both f g (x ∷ xs) ys =
    ap (λ zs. f (g x) ++ zs) (flat_both f g xs ys) ∙ sym (append_assoc (f (g x)) (flat_map f (map g xs)) (flat_map f (map g ys)))

pub next_added : {X Y Z : Type 0} (f : Y → List ℕ) (g : X → Y) (xs : List X) (x : X) (old now new : Vec ℕ Z) → WasAdded old now (flat_map f (map g xs))
    → WasAdded now new (f (g x)) → WasAdded old new (flat_map f (map g (xs ++ x ∷ [])))
next_added f g xs x old now new before added =
    let both : WasAdded old new (flat_map f (map g xs) ++ f (g x)) = added_both old now new (flat_map f (map g xs)) (f (g x)) before added in
    subst (WasAdded old new) (sym (flat_both f g xs (x ∷ []) ∙ ap (λ zs. flat_map f (map g xs) ++ zs) (append-nil (f (g x))))) both

pub room_next : {X Y Z : Type 0} (f : Y → List ℕ) (g : X → Y) (xs : List X) (x : X) (ys : List X) (old now : Vec ℕ Z)
    → HasCapacity old (flat_map f (map g (xs ++ x ∷ ys))) → WasAdded old now (flat_map f (map g xs)) → HasCapacity now (f (g x))
room_next f g xs x ys old now room before =
    let parts : HasCapacity old (flat_map f (map g xs) ++ flat_map f (map g (x ∷ ys))) = subst (HasCapacity old) (flat_both f g xs (x ∷ ys)) room in
    room_here now (f (g x)) (flat_map f (map g ys)) (room_then old now (flat_map f (map g xs)) (flat_map f (map g (x ∷ ys))) parts before)
