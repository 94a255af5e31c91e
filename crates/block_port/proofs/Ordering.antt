-- Things in the order of their keys.
use Rattle.std.proofs.Common.{◌≡◌, ℕ, ◌+◌, ◌<◌, ◌≤◌, nat_lt, Bool, true, false, List, [], ◌∷◌, if◌then◌else◌, refl, sym, ap, ◌∙◌, arith}
use Rattle.std.specs.List.{AllByRecursion, filter}
use Rattle.pblk_model.specs.RingState.{total}
use Rattle.pblk_model.proofs.Lists.{all_imply}
use Rattle.pblk_model.proofs.Maps.{all_filter}
use Rattle.pblk_model.proofs.Tests.{below_of, le_of_lt_false, not_before}
use Rattle.block_port.specs.ByPlace.{KeysRise, order_by, put_by}

module _ {X : Type 0} (key : X → ℕ) where
  -- before all that are no lower
  front : (x : X) (xs : List X) → AllByRecursion (λ y. key x ≤ key y) xs → put_by key x xs ≡ x ∷ xs
  front x [] all = refl
  front x (y ∷ ys) all = ap (λ b. if b then y ∷ put_by key x ys else x ∷ y ∷ ys) (not_before (key y) (key x) all.0)

  -- ---- they are the same things

  all_put : (P : X → Type 0) (x : X) (xs : List X) → P x → AllByRecursion P xs → AllByRecursion P (put_by key x xs)
  all_put P x [] one all = (one, tt)
  all_put P x (y ∷ ys) one all = go (nat_lt (key y) (key x)) (all_put P x ys one all.1)
    where
      go : (b : Bool) → AllByRecursion P (put_by key x ys) → AllByRecursion P (if b then y ∷ put_by key x ys else x ∷ y ∷ ys)
      go true later = (all.0, later)
      go false later = (one, all)

  pub all_order : (P : X → Type 0) (xs : List X) → AllByRecursion P xs → AllByRecursion P (order_by key xs)
  all_order P [] all = tt
  all_order P (x ∷ xs) all = all_put P x (order_by key xs) all.0 (all_order P xs all.1)

  total_put : (f : X → ℕ) (x : X) (xs : List X) → total f (put_by key x xs) ≡ f x + total f xs
  total_put f x [] = refl
  total_put f x (y ∷ ys) = go (nat_lt (key y) (key x)) (total_put f x ys)
    where
      go : (b : Bool) → total f (put_by key x ys) ≡ f x + total f ys
          → total f (if b then y ∷ put_by key x ys else x ∷ y ∷ ys) ≡ f x + (f y + total f ys)
      go true later = omega arith
      go false later = refl

  pub total_order : (f : X → ℕ) (xs : List X) → total f (order_by key xs) ≡ total f xs
  total_order f [] = refl
  total_order f (x ∷ xs) = total_put f x (order_by key xs) ∙ ap (λ n. f x + n) (total_order f xs)

  -- ---- their keys rise

  rise_put : (x : X) (xs : List X) → KeysRise key xs → KeysRise key (put_by key x xs)
  rise_put x [] rise = (tt, tt)
  rise_put x (y ∷ ys) rise = go (nat_lt (key y) (key x)) refl (rise_put x ys rise.1)
    where
      go : (b : Bool) → nat_lt (key y) (key x) ≡ b → KeysRise key (put_by key x ys) → KeysRise key (if b then y ∷ put_by key x ys else x ∷ y ∷ ys)
      go true low later =
          let below : key y < key x = below_of (key y) (key x) low in
          (all_put (λ z. key y ≤ key z) x ys (omega arith) rise.0, later)
      go false high later =
          let least : key x ≤ key y = le_of_lt_false (key y) (key x) high in
          ((least, all_imply (λ z. key y ≤ key z) (λ z. key x ≤ key z) (λ z above. omega arith) ys rise.0), rise)

  pub order_rises : (xs : List X) → KeysRise key (order_by key xs)
  order_rises [] = tt
  order_rises (x ∷ xs) = rise_put x (order_by key xs) (order_rises xs)

  -- those whose keys rise are in their order already
  pub rising_stay : (xs : List X) → KeysRise key xs → order_by key xs ≡ xs
  rising_stay [] rise = refl
  rising_stay (x ∷ xs) rise = ap (put_by key x) (rising_stay xs rise.1) ∙ front x xs rise.0

  -- ---- those that pass a test are in their order, as if there were no others

  module _ (test : X → Bool) where
    passing_put : (x : X) (xs : List X) → test x ≡ true → KeysRise key xs → filter test (put_by key x xs) ≡ put_by key x (filter test xs)
    passing_put x [] passes rise = ap (λ b. if b then x ∷ [] else []) passes
    passing_put x (y ∷ ys) passes rise = go (nat_lt (key y) (key x)) refl (passing_put x ys passes rise.1)
      where
        before : (t : Bool) → test y ≡ t → nat_lt (key y) (key x) ≡ true → filter test (put_by key x ys) ≡ put_by key x (filter test ys)
            → (if t then y ∷ filter test (put_by key x ys) else filter test (put_by key x ys))
            ≡ put_by key x (if t then y ∷ filter test ys else filter test ys)
        before true its low later = ap (λ l. y ∷ l) later
            ∙ sym (ap (λ b. if b then y ∷ put_by key x (filter test ys) else x ∷ y ∷ filter test ys) low)
        before false its low later = later

        go : (b : Bool) → nat_lt (key y) (key x) ≡ b → filter test (put_by key x ys) ≡ put_by key x (filter test ys)
            → filter test (if b then y ∷ put_by key x ys else x ∷ y ∷ ys) ≡ put_by key x (filter test (y ∷ ys))
        go true low later = before (test y) refl low later
        go false high later =
            let least : key x ≤ key y = le_of_lt_false (key y) (key x) high in
            ap (λ b. if b then x ∷ filter test (y ∷ ys) else filter test (y ∷ ys)) passes
            ∙ sym (front x (filter test (y ∷ ys)) (all_filter (λ z. key x ≤ key z) test (y ∷ ys)
            (least, all_imply (λ z. key y ≤ key z) (λ z. key x ≤ key z) (λ z above. omega arith) ys rise.0)))

    other_put : (x : X) (xs : List X) → test x ≡ false → filter test (put_by key x xs) ≡ filter test xs
    other_put x [] fails = ap (λ b. if b then x ∷ [] else []) fails
    other_put x (y ∷ ys) fails = go (nat_lt (key y) (key x)) (other_put x ys fails)
      where
        go : (b : Bool) → filter test (put_by key x ys) ≡ filter test ys
            → filter test (if b then y ∷ put_by key x ys else x ∷ y ∷ ys) ≡ filter test (y ∷ ys)
        go true later = ap (λ l. if test y then y ∷ l else l) later
        go false later = ap (λ b. if b then x ∷ filter test (y ∷ ys) else filter test (y ∷ ys)) fails

    pub passing_order : (xs : List X) → filter test (order_by key xs) ≡ order_by key (filter test xs)
    passing_order [] = refl
    passing_order (x ∷ xs) = go (test x) refl (passing_order xs)
      where
        go : (t : Bool) → test x ≡ t → filter test (order_by key xs) ≡ order_by key (filter test xs)
            → filter test (put_by key x (order_by key xs)) ≡ order_by key (if t then x ∷ filter test xs else filter test xs)
        go true passes later = passing_put x (order_by key xs) passes (order_rises xs) ∙ ap (put_by key x) later
        go false fails later = other_put x (order_by key xs) fails ∙ later
