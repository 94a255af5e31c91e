-- Lists that are made of numbers in order, and what is found in them.
use Rattle.std.proofs.Common.{◌≡◌, ℕ, ◌+◌, ◌<◌, ◌≤◌, ◌==◌, ◌||◌, zero, suc, Bool, true, false, cond, Option, Some, None, List, [], ◌∷◌, map, length, refl, sym, subst, ap, ap₂, ◌⊎◌, ◌∙◌, arith, inl, inr, add-zero}
use Rattle.std.specs.List.{Contains, filter, filter_map, find, list_any, cons_option, enumerate_from, range_with_len, sum_by}
use Rattle.std.specs.Option.{option_map_or}
use Rattle.std.proofs.lemmas.Bool.{cases_eq, eq-eqb, ne_eqb}
use Rattle.std.proofs.lemmas.Option.{none-some, same_Some}
use Rattle.core_laws.proofs.RangeSums.{sum_same}
use Rattle.pblk_model.proofs.Lists.{contains_first, contains_more}

-- ---- numbered elements

pub numbered_same : {X : Type 0} (f : ℕ × X → X) → ((e : ℕ × X) → f e ≡ e.1) → (n : ℕ) (xs : List X) → map f (enumerate_from n xs) ≡ xs
numbered_same f same n [] = refl
numbered_same f same n (x ∷ xs) = ap₂ (λ y ys. y ∷ ys) (same (n, x)) (numbered_same f same (n + 1) xs)

pub numbered_agree : {X Y : Type 0} (f g : ℕ × X → Y) (n : ℕ) (xs : List X) → ((k : ℕ) (x : X) → k < length xs → f (n + k, x) ≡ g (n + k, x))
    → map f (enumerate_from n xs) ≡ map g (enumerate_from n xs)
numbered_agree f g n [] same = refl
numbered_agree f g n (x ∷ xs) same =
    let first : n + 0 ≡ n = add-zero n in
    ap₂ (λ y ys. y ∷ ys) (ap (λ m. f (m, x)) (sym first) ∙ same 0 x (omega arith) ∙ ap (λ m. g (m, x)) first)
    (numbered_agree f g (n + 1) xs
    (λ k y below. let step : n + 1 + k ≡ n + suc k = omega arith in ap (λ m. f (m, y)) step ∙ same (suc k) y (omega arith) ∙ ap (λ m. g (m, y)) (sym step)))

-- of elements that are made of their numbers
pub numbered_made : {X Y : Type 0} (g : ℕ × X → Option Y) (h : ℕ → X) (a n : ℕ)
    → filter_map g (enumerate_from a (map h (range_with_len a n))) ≡ filter_map (λ m. g (m, h m)) (range_with_len a n)
numbered_made g h a zero = refl
numbered_made g h a (suc n) = ap (cons_option (g (a, h a))) (numbered_made g h (a + 1) n)

pub made_agree : {Y : Type 0} (f g : ℕ → Option Y) (a n : ℕ) → ((m : ℕ) → m < a + n → f m ≡ g m)
    → filter_map f (range_with_len a n) ≡ filter_map g (range_with_len a n)
made_agree f g a zero same = refl
made_agree f g a (suc n) same = ap₂ cons_option (same a (omega arith)) (made_agree f g (a + 1) n (λ m below. same m (omega arith)))

pub mapped_agree : {Y : Type 0} (f g : ℕ → Y) (a n : ℕ) → ((m : ℕ) → m < a + n → f m ≡ g m) → map f (range_with_len a n) ≡ map g (range_with_len a n)
mapped_agree f g a zero same = refl
mapped_agree f g a (suc n) same = ap₂ (λ y ys. y ∷ ys) (same a (omega arith)) (mapped_agree f g (a + 1) n (λ m below. same m (omega arith)))

pub sum_none : (f : ℕ → ℕ) → ((m : ℕ) → f m ≡ 0) → (a n : ℕ) → sum_by f (range_with_len a n) ≡ 0
sum_none f none a n = sum_same f (λ m. 0) none (range_with_len a n) ∙ zeros a n
  where
    zeros : (b m : ℕ) → sum_by (λ k. 0) (range_with_len b m) ≡ 0
    zeros b zero = refl
    zeros b (suc m) = zeros (b + 1) m

-- ---- what passes a test

-- whether a number passes, by the list of those that do
none_passed : (p : ℕ → Bool) (a n x : ℕ) → x < a → list_any (λ y. y == x) (filter p (range_with_len a n)) ≡ false
none_passed p a zero x low = refl
none_passed p a (suc n) x low = go (p a) (none_passed p (a + 1) n x (omega arith))
  where
    go : (b : Bool) → list_any (λ y. y == x) (filter p (range_with_len (a + 1) n)) ≡ false
        → list_any (λ y. y == x) (cond b (a ∷ filter p (range_with_len (a + 1) n)) (filter p (range_with_len (a + 1) n))) ≡ false
    go true rest = ap (λ b. b || list_any (λ y. y == x) (filter p (range_with_len (a + 1) n))) (ne_eqb a x (λ e. absurd (omega arith))) ∙ rest
    go false rest = rest

pub any_passed : (p : ℕ → Bool) (a n x : ℕ) → a ≤ x → x < a + n → list_any (λ y. y == x) (filter p (range_with_len a n)) ≡ p x
any_passed p a zero x low high = absurd (omega arith)
any_passed p a (suc n) x low high = go (cases_eq a x) (p a) refl (λ other. any_passed p (a + 1) n x (omega arith) (omega arith))
  where
    go : (a ≡ x) ⊎ (a ≡ x → ⊥) → (b : Bool) → p a ≡ b → ((a ≡ x → ⊥) → list_any (λ y. y == x) (filter p (range_with_len (a + 1) n)) ≡ p x)
        → list_any (λ y. y == x) (cond b (a ∷ filter p (range_with_len (a + 1) n)) (filter p (range_with_len (a + 1) n))) ≡ p x
    go (inl same) true is rest = ap (λ b. b || list_any (λ y. y == x) (filter p (range_with_len (a + 1) n))) (eq-eqb a x same) ∙ sym is ∙ ap p same
    go (inl same) false is rest = none_passed p (a + 1) n x (omega arith) ∙ sym is ∙ ap p same
    go (inr other) true is rest = ap (λ b. b || list_any (λ y. y == x) (filter p (range_with_len (a + 1) n))) (ne_eqb a x other) ∙ rest other
    go (inr other) false is rest = rest other

-- how many of the made ones pass
pub passed_made : {Y : Type 0} (p : Y → Bool) (h : ℕ → Option Y) (xs : List ℕ)
    → length (filter p (filter_map h xs)) ≡ length (filter (λ x. option_map_or p (h x) false) xs)
passed_made p h [] = refl
passed_made {Y} p h (x ∷ xs) = go (h x) (passed_made p h xs)
  where
    by : (b : Bool) (y : Y) → length (filter p (filter_map h xs)) ≡ length (filter (λ x. option_map_or p (h x) false) xs)
        → length (cond b (y ∷ filter p (filter_map h xs)) (filter p (filter_map h xs))) ≡ length
        (cond b (x ∷ filter (λ x. option_map_or p (h x) false) xs) (filter (λ x. option_map_or p (h x) false) xs))
    by true y rest = ap suc rest
    by false y rest = rest

    go : (o : Option Y) → length (filter p (filter_map h xs)) ≡ length (filter (λ x. option_map_or p (h x) false) xs)
        → length (filter p (cons_option o (filter_map h xs))) ≡ length
        (cond (option_map_or p o false) (x ∷ filter (λ x. option_map_or p (h x) false) xs) (filter (λ x. option_map_or p (h x) false) xs))
    go None rest = rest
    go (Some y) rest = by (p y) y rest

pub filter_agree : (p q : ℕ → Bool) → ((x : ℕ) → p x ≡ q x) → (xs : List ℕ) → filter p xs ≡ filter q xs
filter_agree p q same [] = refl
filter_agree p q same (x ∷ xs) = ap₂ (λ b ys. cond b (x ∷ ys) ys) (same x) (filter_agree p q same xs)

-- ---- what names its number is found by it

none_found : {Y : Type 0} (h : ℕ → Option Y) (key : Y → ℕ) → ((m : ℕ) (y : Y) → h m ≡ Some y → key y ≡ m) → (a n x : ℕ) → x < a
    → find (λ y. key y == x) (filter_map h (range_with_len a n)) ≡ None
none_found h key names a zero x low = refl
none_found {Y} h key names a (suc n) x low = go (h a) refl (none_found h key names (a + 1) n x (omega arith))
  where
    go : (o : Option Y) → h a ≡ o → find (λ y. key y == x) (filter_map h (range_with_len (a + 1) n)) ≡ None
        → find (λ y. key y == x) (cons_option o (filter_map h (range_with_len (a + 1) n))) ≡ None
    go None is rest = rest
    go (Some y) is rest =
        let at : key y ≡ a = names a y is in
        ap (λ b. cond b (Some y) (find (λ y. key y == x) (filter_map h (range_with_len (a + 1) n)))) (ne_eqb (key y) x (λ e. absurd (omega arith))) ∙ rest

pub found_made : {Y : Type 0} (h : ℕ → Option Y) (key : Y → ℕ) → ((m : ℕ) (y : Y) → h m ≡ Some y → key y ≡ m) → (a n x : ℕ) → a ≤ x → x < a + n
    → find (λ y. key y == x) (filter_map h (range_with_len a n)) ≡ h x
found_made h key names a zero x low high = absurd (omega arith)
found_made {Y} h key names a (suc n) x low high = go (cases_eq a x) (h a) refl (λ other. found_made h key names (a + 1) n x (omega arith) (omega arith))
  where
    go : (a ≡ x) ⊎ (a ≡ x → ⊥) → (o : Option Y) → h a ≡ o → ((a ≡ x → ⊥) → find (λ y. key y == x) (filter_map h (range_with_len (a + 1) n)) ≡ h x)
        → find (λ y. key y == x) (cons_option o (filter_map h (range_with_len (a + 1) n))) ≡ h x
    go (inl same) None is rest = none_found h key names (a + 1) n x (omega arith) ∙ sym is ∙ ap h same
    go (inl same) (Some y) is rest =
        let at : key y ≡ a = names a y is in
        ap (λ b. cond b (Some y) (find (λ y. key y == x) (filter_map h (range_with_len (a + 1) n)))) (eq-eqb (key y) x (at ∙ same)) ∙ sym is ∙ ap h same
    go (inr other) None is rest = rest other
    go (inr other) (Some y) is rest =
        let at : key y ≡ a = names a y is in
        ap (λ b. cond b (Some y) (find (λ y. key y == x) (filter_map h (range_with_len (a + 1) n)))) (ne_eqb (key y) x (λ e. other (sym at ∙ e))) ∙ rest other

-- what is found is in the list, and passes
pub find_is : {X : Type 0} (p : X → Bool) (xs : List X) (x : X) → find p xs ≡ Some x → Contains xs x × (p x ≡ true)
find_is p [] x e = absurd (none-some x e)
find_is {X} p (y ∷ xs) x e = go (p y) refl e (λ f. find_is p xs x f)
  where
    more : Contains xs x × (p x ≡ true) → Contains (y ∷ xs) x × (p x ≡ true)
    more (there, passes) = (contains_more y x xs there, passes)

    here : (z : X) → p z ≡ true → z ≡ x → Contains (z ∷ xs) x × (p x ≡ true)
    here z passes same = (subst (Contains (z ∷ xs)) same (contains_first z xs), ap p (sym same) ∙ passes)

    go : (b : Bool) → p y ≡ b → cond b (Some y) (find p xs) ≡ Some x → (find p xs ≡ Some x → Contains xs x × (p x ≡ true)) → Contains (y ∷ xs) x × (p x ≡ true)
    go true is f rest = here y is (same_Some y x f)
    go false is f rest = more (rest f)
