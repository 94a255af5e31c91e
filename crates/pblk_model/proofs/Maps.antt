-- What is made of lists: maps, filters, numbered elements, searches.
use Rattle.std.proofs.Common.{Bool, List, None, Option, Some, [], add-zero, ap, ap₂, arith, cond, drop, false, length, length-append, map, refl, replicate, slice_get, suc, sym, take, true, zero, ℕ, ◌&&◌, ◌*◌, ◌++◌, ◌+◌, ◌<◌, ◌||◌, ◌∙◌, ◌∷◌, ◌≡◌, ◌≢◌, ◌≤◌, inl, inr, subst, ◌⊎◌}
use Rattle.std.proofs.Math.Nat.{mul-add}
use Rattle.std.proofs.lemmas.List.{map-id, take_all}
use Rattle.std.proofs.lemmas.List.Elements.{filter_map-append}
use Rattle.std.proofs.lemmas.List.FromFn.{map-range_with_len_more, sum_by-map-range_with_len_more}
use Rattle.std.proofs.lemmas.List.Sums.{sum_by-cons}
use Rattle.std.proofs.lemmas.Option.{none-some, same_Some}
use Rattle.std.specs.List.{AllByRecursion, cons_option, enumerate_from, filter, filter_map, find, flat_map, list_all, list_any, range_with_len, sum_by, Contains}
use Rattle.std.specs.Option.{IfSome, option_map, option_to_list}
use Rattle.std.specs.Prelude.{is_some, slice_set}
use Rattle.pblk_model.proofs.Lists.{IsAmong, all_append, later, contains_cases, contains_first, contains_more, contains_none}

pub map_agree : {X Y : Type 0} (P : X → Type 0) (f g : X → Y) → ((x : X) → P x → f x ≡ g x) → (xs : List X) → AllByRecursion P xs → map f xs ≡ map g xs
map_agree P f g same [] all = refl
map_agree P f g same (x ∷ xs) all = ap₂ (λ y ys. y ∷ ys) (same x all.0) (map_agree P f g same xs all.1)

pub map_same : {X Y : Type 0} (f g : X → Y) → ((x : X) → f x ≡ g x) → (xs : List X) → map f xs ≡ map g xs
map_same f g same [] = refl
map_same f g same (x ∷ xs) = ap₂ (λ y ys. y ∷ ys) (same x) (map_same f g same xs)

pub filter_agree : {X : Type 0} (P : X → Type 0) (f g : X → Bool) → ((x : X) → P x → f x ≡ g x) → (xs : List X) → AllByRecursion P xs
    → filter f xs ≡ filter g xs
filter_agree P f g same [] all = refl
filter_agree P f g same (x ∷ xs) all = ap₂ (λ b ys. cond b (x ∷ ys) ys) (same x all.0) (filter_agree P f g same xs all.1)

pub filter_same : {X : Type 0} (f g : X → Bool) → ((x : X) → f x ≡ g x) → (xs : List X) → filter f xs ≡ filter g xs
filter_same f g same [] = refl
filter_same f g same (x ∷ xs) = ap₂ (λ b ys. cond b (x ∷ ys) ys) (same x) (filter_same f g same xs)

pub filter_none : {X : Type 0} (f : X → Bool) (xs : List X) → AllByRecursion (λ x. f x ≡ false) xs → filter f xs ≡ []
filter_none f [] all = refl
filter_none f (x ∷ xs) all = ap (λ b. cond b (x ∷ filter f xs) (filter f xs)) all.0 ∙ filter_none f xs all.1

-- those that pass a test, where all do
pub filter_all : {X : Type 0} (f : X → Bool) (xs : List X) → AllByRecursion (λ x. f x ≡ true) xs → filter f xs ≡ xs
filter_all f [] all = refl
filter_all f (x ∷ xs) all = ap (λ b. cond b (x ∷ filter f xs) (filter f xs)) all.0 ∙ ap (λ ys. x ∷ ys) (filter_all f xs all.1)

pub all_filter : {X : Type 0} (P : X → Type 0) (f : X → Bool) (xs : List X) → AllByRecursion P xs → AllByRecursion P (filter f xs)
all_filter P f [] all = tt
all_filter P f (x ∷ xs) all = elim (f x) as (λ b. AllByRecursion P (cond b (x ∷ filter f xs) (filter f xs))) [
  | true ↦ (all.0, all_filter P f xs all.1)
  | false ↦ all_filter P f xs all.1
]

-- what is made of numbered elements has their numbers
pub numbers_below : {X Y : Type 0} (h : ℕ × X → Option Y) (number : Y → ℕ) → ((e : ℕ × X) (y : Y) → h e ≡ Some y → number y ≡ e.0)
    → (m n : ℕ) (xs : List X) → n + length xs ≤ m → AllByRecursion (λ y. number y < m) (filter_map h (enumerate_from n xs))
numbers_below h number says m n [] within = tt
numbers_below {X} {Y} h number says m n (x ∷ xs) within = go (h (n, x)) refl (numbers_below h number says m (n + 1) xs (omega arith))
  where
    go : (o : Option Y) → h (n, x) ≡ o → AllByRecursion (λ y. number y < m) (filter_map h (enumerate_from (n + 1) xs))
        → AllByRecursion (λ y. number y < m) (cons_option o (filter_map h (enumerate_from (n + 1) xs)))
    go None e rest = rest
    go (Some y) e rest = let is : number y ≡ n = says (n, x) y e in (omega arith, rest)

pub all_mapped : {X Y : Type 0} (P : Y → Type 0) (f : X → Y) (xs : List X) → AllByRecursion (λ x. P (f x)) xs → AllByRecursion P (map f xs)
all_mapped P f [] all = tt
all_mapped P f (x ∷ xs) all = (all.0, all_mapped P f xs all.1)

-- what stands at a place of a list's images is the image of what stands there
pub map_back : {X Y : Type 0} (f : X → Y) (xs : List X) (k : ℕ) (y : Y) → slice_get (map f xs) k ≡ Some y
    → (x : X) × (slice_get xs k ≡ Some x) × (f x ≡ y)
map_back f [] k y there = absurd (none-some y there)
map_back f (x ∷ xs) zero y there = (x, refl, same_Some (f x) y there)
map_back f (x ∷ xs) (suc k) y there = map_back f xs k y there

pub none_any : {X : Type 0} (test : X → Bool) → ((x : X) → test x ≡ false) → (xs : List X) → list_any test xs ≡ false
none_any test none [] = refl
none_any test none (x ∷ xs) = ap (λ b. b || list_any test xs) (none x) ∙ none_any test none xs

pub find_none : {X : Type 0} (test : X → Bool) (xs : List X) → AllByRecursion (λ x. test x ≡ false) xs → find test xs ≡ None
find_none test [] all = refl
find_none test (x ∷ xs) all = ap (λ b. cond b (Some x) (find test xs)) all.0 ∙ find_none test xs all.1

pub filter_short : {X : Type 0} (f : X → Bool) (xs : List X) → length (filter f xs) ≤ length xs
filter_short f [] = omega arith
filter_short f (x ∷ xs) =
    let h : length (filter f xs) ≤ length xs = filter_short f xs in
    elim (f x) as (λ b. length (cond b (x ∷ filter f xs) (filter f xs)) ≤ length (x ∷ xs)) [ true ↦ omega arith | false ↦ omega arith ]

pub made_same : {X Y : Type 0} (f g : X → Option Y) → ((x : X) → f x ≡ g x) → (xs : List X) → filter_map f xs ≡ filter_map g xs
made_same f g same [] = refl
made_same f g same (x ∷ xs) = ap₂ (λ o ys. cons_option o ys) (same x) (made_same f g same xs)

pub find_agree : {X : Type 0} (P : X → Type 0) (f g : X → Bool) → ((x : X) → P x → f x ≡ g x) → (xs : List X) → AllByRecursion P xs → find f xs ≡ find g xs
find_agree P f g same [] all = refl
find_agree P f g same (x ∷ xs) all = ap₂ (λ b o. cond b (Some x) o) (same x all.0) (find_agree P f g same xs all.1)

pub range_get : (a n k : ℕ) → k < n → slice_get (range_with_len a n) k ≡ Some (a + k)
range_get a zero k h = absurd (omega arith)
range_get a (suc n) zero h = ap (λ m. Some m) (sym (add-zero a))
range_get a (suc n) (suc k) h = let same : a + 1 + k ≡ a + suc k = omega arith in range_get (a + 1) n k (omega arith) ∙ ap (λ m. Some m) same

pub range_more : (a n : ℕ) → range_with_len a (suc n) ≡ range_with_len a n ++ (a + n) ∷ []
range_more a zero = let same : a ≡ a + 0 = omega arith in ap (λ k. k ∷ []) same
range_more a (suc n) =
    let same : a + 1 + n ≡ a + suc n = omega arith in
    ap (λ ks. a ∷ ks) (range_more (a + 1) n ∙ ap (λ k. range_with_len (a + 1) n ++ k ∷ []) same)

pub range_last : (a n : ℕ) → range_with_len a (n + 1) ≡ range_with_len a n ++ (a + n) ∷ []
range_last a n = let next : n + 1 ≡ suc n = omega arith in ap (range_with_len a) next ∙ range_more a n

-- the rows from a number on
pub rows_set : {X : Type 0} (f g : ℕ → X) (n a k : ℕ) (r : X) → k < n → g (a + k) ≡ r → ((m : ℕ) → m ≢ a + k → g m ≡ f m)
    → map g (range_with_len a n) ≡ slice_set (map f (range_with_len a n)) k r
rows_set f g zero a k r within here there = absurd (omega arith)
rows_set f g (suc n) a zero r within here there =
    let first : a + 0 ≡ a = omega arith in
    ap₂ (λ x xs. x ∷ xs) (ap g (sym first) ∙ here) (later f g n (a + 1) (λ m above. there m (λ e. absurd (omega arith))))
  where
    later : {X : Type 0} (f g : ℕ → X) (n a : ℕ) → ((m : ℕ) → a ≤ m → g m ≡ f m) → map g (range_with_len a n) ≡ map f (range_with_len a n)
    later f g zero a same = refl
    later f g (suc n) a same = ap₂ (λ x xs. x ∷ xs) (same a (omega arith)) (later f g n (a + 1) (λ m above. same m (omega arith)))
rows_set f g (suc n) a (suc k) r within here there =
    let next : a + suc k ≡ a + 1 + k = omega arith in
    ap₂ (λ x xs. x ∷ xs) (there a (λ e. absurd (omega arith)))
    (rows_set f g n (a + 1) k r (omega arith) (ap g (sym next) ∙ here) (λ m other. there m (λ e. other (e ∙ next))))

pub row_at : {X : Type 0} (f : ℕ → X) (n a k : ℕ) (r : X) → slice_get (map f (range_with_len a n)) k ≡ Some r → (k < n) × (f (a + k) ≡ r)
row_at f zero a k r e = absurd (none-some r e)
row_at f (suc n) a zero r e = let first : a + 0 ≡ a = omega arith in (omega arith, ap f first ∙ same_Some (f a) r e)
row_at f (suc n) a (suc k) r e =
    let rest = row_at f n (a + 1) k r e in
    let next : a + suc k ≡ a + 1 + k = omega arith in
    let inside : k < n = rest.0 in
    (omega arith, ap f next ∙ rest.1)

pub enumerate_get : {X : Type 0} (n : ℕ) (xs : List X) (k : ℕ) (x : X) → slice_get xs k ≡ Some x → slice_get (enumerate_from n xs) k ≡ Some (n + k, x)
enumerate_get n [] k x e = absurd (none-some x e)
enumerate_get n (y ∷ ys) zero x e =
    let place : n ≡ n + 0 = omega arith in
    ap (λ z. Some (n, z)) (same_Some y x e) ∙ ap (λ i. Some (i, x)) place
enumerate_get n (y ∷ ys) (suc k) x e =
    let place : n + 1 + k ≡ n + suc k = omega arith in
    enumerate_get (n + 1) ys k x e ∙ ap (λ i. Some (i, x)) place

pub flat_length : {X : Type 0} (f : X → List ℕ) (n : ℕ) (xs : List X) → AllByRecursion (λ x. length (f x) ≡ n) xs → length (flat_map f xs) ≡ n * length xs
flat_length f n [] all = omega arith
flat_length f n (x ∷ xs) all =
    let first : length (f x) ≡ n = all.0 in
    let rest : length (flat_map f xs) ≡ n * length xs = flat_length f n xs all.1 in
    omega (arith, length-append (f x) (flat_map f xs))

pub length_of_sum : {X : Type 0} (f : X → List ℕ) (m : ℕ) (g : X → ℕ) (xs : List X) → AllByRecursion (λ x. length (f x) ≡ m * g x) xs
    → length (flat_map f xs) ≡ m * sum_by g xs
length_of_sum f m g [] all =
    let none : sum_by g [] ≡ 0 = refl in
    let nothing : m * sum_by g [] ≡ m * 0 = ap (λ n. m * n) none in
    omega arith
length_of_sum f m g (x ∷ xs) all =
    let first : length (f x) ≡ m * g x = all.0 in
    let rest : length (flat_map f xs) ≡ m * sum_by g xs = length_of_sum f m g xs all.1 in
    let sum : m * sum_by g (x ∷ xs) ≡ m * (g x + sum_by g xs) = ap (λ n. m * n) (sum_by-cons g x xs) in
    let both : m * (g x + sum_by g xs) ≡ m * g x + m * sum_by g xs = mul-add m (g x) (sum_by g xs) in
    omega (arith, length-append (f x) (flat_map f xs))

pub all_enumerate : {X : Type 0} (P : ℕ × X → Type 0) (Q : X → Type 0) (n : ℕ) (xs : List X) → ((i : ℕ) (x : X) → Q x → P (i, x)) → AllByRecursion Q xs
    → AllByRecursion P (enumerate_from n xs)
all_enumerate P Q n [] step h = tt
all_enumerate P Q n (x ∷ xs) step h = (step n x h.0, all_enumerate P Q (n + 1) xs step h.1)

pub longer_option : {Y : Type 0} (o : Option Y) (ys : List Y) → length (cons_option o ys) ≤ suc (length ys)
longer_option None ys = omega arith
longer_option (Some y) ys = omega arith

pub all_passed : {X : Type 0} (p : X → Bool) (xs : List X) → AllByRecursion (λ x. p x ≡ true) (filter p xs)
all_passed p [] = tt
all_passed p (x ∷ xs) = go (p x) refl (all_passed p xs)
  where
    go : (b : Bool) → p x ≡ b → AllByRecursion (λ x. p x ≡ true) (filter p xs) → AllByRecursion (λ x. p x ≡ true) (cond b (x ∷ filter p xs) (filter p xs))
    go true e rest = (e, rest)
    go false e rest = rest

pub found_none : {X : Type 0} (f : X → Bool) (xs : List X) → find f xs ≡ None → list_any f xs ≡ false
found_none f [] e = refl
found_none {X} f (x ∷ xs) e = go (f x) e (found_none f xs)
  where
    go : (b : Bool) → cond b (Some x) (find f xs) ≡ None → (find f xs ≡ None → list_any f xs ≡ false) → (b || list_any f xs) ≡ false
    go true g rest = absurd cc
    go false g rest = rest g

pub any_agree : {X : Type 0} (f g : X → Bool) (xs : List X) → AllByRecursion (λ x. f x ≡ g x) xs → list_any f xs ≡ list_any g xs
any_agree f g [] all = refl
any_agree f g (x ∷ xs) all = ap₂ (λ a b. a || b) all.0 (any_agree f g xs all.1)

pub any_member : {X : Type 0} (f : X → Bool) (xs : List X) (k : ℕ) (x : X) → slice_get xs k ≡ Some x → f x ≡ true → list_any f xs ≡ true
any_member f [] k x at e = absurd (none-some x at)
any_member f (y ∷ ys) zero x at e = ap (λ b. b || list_any f ys) (ap f (same_Some y x at) ∙ e)
any_member f (y ∷ ys) (suc k) x at e = ap (λ b. f y || b) (any_member f ys k x at e) ∙ either (f y)
  where
    either : (b : Bool) → (b || true) ≡ true
    either true = refl
    either false = refl

pub any_found : {X : Type 0} (f : X → Bool) (xs : List X) → list_any f xs ≡ is_some (find f xs)
any_found f [] = refl
any_found {X} f (x ∷ xs) = by (f x) (any_found f xs)
  where
    by : (b : Bool) → list_any f xs ≡ is_some (find f xs) → (b || list_any f xs) ≡ is_some (cond b (Some x) (find f xs))
    by true rest = refl
    by false rest = rest

pub any_fail : {X : Type 0} (f : X → Bool) (xs : List X) → AllByRecursion (λ x. f x ≡ false) xs → list_any f xs ≡ false
any_fail f [] all = refl
any_fail f (x ∷ xs) all = ap (λ b. b || list_any f xs) all.0 ∙ any_fail f xs all.1

pub all_agree : {X : Type 0} (P : X → Type 0) (f g : X → Bool) → ((x : X) → P x → f x ≡ g x) → (xs : List X) → AllByRecursion P xs
    → list_all f xs ≡ list_all g xs
all_agree P f g same [] all = refl
all_agree P f g same (x ∷ xs) all = ap₂ (λ a b. a && b) (same x all.0) (all_agree P f g same xs all.1)

pub few_pass : (test : ℕ → Bool) (a n : ℕ) → length (filter test (range_with_len a n)) ≤ n
few_pass test a zero = omega arith
few_pass test a (suc n) = go (test a) (few_pass test (a + 1) n)
  where
    go : (b : Bool) → length (filter test (range_with_len (a + 1) n)) ≤ n
        → length (cond b (a ∷ filter test (range_with_len (a + 1) n)) (filter test (range_with_len (a + 1) n))) ≤ suc n
    go true h = omega arith
    go false h = omega arith

pub numbered_length : {X Y : Type 0} (f : ℕ × X → Y) (n : ℕ) (xs : List X) → length (map f (enumerate_from n xs)) ≡ length xs
numbered_length f n [] = refl
numbered_length f n (x ∷ xs) = ap suc (numbered_length f (n + 1) xs)

pub map-replicate : {A B : Type 0} (f : A → B) (n : ℕ) (x : A) → map f (replicate n x) ≡ replicate n (f x)
map-replicate f zero x = refl
map-replicate f (suc n) x = ap (λ ys. f x ∷ ys) (map-replicate f n x)

pub get_mapped : {X Y : Type 0} (f : X → Y) (xs : List X) (k : ℕ) (x : X) → slice_get xs k ≡ Some x → slice_get (map f xs) k ≡ Some (f x)
get_mapped f [] k x e = absurd (none-some x e)
get_mapped f (y ∷ xs) zero x e = ap (λ z. Some z) (ap f (same_Some y x e))
get_mapped f (y ∷ xs) (suc k) x e = get_mapped f xs k x e

pub sum_more : (g : ℕ → ℕ) (n : ℕ) → sum_by g (range_with_len 0 (n + 1)) ≡ sum_by g (range_with_len 0 n) + g n
sum_more g n =
    sym (ap (sum_by g) (map-id (range_with_len 0 (n + 1))))
    ∙ (sum_by-map-range_with_len_more g (λ x. x) 0 n n (omega arith) ∙ ap (λ xs. sum_by g xs + g n) (map-id (range_with_len 0 n)))

pub all_cons_option : {X : Type 0} (P : X → Type 0) (o : Option X) (xs : List X) → IfSome o P → AllByRecursion P xs → AllByRecursion P (cons_option o xs)
all_cons_option P None xs h k = k
all_cons_option P (Some x) xs h k = (h, k)

pub all_filter_map : {X Y : Type 0} (P : Y → Type 0) (Q : X → Type 0) (f : X → Option Y) (xs : List X) → ((x : X) → Q x → IfSome (f x) P) → AllByRecursion Q xs
    → AllByRecursion P (filter_map f xs)
all_filter_map P Q f [] step h = tt
all_filter_map P Q f (x ∷ xs) step h = all_cons_option P (f x) (filter_map f xs) (step x h.0) (all_filter_map P Q f xs step h.1)

pub filter_map_none : {X Y : Type 0} (f : X → Option Y) (xs : List X) → ((x : X) → f x ≡ None) → filter_map f xs ≡ []
filter_map_none f [] h = refl
filter_map_none f (x ∷ xs) h = ap (λ o. cons_option o (filter_map f xs)) (h x) ∙ filter_map_none f xs h

pub flat_map_nil : {X Y : Type 0} (f : X → List Y) (xs : List X) → ((x : X) → f x ≡ []) → flat_map f xs ≡ []
flat_map_nil f [] h = refl
flat_map_nil f (x ∷ xs) h = ap (λ ys. ys ++ flat_map f xs) (h x) ∙ flat_map_nil f xs h

pub map_constant : {X : Type 0} (f : ℕ → X) (x : X) (a n : ℕ) → ((k : ℕ) → f k ≡ x) → map f (range_with_len a n) ≡ replicate n x
map_constant f x a zero h = refl
map_constant f x a (suc n) h = ap (λ y. y ∷ map f (range_with_len (a + 1) n)) (h a) ∙ ap (λ ys. x ∷ ys) (map_constant f x (a + 1) n h)

pub all_flat_map : {X Y : Type 0} (P : Y → Type 0) (f : X → List Y) (xs : List X) → ((x : X) → AllByRecursion P (f x)) → AllByRecursion P (flat_map f xs)
all_flat_map P f [] h = tt
all_flat_map P f (x ∷ xs) h = all_append P (f x) (flat_map f xs) (h x) (all_flat_map P f xs h)

pub none_kept : (p : ℕ → Bool) (a n : ℕ) → ((k : ℕ) → k < n → p (a + k) ≡ false) → filter p (range_with_len a n) ≡ []
none_kept p a zero h = refl
none_kept p a (suc n) h =
    let first : p a ≡ false = ap p (sym (add-zero a)) ∙ h 0 (omega arith) in
    let rest : filter p (range_with_len (a + 1) n) ≡ [] =
    none_kept p (a + 1) n (λ k l. let place : a + 1 + k ≡ a + suc k = omega arith in ap p place ∙ h (suc k) (omega arith)) in
    ap (λ b. cond b (a ∷ filter p (range_with_len (a + 1) n)) (filter p (range_with_len (a + 1) n))) first ∙ rest

pub range_from_0 : (n : ℕ) → range_with_len 0 (n + 1) ≡ range_with_len 0 n ++ n ∷ []
range_from_0 n = sym (map-id (range_with_len 0 (n + 1))) ∙ map-range_with_len_more (λ k. k) 0 n n (omega arith)
    ∙ ap (λ xs. xs ++ n ∷ []) (map-id (range_with_len 0 n))

pub one_more : {Y : Type 0} (o : Option Y) → cons_option o [] ≡ option_to_list o
one_more None = refl
one_more (Some y) = refl

pub more : {X Y : Type 0} (h : X → Option Y) (xs : List X) (x : X) → filter_map h (xs ++ x ∷ []) ≡ filter_map h xs ++ option_to_list (h x)
more h xs x = filter_map-append h xs (x ∷ []) ∙ ap (λ ys. filter_map h xs ++ ys) (one_more (h x))

-- what has landed is some of what was placed
pub fewer_taken : {X : Type 0} (f : X → Bool) (m : ℕ) (xs : List X) → length (filter f (take m xs)) ≤ length (filter f xs)
fewer_taken f zero xs = omega arith
fewer_taken f (suc m) [] = omega arith
fewer_taken {X} f (suc m) (x ∷ xs) = go (f x) (fewer_taken f m xs)
  where
    go : (b : Bool) → length (filter f (take m xs)) ≤ length (filter f xs)
        → length (cond b (x ∷ filter f (take m xs)) (filter f (take m xs))) ≤ length (cond b (x ∷ filter f xs) (filter f xs))
    go true rest = omega arith
    go false rest = rest

pub given_later : {X Y : Type 0} (give : X → Option Y) (x : X) (xs : List X) (y : Y) → IsAmong (filter_map give xs) y → IsAmong (filter_map give (x ∷ xs)) y
given_later give x xs y at = elim (give x) as (λ o. IsAmong (cons_option o (filter_map give xs)) y) [ None ↦ at | Some z ↦ later z (filter_map give xs) y at ]

pub given_at : {X Y : Type 0} (give : X → Option Y) (xs : List X) (x : X) (y : Y) (i : ℕ) → slice_get xs i ≡ Some x → give x ≡ Some y
    → IsAmong (filter_map give xs) y
given_at give [] x y i at is = absurd (none-some x at)
given_at give (z ∷ zs) x y zero at is = (0, ap (λ o. slice_get (cons_option o (filter_map give zs)) 0) (ap give (same_Some z x at) ∙ is))
given_at give (z ∷ zs) x y (suc i) at is = given_later give z zs y (given_at give zs x y i at is)

pub filter_both : {X : Type 0} (test : X → Bool) (xs ys : List X) → filter test (xs ++ ys) ≡ filter test xs ++ filter test ys
filter_both test [] ys = refl
filter_both test (x ∷ xs) ys = go (test x) (filter_both test xs ys)
  where
    go : (b : Bool) → filter test (xs ++ ys) ≡ filter test xs ++ filter test ys
        → cond b (x ∷ filter test (xs ++ ys)) (filter test (xs ++ ys)) ≡ cond b (x ∷ filter test xs) (filter test xs) ++ filter test ys
    go true e = ap (λ zs. x ∷ zs) e
    go false e = e

pub filters_swap : {X : Type 0} (f g : X → Bool) (xs : List X) → filter f (filter g xs) ≡ filter g (filter f xs)
filters_swap f g [] = refl
filters_swap f g (x ∷ xs) = go (f x) (g x) refl refl (filters_swap f g xs)
  where
    go : (a b : Bool) → f x ≡ a → g x ≡ b → filter f (filter g xs) ≡ filter g (filter f xs)
        → filter f (cond b (x ∷ filter g xs) (filter g xs)) ≡ filter g (cond a (x ∷ filter f xs) (filter f xs))
    go true true p q e = ap (λ c. cond c (x ∷ filter f (filter g xs)) (filter f (filter g xs))) p ∙ ap (λ ys. x ∷ ys) e
        ∙ sym (ap (λ c. cond c (x ∷ filter g (filter f xs)) (filter g (filter f xs))) q)
    go true false p q e = e ∙ sym (ap (λ c. cond c (x ∷ filter g (filter f xs)) (filter g (filter f xs))) q)
    go false true p q e = ap (λ c. cond c (x ∷ filter f (filter g xs)) (filter f (filter g xs))) p ∙ e
    go false false p q e = e

pub made_alike : {X Y : Type 0} (f g : X → Option Y) (xs : List X) → ((k : ℕ) (x : X) → slice_get xs k ≡ Some x → f x ≡ g x) → filter_map f xs ≡ filter_map g xs
made_alike f g [] same = refl
made_alike f g (x ∷ xs) same = ap₂ (λ o ys. cons_option o ys) (same 0 x refl) (made_alike f g xs (λ k y e. same (suc k) y e))

pub numbered_at : {X Y : Type 0} (f : ℕ × X → Y) (a : ℕ) (xs : List X) (u : ℕ)
    → slice_get (map f (enumerate_from a xs)) u ≡ option_map (λ x. f (a + u, x)) (slice_get xs u)
numbered_at f a [] u = refl
numbered_at f a (x ∷ xs) zero = let first : a ≡ a + 0 = omega arith in ap (λ k. Some (f (k, x))) first
numbered_at f a (x ∷ xs) (suc u) =
    let next : a + 1 + u ≡ a + suc u = omega arith in
    numbered_at f (a + 1) xs u ∙ ap (λ k. option_map (λ x. f (k, x)) (slice_get xs u)) next

pub enumerate_append : {X : Type 0} (n : ℕ) (xs ys : List X) → enumerate_from n (xs ++ ys) ≡ enumerate_from n xs ++ enumerate_from (n + length xs) ys
enumerate_append n [] ys = let e : n + 0 ≡ n = omega arith in rw e refl
enumerate_append n (x ∷ xs) ys = let e : n + suc (length xs) ≡ n + 1 + length xs = omega arith in rw e (ap (λ zs. (n, x) ∷ zs) (enumerate_append (n + 1) xs ys))

pub map_dropped : {A B : Type 0} (f : A → B) (i : ℕ) (xs : List A) → map f (drop i xs) ≡ drop i (map f xs)
map_dropped f zero xs = refl
map_dropped f (suc i) [] = refl
map_dropped f (suc i) (x ∷ xs) = map_dropped f i xs

pub all_in_range : (a n m : ℕ) → a + n ≤ m → AllByRecursion (λ u. u < m) (range_with_len a n)
all_in_range a zero m h = tt
all_in_range a (suc n) m h = (omega arith, all_in_range (a + 1) n m (omega arith))

pub length_mapped : {X : Type 0} (f : ℕ → X) (a n : ℕ) → length (map f (range_with_len a n)) ≡ n
length_mapped f a zero = refl
length_mapped f a (suc n) = ap suc (length_mapped f (a + 1) n)

pub map_last : {X Y : Type 0} (f : X → Y) (xs : List X) (y : X) → map f (xs ++ y ∷ []) ≡ map f xs ++ f y ∷ []
map_last f [] y = refl
map_last f (x ∷ xs) y = ap (λ ys. f x ∷ ys) (map_last f xs y)

pub among_mapped : {X Y : Type 0} (f : X → Y) (xs : List X) (y : Y) (i : ℕ) → slice_get (map f xs) i ≡ Some y → (x : X) × IsAmong xs x × (f x ≡ y)
among_mapped f [] y i e = absurd cc
among_mapped f (x ∷ xs) y zero e = let same : f x ≡ y = cc in (x, (0, refl), same)
among_mapped f (x ∷ xs) y (suc i) e = let r = among_mapped f xs y i e in (r.0, later x xs r.0 r.1, r.2)

pub from_map : {X Y : Type 0} (f : X → Y) (xs : List X) (y : Y) → IsAmong (map f xs) y → (x : X) × IsAmong xs x × (f x ≡ y)
from_map f xs y at = among_mapped f xs y at.0 at.1

pub map_at : {X Y : Type 0} (f : X → Y) (xs : List X) (x : X) (i : ℕ) → slice_get xs i ≡ Some x → slice_get (map f xs) i ≡ Some (f x)
map_at f [] x i e = absurd cc
map_at f (y ∷ ys) x zero e = let same : y ≡ x = cc in ap (λ z. Some (f z)) same
map_at f (y ∷ ys) x (suc i) e = map_at f ys x i e

pub in_map : {X Y : Type 0} (f : X → Y) (xs : List X) (x : X) → IsAmong xs x → IsAmong (map f xs) (f x)
in_map f xs x at = (at.0, map_at f xs x at.0 at.1)

pub filter_first : {X : Type 0} (test : X → Bool) (y : X) (ys : List X) (x : X) (i : ℕ) → ((k : ℕ) → slice_get (filter test ys) k ≡ Some x → IsAmong ys x)
    → slice_get (y ∷ filter test ys) i ≡ Some x → IsAmong (y ∷ ys) x
filter_first test y ys x zero rest e = (0, e)
filter_first test y ys x (suc i) rest e = later y ys x (rest i e)

pub filter_at : {X : Type 0} (test : X → Bool) (xs : List X) (x : X) (i : ℕ) → slice_get (filter test xs) i ≡ Some x → IsAmong xs x
filter_at test [] x i e = absurd cc
filter_at test (y ∷ ys) x i e = elim (test y) as (λ b. slice_get (cond b (y ∷ filter test ys) (filter test ys)) i ≡ Some x → IsAmong (y ∷ ys) x) [
  | true ↦ λ h. filter_first test y ys x i (filter_at test ys x) h
  | false ↦ λ h. later y ys x (filter_at test ys x i h)
] e

pub from_filter : {X : Type 0} (test : X → Bool) (xs : List X) (x : X) → IsAmong (filter test xs) x → IsAmong xs x
from_filter test xs x at = filter_at test xs x at.0 at.1

pub kept_first : {X : Type 0} (test : X → Bool) (y : X) (ys : List X) (x : X) → y ≡ x → test x ≡ true → IsAmong (filter test (y ∷ ys)) x
kept_first test y ys x same passes = (0, ap (λ b. slice_get (cond b (y ∷ filter test ys) (filter test ys)) 0) (ap test same ∙ passes) ∙ ap (λ z. Some z) same)

pub kept_later : {X : Type 0} (test : X → Bool) (y : X) (ys : List X) (x : X) → IsAmong (filter test ys) x → IsAmong (filter test (y ∷ ys)) x
kept_later test y ys x at = elim (test y) as (λ b. IsAmong (cond b (y ∷ filter test ys) (filter test ys)) x) [
  | true ↦ later y (filter test ys) x at
  | false ↦ at
]

pub kept_at : {X : Type 0} (test : X → Bool) (xs : List X) (x : X) (i : ℕ) → slice_get xs i ≡ Some x → test x ≡ true → IsAmong (filter test xs) x
kept_at test [] x i e passes = absurd cc
kept_at test (y ∷ ys) x zero e passes = let same : y ≡ x = cc in kept_first test y ys x same passes
kept_at test (y ∷ ys) x (suc i) e passes = kept_later test y ys x (kept_at test ys x i e passes)

pub in_filter : {X : Type 0} (test : X → Bool) (xs : List X) (x : X) → IsAmong xs x → test x ≡ true → IsAmong (filter test xs) x
in_filter test xs x at passes = kept_at test xs x at.0 at.1 passes

pub found_passes : {X : Type 0} (test : X → Bool) (xs : List X) (x : X) → find test xs ≡ Some x → (test x ≡ true) × IsAmong xs x
found_passes test [] x e = absurd cc
found_passes test (y ∷ ys) x e = elim (test y) as (λ b. test y ≡ b → cond b (Some y) (find test ys) ≡ Some x → (test x ≡ true) × IsAmong (y ∷ ys) x) [
  | true ↦ λ passes is. let same : y ≡ x = cc in (ap test (sym same) ∙ passes, (0, is))
  | false ↦ λ passes is. let r = found_passes test ys x is in (r.0, later y ys x r.1)
] refl e

pub from_first : {X Y : Type 0} (give : X → Option Y) (x : X) (xs : List X) (y : Y) (o : Option Y) (i : ℕ) → give x ≡ o
    → ((k : ℕ) → slice_get (filter_map give xs) k ≡ Some y → (z : X) × IsAmong xs z × (give z ≡ Some y))
    → slice_get (cons_option o (filter_map give xs)) i ≡ Some y
    → (z : X) × IsAmong (x ∷ xs) z × (give z ≡ Some y)
from_first give x xs y None i is rest e = let r = rest i e in (r.0, later x xs r.0 r.1, r.2)
from_first give x xs y (Some w) zero is rest e = let same : w ≡ y = cc in (x, (0, refl), is ∙ ap (λ v. Some v) same)
from_first give x xs y (Some w) (suc i) is rest e = let r = rest i e in (r.0, later x xs r.0 r.1, r.2)

pub from_given : {X Y : Type 0} (give : X → Option Y) (xs : List X) (y : Y) (i : ℕ) → slice_get (filter_map give xs) i ≡ Some y
    → (x : X) × IsAmong xs x × (give x ≡ Some y)
from_given give [] y i e = absurd cc
from_given give (x ∷ xs) y i e = from_first give x xs y (give x) i refl (from_given give xs y) e

-- what holds of the images of all
pub all_unmap : {X Y : Type 0} (P : Y → Type 0) (f : X → Y) (xs : List X) → AllByRecursion P (map f xs) → AllByRecursion (λ x. P (f x)) xs
all_unmap P f [] h = tt
all_unmap P f (x ∷ xs) h = (h.0, all_unmap P f xs h.1)

-- the sum of the first elements, and of one more
sum_take_at : {X : Type 0} (g : X → ℕ) (xs : List X) (i : ℕ) (x : X) → slice_get xs i ≡ Some x → sum_by g (take (suc i) xs) ≡ sum_by g (take i xs) + g x
sum_take_at g [] i x is = absurd (none-some x is)
sum_take_at g (y ∷ xs) zero x is =
    let same : g y ≡ g x = ap g (same_Some y x is) in
    let one : sum_by g (y ∷ []) ≡ g y + sum_by g [] = sum_by-cons g y [] in
    let none : sum_by g [] ≡ 0 = refl in
    let start : sum_by g (take zero (y ∷ xs)) ≡ 0 = refl in
    let first : sum_by g (take (suc zero) (y ∷ xs)) ≡ sum_by g (y ∷ []) = refl in
    omega arith
sum_take_at g (y ∷ xs) (suc i) x is =
    let rest : sum_by g (take (suc i) xs) ≡ sum_by g (take i xs) + g x = sum_take_at g xs i x is in
    let all : sum_by g (take (suc (suc i)) (y ∷ xs)) ≡ g y + sum_by g (take (suc i) xs) = sum_by-cons g y (take (suc i) xs) in
    let part : sum_by g (take (suc i) (y ∷ xs)) ≡ g y + sum_by g (take i xs) = sum_by-cons g y (take i xs) in
    omega arith

pub sum_take : {X : Type 0} (g : X → ℕ) (xs : List X) (i : ℕ) (x : X) → slice_get xs i ≡ Some x → sum_by g (take (i + 1) xs) ≡ sum_by g (take i xs) + g x
sum_take g xs i x is =
    let next : i + 1 ≡ suc i = omega arith in
    ap (λ n. sum_by g (take n xs)) next ∙ sum_take_at g xs i x is

-- the pieces of all elements
pub pieces_all : {X : Type 0} (f : X → List ℕ) (xs : List X) (i : ℕ) (base now : List ℕ) → length xs ≤ i → now ≡ base ++ flat_map f (take i xs)
    → now ≡ base ++ flat_map f xs
pieces_all f xs i base now le now-is = now-is ∙ ap (λ ys. base ++ flat_map f ys) (take_all i xs le)

-- what is in a filtered list
pub filtered_from : {X : Type 0} (f : X → Bool) (xs : List X) (r : X) → Contains (filter f xs) r → Contains xs r × (f r ≡ true)
filtered_from f [] r there = absurd (contains_none r there)
filtered_from {X} f (x ∷ xs) r there = by (f x) refl there (λ h. filtered_from f xs r h)
  where
    by : (b : Bool) → f x ≡ b → Contains (cond b (x ∷ filter f xs) (filter f xs)) r → (Contains (filter f xs) r → Contains xs r × (f r ≡ true))
        → Contains (x ∷ xs) r × (f r ≡ true)
    by true e h rest = elim (contains_cases x r (filter f xs) h) [
      | inl same ↦ (subst (Contains (x ∷ xs)) same (contains_first x xs), ap f (sym same) ∙ e)
      | inr later ↦ (contains_more x r xs (rest later).0, (rest later).1)
    ]
    by false e h rest = (contains_more x r xs (rest h).0, (rest h).1)

pub filtered_into : {X : Type 0} (f : X → Bool) (xs : List X) (r : X) → Contains xs r → f r ≡ true → Contains (filter f xs) r
filtered_into f [] r there is = absurd (contains_none r there)
filtered_into {X} f (x ∷ xs) r there is = by (f x) refl (contains_cases x r xs there) (λ h. filtered_into f xs r h is)
  where
    by : (b : Bool) → f x ≡ b → (x ≡ r) ⊎ Contains xs r → (Contains xs r → Contains (filter f xs) r)
        → Contains (cond b (x ∷ filter f xs) (filter f xs)) r
    by true e (inl same) rest = subst (Contains (x ∷ filter f xs)) same (contains_first x (filter f xs))
    by true e (inr later) rest = contains_more x r (filter f xs) (rest later)
    by false e (inl same) rest = let no : f x ≡ true = ap f same ∙ is in absurd (cc)
    by false e (inr later) rest = rest later

-- what is made of one number more
made_more : {X Y : Type 0} (f : X → Option Y) (xs : List X) (x : X) → filter_map f (xs ++ x ∷ []) ≡ filter_map f xs ++ cons_option (f x) []
made_more f [] x = refl
made_more f (y ∷ xs) x = by_first (f y) (filter_map f xs) (cons_option (f x) []) (filter_map f (xs ++ x ∷ [])) (made_more f xs x) where
  by_first : {Y : Type 0} (o : Option Y) (front rest all : List Y) → all ≡ front ++ rest → cons_option o all ≡ cons_option o front ++ rest
  by_first None front rest all is = is
  by_first (Some y) front rest all is = ap (λ ys. y ∷ ys) is

pub made_last : {Y : Type 0} (f : ℕ → Option Y) (n : ℕ) → filter_map f (range_with_len 0 (n + 1)) ≡ filter_map f (range_with_len 0 n) ++ cons_option (f n) []
made_last f n = ap (filter_map f) (range_from_0 n) ∙ made_more f (range_with_len 0 n) n
