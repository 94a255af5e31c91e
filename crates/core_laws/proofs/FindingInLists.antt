-- What is found in a list.
use Rattle.std.proofs.Common.{◌≡◌, ◌⊎◌, inl, inr, ℕ, ◌+◌, ◌*◌, ◌<◌, ◌≤◌, ◌&&◌, ◌||◌, zero, suc, Bool, true, false, cond, Some, None, List, [], ◌∷◌, ◌++◌, length, refl, sym, ap, ◌∙◌, arith}
use Rattle.std.specs.Prelude.{slice_get}
use Rattle.std.specs.List.{AllByRecursion, find, list_any, flat_map, enumerate_from}
use Rattle.std.proofs.lemmas.Option.{same_Some, none-some}
use Rattle.pblk_model.specs.Chunk.{Block}
use Rattle.pblk_world.specs.EngineLog.{Placed}
use Rattle.core_laws.proofs.GivenBack.{IsAt}
use Rattle.pblk_model.proofs.Maps.{enumerate_append}

pub any_none : {X : Type 0} (f : X → Bool) (xs : List X) → list_any f xs ≡ false → find f xs ≡ None
any_none f [] e = refl
any_none {X} f (x ∷ xs) e = go (f x) e (any_none f xs)
  where
    go : (b : Bool) → (b || list_any f xs) ≡ false → (list_any f xs ≡ false → find f xs ≡ None) → cond b (Some x) (find f xs) ≡ None
    go true g rest = absurd cc
    go false g rest = rest g

-- the only element that passes
pub find_unique : {X : Type 0} (f : X → Bool) (xs : List X) (k : ℕ) (y : X) → slice_get xs k ≡ Some y → f y ≡ true → AllByRecursion (λ x. f x ≡ true → x ≡ y) xs
    → find f xs ≡ Some y
find_unique f [] k y at passes all = absurd (none-some y at)
find_unique {X} f (x ∷ xs) zero y at passes all =
    let same : x ≡ y = same_Some x y at in
    ap (λ b. cond b (Some x) (find f xs)) (ap f same ∙ passes) ∙ ap (λ z. Some z) same
find_unique {X} f (x ∷ xs) (suc k) y at passes all = go (f x) refl (find_unique f xs k y at passes all.1)
  where
    go : (b : Bool) → f x ≡ b → find f xs ≡ Some y → cond b (Some x) (find f xs) ≡ Some y
    go true e rest = ap (λ z. Some z) (all.0 e)
    go false e rest = rest

pub find_append : {X : Type 0} (f : X → Bool) (xs ys : List X) (z : X) → find f (xs ++ ys) ≡ Some z → (find f xs ≡ Some z) ⊎ (find f ys ≡ Some z)
find_append f [] ys z e = inr e
find_append {X} f (x ∷ xs) ys z e = go (f x) e (find_append f xs ys z)
  where
    go : (b : Bool) → cond b (Some x) (find f (xs ++ ys)) ≡ Some z → (find f (xs ++ ys) ≡ Some z → (find f xs ≡ Some z) ⊎ (find f ys ≡ Some z))
        → (cond b (Some x) (find f xs) ≡ Some z) ⊎ (find f ys ≡ Some z)
    go true g rest = inl g
    go false g rest = rest g

-- ---- numbered blocks

reads_first : {X : Type 0} (bears : X → Bool) (reads : ℕ → Bool) (n m : ℕ) (bs : List X) → ((a b : ℕ) → a ≤ b → reads b ≡ true → reads a ≡ true) → m ≤ n
    → list_any (λ (b : ℕ × X). bears b.1 && reads b.0) (enumerate_from n bs) ≡ true → reads m ≡ true
reads_first bears reads n m [] down before e = absurd cc
reads_first {X} bears reads n m (x ∷ bs) down before e = go (bears x) (reads n) refl e (reads_first bears reads (n + 1) m bs down (omega arith))
  where
    go : (b c : Bool) → reads n ≡ c → ((b && c) || list_any (λ (b : ℕ × X). bears b.1 && reads b.0) (enumerate_from (n + 1) bs)) ≡ true
        → (list_any (λ (b : ℕ × X). bears b.1 && reads b.0) (enumerate_from (n + 1) bs) ≡ true → reads m ≡ true) → reads m ≡ true
    go true true f g rest = down m n before f
    go true false f g rest = rest g
    go false c f g rest = rest g

-- what is read from the front on stays the first
pub first_stays : {X : Type 0} (bears : X → Bool) (reads now : ℕ → Bool) (n : ℕ) (bs : List X) → ((a b : ℕ) → a ≤ b → reads b ≡ true → reads a ≡ true)
    → ((b : ℕ) → reads b ≡ true → now b ≡ true)
    → list_any (λ (b : ℕ × X). bears b.1 && reads b.0) (enumerate_from n bs) ≡ true
    → find (λ (b : ℕ × X). bears b.1 && now b.0) (enumerate_from n bs) ≡ find (λ (b : ℕ × X). bears b.1 && reads b.0) (enumerate_from n bs)
first_stays bears reads now n [] down more e = refl
first_stays {X} bears reads now n (x ∷ bs) down more e =
    go (bears x) (reads n) refl e (first_stays bears reads now (n + 1) bs down more) (reads_first bears reads (n + 1) n bs down (omega arith))
  where
    head : ℕ × X
    head = (n, x)

    go : (b c : Bool) → reads n ≡ c → ((b && c) || list_any (λ (b : ℕ × X). bears b.1 && reads b.0) (enumerate_from (n + 1) bs)) ≡ true
        → (list_any (λ (b : ℕ × X). bears b.1 && reads b.0) (enumerate_from (n + 1) bs) ≡ true
        → find (λ (b : ℕ × X). bears b.1 && now b.0) (enumerate_from (n + 1) bs) ≡ find (λ (b : ℕ × X). bears b.1 && reads b.0) (enumerate_from (n + 1) bs))
        → (list_any (λ (b : ℕ × X). bears b.1 && reads b.0) (enumerate_from (n + 1) bs) ≡ true → reads n ≡ true)
        → cond (b && now n) (Some (n, x)) (find (λ (b : ℕ × X). bears b.1 && now b.0) (enumerate_from (n + 1) bs))
        ≡ cond (b && c) (Some (n, x)) (find (λ (b : ℕ × X). bears b.1 && reads b.0) (enumerate_from (n + 1) bs))
    go true true f g rest first = ap (λ c. cond c (Some head) (find (λ (b : ℕ × X). bears b.1 && now b.0) (enumerate_from (n + 1) bs))) (more n f)
    go true false f g rest first = let bad : reads n ≡ true = first g in absurd cc
    go false c f g rest first = rest g

-- what is found is within the numbers
pub found_within : {X : Type 0} (f : ℕ × X → Bool) (n : ℕ) (bs : List X) (b : ℕ × X) → find f (enumerate_from n bs) ≡ Some b → (n ≤ b.0) × (b.0 < n + length bs)
found_within f n [] b e = absurd (none-some b e)
found_within {X} f n (x ∷ bs) b e = go (f (n, x)) e (found_within f (n + 1) bs b)
  where
    go : (c : Bool) → cond c (Some (n, x)) (find f (enumerate_from (n + 1) bs)) ≡ Some b
        → (find f (enumerate_from (n + 1) bs) ≡ Some b → (n + 1 ≤ b.0) × (b.0 < n + 1 + length bs)) → (n ≤ b.0) × (b.0 < n + suc (length bs))
    go true g rest = let head : ℕ × X = (n, x) in let same : n ≡ b.0 = ap (λ (y : ℕ × X). y.0) (same_Some head b g) in (omega arith, omega arith)
    go false g rest = let both = rest g in let low : n + 1 ≤ b.0 = both.0 in let high : b.0 < n + 1 + length bs = both.1 in (omega arith, omega arith)

-- what is found in the blocks of stripes is found in one of them
pub found_in_stripe : (f : ℕ × Block → Bool) (size n : ℕ) (ps : List Placed) (b : ℕ × Block)
    → ((k : ℕ) (p : Placed) → slice_get ps k ≡ Some p → IsAt size n k p)
    → find f (enumerate_from n (flat_map (λ (p : Placed). p.stripe.blocks) ps)) ≡ Some b
    → (k : ℕ) × (p : Placed) × (slice_get ps k ≡ Some p) × (find f (enumerate_from p.stripe.at p.stripe.blocks) ≡ Some b)
found_in_stripe f size n [] b each e = absurd (none-some b e)
found_in_stripe f size n (p ∷ ps) b each e =
    go (find_append f (enumerate_from n p.stripe.blocks) (enumerate_from (n + length p.stripe.blocks) (flat_map (λ (p : Placed). p.stripe.blocks) ps)) b
    (ap (find f) (sym (enumerate_append n p.stripe.blocks (flat_map (λ (p : Placed). p.stripe.blocks) ps))) ∙ e))
    (λ g. found_in_stripe f size (n + size) ps b (λ k q h. let there = each (suc k) q h in (there.0 ∙ next_at n size k, there.1)) g)
  where
    next_at : (n size k : ℕ) → n + suc k * size ≡ n + size + k * size
    next_at n size k = grind arith

    first : IsAt size n 0 p
    first = each 0 p refl

    at : n ≡ p.stripe.at
    at = let e : p.stripe.at ≡ n + 0 * size = first.0 in grind arith

    go : (find f (enumerate_from n p.stripe.blocks) ≡ Some b)
        ⊎ (find f (enumerate_from (n + length p.stripe.blocks) (flat_map (λ (p : Placed). p.stripe.blocks) ps)) ≡ Some b)
        → (find f (enumerate_from (n + size) (flat_map (λ (p : Placed). p.stripe.blocks) ps)) ≡ Some b
        → (k : ℕ) × (q : Placed) × (slice_get ps k ≡ Some q) × (find f (enumerate_from q.stripe.at q.stripe.blocks) ≡ Some b))
        → (k : ℕ) × (q : Placed) × (slice_get (p ∷ ps) k ≡ Some q) × (find f (enumerate_from q.stripe.at q.stripe.blocks) ≡ Some b)
    go (inl g) rest = (0, p, refl, ap (λ m. find f (enumerate_from m p.stripe.blocks)) (sym at) ∙ g)
    go (inr g) rest =
        let there = rest (ap (λ m. find f (enumerate_from (n + m) (flat_map (λ (p : Placed). p.stripe.blocks) ps))) (sym first.1) ∙ g) in
        (suc there.0, there.1, there.2, there.3)
