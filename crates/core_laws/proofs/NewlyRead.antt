-- The blocks of a chunk that can be read now, and couldn't before.
use Rattle.std.proofs.Common.{◌≡◌, ◌⊎◌, inl, inr, ℕ, ◌+◌, ◌-◌, ◌<◌, ◌≤◌, ◌&&◌, ◌||◌, zero, suc, nat_lt, Bool, true, false, cond, Some, None, Option, List, [], ◌∷◌, length, take, drop, refl, sym, ap, ap₂, ◌∙◌, arith}
use Rattle.std.specs.Prelude.{is_some}
use Rattle.std.specs.List.{find, list_any, enumerate_from}
use Rattle.std.proofs.lemmas.Bool.{cases_order}
use Rattle.core_laws.proofs.Placing.{not_below}
use Rattle.pblk_model.proofs.Tests.{lt_true}

-- ---- finding among numbered elements

-- those that are read are the first ones
pub find_below : {X : Type 0} (bears : X → Bool) (reads : ℕ → Bool) (high n : ℕ) (xs : List X) → ((b : ℕ) → n ≤ b → b < n + length xs → reads b ≡ nat_lt b high)
    → find (λ (b : ℕ × X). bears b.1 && reads b.0) (enumerate_from n xs) ≡ find (λ (b : ℕ × X). bears b.1) (enumerate_from n (take (high - n) xs))
find_below {X} bears reads high n [] same = nothing (high - n)
  where
    nothing : (k : ℕ) → None ≡ find (λ (b : ℕ × X). bears b.1) (enumerate_from n (take k (let none : List X = [] in none)))
    nothing zero = refl
    nothing (suc k) = refl
find_below {X} bears reads high n (x ∷ xs) same =
    go (cases_order n high) (find_below bears reads high (n + 1) xs (λ b low within. same b (omega arith) (omega arith)))
  where
    head : ℕ × X
    head = (n, x)

    here : reads n ≡ nat_lt n high
    here = same n (omega arith) (omega arith)

    drops : (a : Bool) → (a && false) ≡ false
    drops true = refl
    drops false = refl

    holds : (a : Bool) → (a && true) ≡ a
    holds true = refl
    holds false = refl

    past : high ≤ n → find (λ (b : ℕ × X). bears b.1 && reads b.0) (enumerate_from (n + 1) xs) ≡ find (λ (b : ℕ × X). bears b.1)
        (enumerate_from (n + 1) (take (high - (n + 1)) xs))
        → cond (bears x && reads n) (Some head) (find (λ (b : ℕ × X). bears b.1 && reads b.0) (enumerate_from (n + 1) xs)) ≡ find (λ (b : ℕ × X). bears b.1)
        (enumerate_from n (take (high - n) (x ∷ xs)))
    past above rest =
        let none : high - n ≡ 0 = omega arith in
        let later : high - (n + 1) ≡ 0 = omega arith in
        ap (λ c. cond c (Some head) (find (λ (b : ℕ × X). bears b.1 && reads b.0) (enumerate_from (n + 1) xs)))
        (ap (λ c. bears x && c) (here ∙ not_below high n above) ∙ drops (bears x))
        ∙ rest ∙ ap (λ k. find (λ (b : ℕ × X). bears b.1) (enumerate_from (n + 1) (take k xs))) later
        ∙ ap (λ k. find (λ (b : ℕ × X). bears b.1) (enumerate_from n (take k (x ∷ xs)))) (sym none)

    go : (n ≡ high) ⊎ ((n < high) ⊎ (high < n))
        → find (λ (b : ℕ × X). bears b.1 && reads b.0) (enumerate_from (n + 1) xs) ≡ find (λ (b : ℕ × X). bears b.1)
        (enumerate_from (n + 1) (take (high - (n + 1)) xs))
        → cond (bears x && reads n) (Some head) (find (λ (b : ℕ × X). bears b.1 && reads b.0) (enumerate_from (n + 1) xs)) ≡ find (λ (b : ℕ × X). bears b.1)
        (enumerate_from n (take (high - n) (x ∷ xs)))
    go (inl equal) rest = past (omega arith) rest
    go (inr (inr above)) rest = past (omega arith) rest
    go (inr (inl below)) rest =
        let next : suc (high - (n + 1)) ≡ high - n = omega arith in
        ap₂ (λ c (o : Option (ℕ × X)). cond c (Some head) o) (ap (λ c. bears x && c) (here ∙ lt_true n high below) ∙ holds (bears x)) rest
        ∙ ap (λ k. find (λ (b : ℕ × X). bears b.1) (enumerate_from n (take k (x ∷ xs)))) next

-- where none of the first passes, it is found behind them
pub find_behind : {X : Type 0} (bears : X → Bool) (k n : ℕ) (xs : List X) → list_any bears (take k xs) ≡ false
    → find (λ (b : ℕ × X). bears b.1) (enumerate_from n xs) ≡ find (λ (b : ℕ × X). bears b.1) (enumerate_from (n + k) (drop k xs))
find_behind {X} bears zero n xs none = let same : n ≡ n + 0 = omega arith in ap (λ m. find (λ (b : ℕ × X). bears b.1) (enumerate_from m xs)) same
find_behind bears (suc k) n [] none = refl
find_behind {X} bears (suc k) n (x ∷ xs) none = go (bears x) none (find_behind bears k (n + 1) xs)
  where
    head : ℕ × X
    head = (n, x)

    go : (b : Bool) → (b || list_any bears (take k xs)) ≡ false
        → (list_any bears (take k xs) ≡ false
        → find (λ (b : ℕ × X). bears b.1) (enumerate_from (n + 1) xs) ≡ find (λ (b : ℕ × X). bears b.1) (enumerate_from (n + 1 + k) (drop k xs)))
        → cond b (Some head) (find (λ (b : ℕ × X). bears b.1) (enumerate_from (n + 1) xs)) ≡ find (λ (b : ℕ × X). bears b.1)
        (enumerate_from (n + suc k) (drop k xs))
    go true f rest = absurd cc
    go false f rest = let next : n + 1 + k ≡ n + suc k = omega arith in rest f ∙ ap (λ m. find (λ (b : ℕ × X). bears b.1) (enumerate_from m (drop k xs))) next

-- whether one is found
pub found_any : {X : Type 0} (bears : X → Bool) (n : ℕ) (xs : List X) → is_some (find (λ (b : ℕ × X). bears b.1) (enumerate_from n xs)) ≡ list_any bears xs
found_any bears n [] = refl
found_any {X} bears n (x ∷ xs) = go (bears x) (found_any bears (n + 1) xs)
  where
    head : ℕ × X
    head = (n, x)

    go : (b : Bool) → is_some (find (λ (b : ℕ × X). bears b.1) (enumerate_from (n + 1) xs)) ≡ list_any bears xs
        → is_some (cond b (Some head) (find (λ (b : ℕ × X). bears b.1) (enumerate_from (n + 1) xs))) ≡ (b || list_any bears xs)
    go true rest = refl
    go false rest = rest

-- ---- the last stripe
