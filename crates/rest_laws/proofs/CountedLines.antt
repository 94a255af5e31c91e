-- How many numbers of a range pass one of several tests.
use Rattle.std.proofs.Common.{◌≡◌, ◌⊎◌, inl, inr, ℕ, ◌+◌, ◌<◌, ◌≤◌, ◌||◌, zero, suc, Bool, true, false, cond, List, [], ◌∷◌, length, refl, ap, arith}
use Rattle.std.specs.List.{AllByRecursion, filter, range_with_len}
use Rattle.pblk_model.proofs.Maps.{none_kept}

-- where no two of them pass, one does at most
pub one_in_range : (test : ℕ → Bool) (a n : ℕ)
    → ((j k : ℕ) → a ≤ j → j < a + n → a ≤ k → k < a + n → test j ≡ true → test k ≡ true → j ≡ k) → length (filter test (range_with_len a n)) ≤ 1
one_in_range test a zero one = omega arith
one_in_range test a (suc n) one =
    go (test a) refl (one_in_range test (a + 1) n (λ j k j_from j_below k_from k_below. one j k (omega arith) (omega arith) (omega arith) (omega arith)))
  where
    fails : test a ≡ true → (k : ℕ) → k < n → test (a + 1 + k) ≡ false
    fails e k below = by (test (a + 1 + k)) refl
      where
        by : (b : Bool) → test (a + 1 + k) ≡ b → test (a + 1 + k) ≡ false
        by false f = f
        by true f =
            let same : a ≡ a + 1 + k = one a (a + 1 + k) (omega arith) (omega arith) (omega arith) (omega arith) e f in
            absurd (omega arith)

    go : (b : Bool) → test a ≡ b → length (filter test (range_with_len (a + 1) n)) ≤ 1
        → length (cond b (a ∷ filter test (range_with_len (a + 1) n)) (filter test (range_with_len (a + 1) n))) ≤ 1
    go false e rest = rest
    go true e rest =
        let none : filter test (range_with_len (a + 1) n) ≡ [] = none_kept test (a + 1) n (fails e) in
        let zeros : length (filter test (range_with_len (a + 1) n)) ≡ 0 = ap (λ (xs : List ℕ). length xs) none in
        omega arith

-- where each passes one of two tests, the numbers of those that pass each add up to all
pub passing_either : {X : Type 0} (f g : X → Bool) (xs : List X) → AllByRecursion (λ x. (f x ≡ true) ⊎ (g x ≡ true)) xs
    → length xs ≤ length (filter f xs) + length (filter g xs)
passing_either f g [] all = omega arith
passing_either {X} f g (x ∷ xs) all = go (f x) (g x) refl refl all.0 (passing_either f g xs all.1)
  where
    go : (a b : Bool) → f x ≡ a → g x ≡ b → (f x ≡ true) ⊎ (g x ≡ true) → length xs ≤ length (filter f xs) + length (filter g xs)
        → suc (length xs) ≤ length (cond a (x ∷ filter f xs) (filter f xs)) + length (cond b (x ∷ filter g xs) (filter g xs))
    go true true f_is g_is some rest = omega arith
    go true false f_is g_is some rest = omega arith
    go false true f_is g_is some rest = omega arith
    go false false f_is g_is (inl e) rest = absurd cc
    go false false f_is g_is (inr e) rest = absurd cc

-- those that pass one of two tests are at most those that pass each
pub passing_one_of : {X : Type 0} (f g : X → Bool) (xs : List X)
    → length (filter (λ x. f x || g x) xs) ≤ length (filter f xs) + length (filter g xs)
passing_one_of f g [] = omega arith
passing_one_of {X} f g (x ∷ xs) = go (f x) (g x) (passing_one_of f g xs)
  where
    go : (a b : Bool) → length (filter (λ x. f x || g x) xs) ≤ length (filter f xs) + length (filter g xs)
        → length (cond (a || b) (x ∷ filter (λ x. f x || g x) xs) (filter (λ x. f x || g x) xs))
        ≤ length (cond a (x ∷ filter f xs) (filter f xs)) + length (cond b (x ∷ filter g xs) (filter g xs))
    go true true rest = omega arith
    go true false rest = omega arith
    go false true rest = omega arith
    go false false rest = rest
