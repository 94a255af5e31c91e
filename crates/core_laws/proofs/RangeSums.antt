-- Sums and lists over the numbers of a range.
use Rattle.std.proofs.Common.{◌≡◌, ◌≢◌, ℕ, ◌+◌, ◌<◌, ◌≤◌, zero, suc, List, [], ◌∷◌, get_or, refl, sym, subst, ap, ap₂, ◌∙◌, arith}
use Rattle.std.specs.Prelude.{map, sum_by}
use Rattle.std.specs.List.{range_with_len}
use Rattle.std.proofs.lemmas.List.Sums.{sum_by-cons}

pub value_at : {X : Type 0} (f : ℕ → X) (n a k : ℕ) (d : X) → k < n → get_or (map f (range_with_len a n)) k d ≡ f (a + k)
value_at f zero a k d within = absurd (omega arith)
value_at f (suc n) a zero d within = let first : a ≡ a + 0 = omega arith in ap f first
value_at f (suc n) a (suc k) d within =
    let next : a + 1 + k ≡ a + suc k = omega arith in
    value_at f n (a + 1) k d (omega arith) ∙ ap f next

pub sum_same : {X : Type 0} (f g : X → ℕ) → ((x : X) → f x ≡ g x) → (xs : List X) → sum_by f xs ≡ sum_by g xs
sum_same f g same [] = refl
sum_same f g same (x ∷ xs) = sum_by-cons f x xs ∙ ap₂ (λ m n. m + n) (same x) (sum_same f g same xs) ∙ sym (sum_by-cons g x xs)

same_above : (f g : ℕ → ℕ) (n a : ℕ) → ((m : ℕ) → a ≤ m → g m ≡ f m) → sum_by g (range_with_len a n) ≡ sum_by f (range_with_len a n)
same_above f g zero a same = refl
same_above f g (suc n) a same =
    sum_by-cons g a (range_with_len (a + 1) n)
    ∙ ap₂ (λ m n. m + n) (same a (omega arith)) (same_above f g n (a + 1) (λ m above. same m (omega arith)))
    ∙ sym (sum_by-cons f a (range_with_len (a + 1) n))

-- one term grows
pub sum_more : (f g : ℕ → ℕ) (n a k x : ℕ) → k < n → g (a + k) ≡ f (a + k) + x → ((m : ℕ) → m ≢ a + k → g m ≡ f m)
    → sum_by g (range_with_len a n) ≡ sum_by f (range_with_len a n) + x
sum_more f g zero a k x within here there = absurd (omega arith)
sum_more f g (suc n) a zero x within here there =
    let first : a + 0 ≡ a = omega arith in
    let now : g a ≡ f a + x = subst (λ m. g m ≡ f m + x) first here in
    let rest : sum_by g (range_with_len (a + 1) n) ≡ sum_by f (range_with_len (a + 1) n) =
    same_above f g n (a + 1) (λ m above. there m (λ e. absurd (omega arith))) in
    let new : sum_by g (a ∷ range_with_len (a + 1) n) ≡ g a + sum_by g (range_with_len (a + 1) n) = sum_by-cons g a (range_with_len (a + 1) n) in
    let old : sum_by f (a ∷ range_with_len (a + 1) n) ≡ f a + sum_by f (range_with_len (a + 1) n) = sum_by-cons f a (range_with_len (a + 1) n) in
    omega arith
sum_more f g (suc n) a (suc k) x within here there =
    let next : a + suc k ≡ a + 1 + k = omega arith in
    let now : g a ≡ f a = there a (λ e. absurd (omega arith)) in
    let rest : sum_by g (range_with_len (a + 1) n) ≡ sum_by f (range_with_len (a + 1) n) + x =
    sum_more f g n (a + 1) k x (omega arith) (subst (λ m. g m ≡ f m + x) next here) (λ m other. there m (λ e. other (e ∙ next))) in
    let new : sum_by g (a ∷ range_with_len (a + 1) n) ≡ g a + sum_by g (range_with_len (a + 1) n) = sum_by-cons g a (range_with_len (a + 1) n) in
    let old : sum_by f (a ∷ range_with_len (a + 1) n) ≡ f a + sum_by f (range_with_len (a + 1) n) = sum_by-cons f a (range_with_len (a + 1) n) in
    omega arith
