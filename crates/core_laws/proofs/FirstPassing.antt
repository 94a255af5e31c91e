-- How many of the first elements of a list pass a test.
use Rattle.std.proofs.Common.{◌≡◌, ◌⊎◌, inl, inr, ℕ, ◌+◌, ◌-◌, ◌<◌, ◌≤◌, ◌==◌, ◌&&◌, zero, suc, nat_le, Bool, true, false, cond, Some, List, [], ◌∷◌, ◌++◌, length, take, refl, sym, ap, ◌∙◌, arith, add-one, length-take}
use Rattle.std.specs.Prelude.{slice_get}
use Rattle.std.specs.List.{AllByRecursion, filter, list_all}
use Rattle.std.proofs.lemmas.Option.{none-some, same_Some}
use Rattle.pblk_world.specs.EngineLog.{Placed}
use Rattle.world_laws.proofs.UnitTurns.{Rises}
use Rattle.core_laws.proofs.LandedCounts.{all_count, count_all}
use Rattle.pblk_model.proofs.Lists.{all_imply}
use Rattle.pblk_model.proofs.Maps.{filter_agree, filter_none, filter_short}
use Rattle.pblk_model.proofs.Parts.{all_at, all_taken}
use Rattle.pblk_model.proofs.Tests.{no_both, other_number}

-- ---- all of them

-- there are so many, and all of them pass, exactly where none is left
pub all_by_left : {X : Type 0} (f : X → Bool) (n : ℕ) (xs : List X)
    → (nat_le n (length xs) && list_all f (take n xs)) ≡ (n - length (filter f (take n xs)) == 0)
all_by_left {X} f n xs = go (nat_le n (length xs)) (list_all f (take n xs)) refl refl
  where
    few : length (filter f (take n xs)) ≤ length (take n xs)
    few = filter_short f (take n xs)

    go : (a b : Bool) → nat_le n (length xs) ≡ a → list_all f (take n xs) ≡ b → (a && b) ≡ (n - length (filter f (take n xs)) == 0)
    go true true d e =
        let there : n ≤ length xs = grind arith in
        let all : length (filter f (take n xs)) ≡ length (take n xs) = all_count f (take n xs) e in
        let none : n - length (filter f (take n xs)) ≡ 0 = omega (arith, length-take n xs) in
        sym (ap (λ m. m == 0) none)
    go true false d e = sym (other_number (n - length (filter f (take n xs))) 0 (λ none.
        let there : n ≤ length xs = grind arith in
        let all : length (filter f (take n xs)) ≡ length (take n xs) = omega (arith, few, length-take n xs) in
        no_both (list_all f (take n xs)) (count_all f (take n xs) all) e))
    go false b d e = sym (other_number (n - length (filter f (take n xs))) 0 (λ none.
        let short : length xs < n = grind arith in
        absurd (omega (arith, few, length-take n xs))))

-- ---- more elements that fail

pub first_kept : {X : Type 0} (f g : X → Bool) (n : ℕ) (xs more : List X) → AllByRecursion (λ x. g x ≡ f x) xs → AllByRecursion (λ x. g x ≡ false) more
    → length (filter g (take n (xs ++ more))) ≡ length (filter f (take n xs))
first_kept f g zero xs more same none = refl
first_kept f g (suc n) [] more same none = ap length (filter_none g (take (suc n) more) (all_taken (λ x. g x ≡ false) (suc n) more none))
first_kept {X} f g (suc n) (x ∷ xs) more same none =
    ap (λ b. length (cond b (x ∷ filter g (take n (xs ++ more))) (filter g (take n (xs ++ more))))) same.0
    ∙ go (f x) (first_kept f g n xs more same.1 none)
  where
    go : (b : Bool) → length (filter g (take n (xs ++ more))) ≡ length (filter f (take n xs))
        → length (cond b (x ∷ filter g (take n (xs ++ more))) (filter g (take n (xs ++ more)))) ≡ length
        (cond b (x ∷ filter f (take n xs)) (filter f (take n xs)))
    go true rest = ap suc rest
    go false rest = rest

-- ---- one element more that passes

module _ (f g : Placed → Bool) (p : Placed) (before : f p ≡ false) (now : g p ≡ true) where
  beside : (ps : List Placed) → AllByRecursion (λ (q : Placed). p.number < q.number) ps → AllByRecursion (λ q. (q ≡ p) ⊎ (g q ≡ f q)) ps
      → AllByRecursion (λ q. g q ≡ f q) ps
  beside [] later same = tt
  beside (q ∷ ps) later same = (go same.0, beside ps later.1 same.1)
    where
      go : (q ≡ p) ⊎ (g q ≡ f q) → g q ≡ f q
      go (inr e) = e
      go (inl e) = let number : q.number ≡ p.number = ap (λ (r : Placed). r.number) e in let above : p.number < q.number = later.0 in absurd (omega arith)

  same_rest : (n : ℕ) (ps : List Placed) → AllByRecursion (λ q. g q ≡ f q) ps → filter g (take n ps) ≡ filter f (take n ps)
  same_rest n ps same = filter_agree (λ q. g q ≡ f q) g f (λ q e. e) (take n ps) (all_taken (λ q. g q ≡ f q) n ps same)

  -- one that stands before it is another
  another : (q : Placed) → q.number < p.number → (q ≡ p) ⊎ (g q ≡ f q) → g q ≡ f q
  another q less (inr e) = e
  another q less (inl e) = let number : q.number ≡ p.number = ap (λ (r : Placed). r.number) e in absurd (omega arith)

  pub first_more : (n k : ℕ) (ps : List Placed) → k < n → Rises ps → slice_get ps k ≡ Some p → AllByRecursion (λ q. (q ≡ p) ⊎ (g q ≡ f q)) ps
      → length (filter g (take n ps)) ≡ length (filter f (take n ps)) + 1
  first_more zero k ps within rise at same = absurd (omega arith)
  first_more (suc n) k [] within rise at same = absurd (none-some p at)
  first_more (suc n) zero (q ∷ ps) within rise at same =
      let it : q ≡ p = same_Some q p at in
      let later : AllByRecursion (λ (r : Placed). p.number < r.number) ps =
      all_imply (λ (r : Placed). q.number < r.number) (λ (r : Placed). p.number < r.number)
      (λ r h. let number : q.number ≡ p.number = ap (λ (x : Placed). x.number) it in omega arith) ps rise.0 in
      ap (λ b. length (cond b (q ∷ filter g (take n ps)) (filter g (take n ps)))) (ap g it ∙ now)
      ∙ ap (λ qs. suc (length qs)) (same_rest n ps (beside ps later same.1))
      ∙ sym (add-one (length (filter f (take n ps))))
      ∙ ap (λ b. length (cond b (q ∷ filter f (take n ps)) (filter f (take n ps))) + 1) (sym (ap f it ∙ before))
  first_more (suc n) (suc k) (q ∷ ps) within rise at same =
      ap (λ b. length (cond b (q ∷ filter g (take n ps)) (filter g (take n ps))))
      (another q (all_at (λ (r : Placed). q.number < r.number) ps k p at rise.0) same.0)
      ∙ go (f q) (first_more n k ps (omega arith) rise.1 at same.1)
    where
      go : (b : Bool) → length (filter g (take n ps)) ≡ length (filter f (take n ps)) + 1
          → length (cond b (q ∷ filter g (take n ps)) (filter g (take n ps))) ≡ length
          (cond b (q ∷ filter f (take n ps)) (filter f (take n ps))) + 1
      go true rest = ap suc rest ∙ omega arith
      go false rest = rest

  pub first_same : (n k : ℕ) (ps : List Placed) → n ≤ k → Rises ps → slice_get ps k ≡ Some p → AllByRecursion (λ q. (q ≡ p) ⊎ (g q ≡ f q)) ps
      → length (filter g (take n ps)) ≡ length (filter f (take n ps))
  first_same zero k ps past rise at same = refl
  first_same (suc n) k [] past rise at same = absurd (none-some p at)
  first_same (suc n) zero (q ∷ ps) past rise at same = absurd (omega arith)
  first_same (suc n) (suc k) (q ∷ ps) past rise at same =
      ap (λ b. length (cond b (q ∷ filter g (take n ps)) (filter g (take n ps))))
      (another q (all_at (λ (r : Placed). q.number < r.number) ps k p at rise.0) same.0)
      ∙ go (f q) (first_same n k ps (omega arith) rise.1 at same.1)
    where
      go : (b : Bool) → length (filter g (take n ps)) ≡ length (filter f (take n ps))
          → length (cond b (q ∷ filter g (take n ps)) (filter g (take n ps))) ≡ length
          (cond b (q ∷ filter f (take n ps)) (filter f (take n ps)))
      go true rest = ap suc rest
      go false rest = rest
