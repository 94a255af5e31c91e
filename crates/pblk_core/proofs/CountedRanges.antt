-- How many numbers of a range pass a test.
use Rattle.std.proofs.Common.{◌≡◌, ◌≢◌, ℕ, ◌+◌, ◌<◌, zero, suc, Bool, true, false, cond, ◌∷◌, length, refl, sym, ap, ap₂, ◌∙◌, arith}
use Rattle.std.specs.List.{filter, range_with_len}

-- one number fewer
pub fewer_pass : (f g : ℕ → Bool) (a n k : ℕ) → k < n → f (a + k) ≡ true → g (a + k) ≡ false → ((m : ℕ) → m ≢ a + k → g m ≡ f m)
    → length (filter f (range_with_len a n)) ≡ length (filter g (range_with_len a n)) + 1
fewer_pass f g a zero k inside passes fails others = absurd (omega arith)
fewer_pass f g a (suc n) zero inside passes fails others =
    let from : a ≡ a + 0 = omega arith in
    ap (λ b. length (cond b (a ∷ filter f (range_with_len (a + 1) n)) (filter f (range_with_len (a + 1) n)))) (ap f from ∙ passes)
    ∙ (let all : length (filter f (range_with_len (a + 1) n)) ≡ length (filter g (range_with_len (a + 1) n)) = same_rest (a + 1) n (omega arith) in omega arith)
    ∙ ap (λ b. length (cond b (a ∷ filter g (range_with_len (a + 1) n)) (filter g (range_with_len (a + 1) n))) + 1) (sym (ap g from ∙ fails))
  where
    same_rest : (c n : ℕ) → a < c → length (filter f (range_with_len c n)) ≡ length (filter g (range_with_len c n))
    same_rest c zero above = refl
    same_rest c (suc n) above =
        ap₂ (λ b xs. length (cond b (c ∷ xs) xs)) (sym (others c (λ e. absurd (omega arith)))) refl
        ∙ go (g c) (same_rest (c + 1) n (omega arith))
      where
        go : (b : Bool) → length (filter f (range_with_len (c + 1) n)) ≡ length (filter g (range_with_len (c + 1) n))
            → length (cond b (c ∷ filter f (range_with_len (c + 1) n)) (filter f (range_with_len (c + 1) n))) ≡ length
            (cond b (c ∷ filter g (range_with_len (c + 1) n)) (filter g (range_with_len (c + 1) n)))
        go true h = ap suc h
        go false h = h
fewer_pass f g a (suc n) (suc k) inside passes fails others =
    let next : a + 1 + k ≡ a + suc k = omega arith in
    ap (λ b. length (cond b (a ∷ filter f (range_with_len (a + 1) n)) (filter f (range_with_len (a + 1) n)))) (sym (others a (λ e. absurd (omega arith))))
    ∙ go (g a) (fewer_pass f g (a + 1) n k (omega arith) (ap f next ∙ passes) (ap g next ∙ fails) (λ m apart. others m (λ e. apart (e ∙ sym next))))
  where
    go : (b : Bool) → length (filter f (range_with_len (a + 1) n)) ≡ length (filter g (range_with_len (a + 1) n)) + 1
        → length (cond b (a ∷ filter f (range_with_len (a + 1) n)) (filter f (range_with_len (a + 1) n))) ≡ length
        (cond b (a ∷ filter g (range_with_len (a + 1) n)) (filter g (range_with_len (a + 1) n))) + 1
    go true h = omega arith
    go false h = h
