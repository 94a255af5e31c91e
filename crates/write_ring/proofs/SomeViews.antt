-- What holds of some seat, where one seat's view changes, a seat is added, or one goes into another.
use Rattle.std.proofs.Common.{◌≡◌, ◌≢◌, ◌⊎◌, ℕ, zero, suc, ◌+◌, List, [], ◌∷◌, ◌++◌, length, set, refl, sym, ap, ◌∙◌, subst, inl, inr, ⊎_elim, arith}
use mathlib.Core.Option.{some, some-ne-none, some-injective}
use mathlib.Core.Logic.{dite}
use native.Mathlib.Decide.{ℕ_discrete}
use lib.ListN.{get_elem?}
use Rattle.atomic_table.proofs.Lists.{set_else, at_longer}
use Rattle.write_ring.specs.declared.view.View.{View}
use Rattle.write_ring.specs.Stock.{SomeView}

module _ {A : Type 0} where
  pub set_known : (l : List A) (i : ℕ) (a b : A) → get_elem? l i ≡ some a → get_elem? (set l i b) i ≡ some b
  set_known [] i a b there = absurd (some-ne-none a (sym there))
  set_known (x ∷ l) zero a b there = refl
  set_known (x ∷ l) (suc i) a b there = set_known l i a b there

  -- an element is one of the list, or the last one
  pub last_at : (l : List A) (a b : A) (i : ℕ) → get_elem? (l ++ a ∷ []) i ≡ some b → (get_elem? l i ≡ some b) ⊎ ((i ≡ length l) × (a ≡ b))
  last_at [] a b zero there = inr (refl, some-injective a b there)
  last_at [] a b (suc i) there = absurd (some-ne-none b (sym there))
  last_at (x ∷ l) a b zero there = inl there
  last_at (x ∷ l) a b (suc i) there = ⊎_elim (λ was. inl was) (λ (e : (i ≡ length l) × (a ≡ b)). inr (ap suc e.0, e.1)) (last_at l a b i there)

  -- an element of the second of two lists
  pub behind_at : (l m : List A) (i n : ℕ) (a : A) → n ≡ length l + i → get_elem? m i ≡ some a → get_elem? (l ++ m) n ≡ some a
  behind_at [] m i n a is there = let same : n ≡ i = omega arith in ap (λ k. get_elem? m k) same ∙ there
  behind_at (x ∷ l) m i zero a is there = absurd (omega arith)
  behind_at (x ∷ l) m i (suc n) a is there = behind_at l m i n a (omega arith) there

  pub same_place : (l : List A) (i j : ℕ) (a b : A) → i ≡ j → get_elem? l i ≡ some a → get_elem? l j ≡ some b → a ≡ b
  same_place l i j a b same here there = some-injective a b (sym here ∙ ap (λ k. get_elem? l k) same ∙ there)

module _ (P : View → Type 0) where
  pub some_here : (views : List View) (by : ℕ) (v w : View) → get_elem? views by ≡ some v → P w → SomeView P (set views by w)
  some_here views by v w there is = (by, w, set_known views by v w there, is)

  pub some_changed : (views : List View) (by : ℕ) (v w : View) → get_elem? views by ≡ some v → (P v → P w) → SomeView P views → SomeView P (set views by w)
  some_changed views by v w there step h = dite (ℕ_discrete h.0 by)
      (λ same. some_here views by v w there (step (subst P (same_place views h.0 by h.1 v same h.2 there) h.3)))
      (λ differ. (h.0, h.1, set_else views by h.0 w differ ∙ h.2, h.3))

  pub some_more : (views : List View) (w : View) → SomeView P views → SomeView P (views ++ w ∷ [])
  some_more views w h = (h.0, h.1, at_longer views (w ∷ []) h.0 h.1 h.2, h.3)

  -- a seat is split in two, and it holds of either
  pub some_split : (views : List View) (by : ℕ) (v left right : View) → get_elem? views by ≡ some v → (P v → P left ⊎ P right) → SomeView P views
      → SomeView P (set views by left ++ right ∷ [])
  some_split views by v left right there parts h = dite (ℕ_discrete h.0 by)
      (λ same. ⊎_elim (λ is. some_more (set views by left) right (some_here views by v left there is))
      (λ is. (length (set views by left), right, behind_at (set views by left) (right ∷ []) 0 (length (set views by left)) right (omega arith) refl, is))
      (parts (subst P (same_place views h.0 by h.1 v same h.2 there) h.3)))
      (λ differ. some_more (set views by left) right (h.0, h.1, set_else views by h.0 left differ ∙ h.2, h.3))

  pub some_joined : (views : List View) (by : ℕ) (v : View) (other : ℕ) (w b spent : View) → get_elem? views by ≡ some v → other ≢ by
      → get_elem? (set views by b) other ≡ some w → (P v → P b) → (P w → P b) → SomeView P views → SomeView P (set (set views by b) other spent)
  some_joined views by v other w b spent there apart also first second h =
      let here : get_elem? (set (set views by b) other spent) by ≡ some b =
      set_else (set views by b) other by spent (λ same. apart (sym same)) ∙ set_known views by v b there in
      dite (ℕ_discrete h.0 by)
      (λ same. (by, b, here, first (subst P (same_place views h.0 by h.1 v same h.2 there) h.3)))
      (λ differ.
      let still = set_else views by h.0 b differ ∙ h.2 in
      dite (ℕ_discrete h.0 other)
      (λ same. (by, b, here, second (subst P (same_place (set views by b) h.0 other h.1 w same still also) h.3)))
      (λ else. (h.0, h.1, set_else (set views by b) other h.0 spent else ∙ still, h.3)))
