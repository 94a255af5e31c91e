-- Sums over all seats, and what holds of each, where one seat's view changes or a seat is added.
use Rattle.std.proofs.Common.{◌≡◌, ◌≢◌, ℕ, zero, suc, ◌+◌, ◌≤◌, List, [], ◌∷◌, ◌++◌, set, refl, sym, ap, subst, ⊎_elim, arith}
use Rattle.std.proofs.lemmas.Bool.{cases_lt}
use mathlib.Core.Option.{some, some-ne-none, some-injective}
use lib.ListN.{get_elem?}
use Rattle.atomic_table.proofs.Lists.{at_set, at_snoc}
use Rattle.pblk_model.specs.RingState.{total}
use Rattle.write_ring.specs.declared.view.View.{View}
use Rattle.write_ring.specs.Rule.{AllViews}

module _ (f : View → ℕ) where
  pub sum_changed : (views : List View) (by : ℕ) (v w : View) → get_elem? views by ≡ some v → total f (set views by w) + f v ≡ total f views + f w
  sum_changed [] by v w there = absurd (some-ne-none v (sym there))
  sum_changed (u ∷ views) zero v w there = let same : f u ≡ f v = ap f (some-injective u v there) in omega arith
  sum_changed (u ∷ views) (suc by) v w there = let later = sum_changed views by v w there in omega arith

  pub sum_same : (views : List View) (by : ℕ) (v w : View) → get_elem? views by ≡ some v → f w ≡ f v → total f (set views by w) ≡ total f views
  sum_same views by v w there same = let changed = sum_changed views by v w there in omega arith

  pub sum_more : (views : List View) (w : View) → total f (views ++ w ∷ []) ≡ total f views + f w
  sum_more [] w = omega arith
  sum_more (u ∷ views) w = let later = sum_more views w in omega arith

  pub sum_one : (views : List View) (by : ℕ) (v : View) → get_elem? views by ≡ some v → f v ≤ total f views
  sum_one [] by v there = absurd (some-ne-none v (sym there))
  sum_one (u ∷ views) zero v there = let same : f u ≡ f v = ap f (some-injective u v there) in omega arith
  sum_one (u ∷ views) (suc by) v there = let later = sum_one views by v there in omega arith

  -- two seats
  pub sum_two : (views : List View) (i j : ℕ) (v w : View) → i ≢ j → get_elem? views i ≡ some v → get_elem? views j ≡ some w → f v + f w ≤ total f views
  sum_two [] i j v w apart here there = absurd (some-ne-none v (sym here))
  sum_two (u ∷ views) zero zero v w apart here there = absurd (apart refl)
  sum_two (u ∷ views) zero (suc j) v w apart here there =
      let same : f u ≡ f v = ap f (some-injective u v here) in
      let later = sum_one views j w there in
      omega arith
  sum_two (u ∷ views) (suc i) zero v w apart here there =
      let same : f u ≡ f w = ap f (some-injective u w there) in
      let later = sum_one views i v here in
      omega arith
  sum_two (u ∷ views) (suc i) (suc j) v w apart here there =
      let later = sum_two views i j v w (λ e. apart (ap suc e)) here there in
      omega arith

  -- some seat has a part of it
  pub sum_some : (views : List View) → 1 ≤ total f views → (j : ℕ) × (u : View) × (get_elem? views j ≡ some u) × (1 ≤ f u)
  sum_some [] some_of = absurd (omega arith)
  sum_some (u ∷ views) some_of =
      ⊎_elim (λ none. let later = sum_some views (omega arith) in (suc later.0, later.1, later.2, later.3)) (λ here. (zero, u, refl, here))
      (cases_lt (f u) 1)

  sum_none : (views : List View) → AllViews (λ u. f u ≡ 0) views → total f views ≡ 0
  sum_none [] none = refl
  sum_none (u ∷ views) none =
      let first = none 0 u refl in
      let later = sum_none views (λ j w there. none (suc j) w there) in
      omega arith

  -- no other seat has anything of it
  pub sum_alone : (views : List View) (by : ℕ) (v : View) → get_elem? views by ≡ some v
      → ((j : ℕ) (u : View) → j ≢ by → get_elem? views j ≡ some u → f u ≡ 0) → total f views ≡ f v
  sum_alone [] by v there others = absurd (some-ne-none v (sym there))
  sum_alone (u ∷ views) zero v there others =
      let same : f u ≡ f v = ap f (some-injective u v there) in
      let later = sum_none views (λ j w at. others (suc j) w (λ e. omega arith) at) in
      omega arith
  sum_alone (u ∷ views) (suc by) v there others =
      let first = others 0 u (λ e. omega arith) refl in
      let later = sum_alone views by v there (λ j w apart at. others (suc j) w (λ e. apart (omega arith)) at) in
      omega arith

module _ (P : View → Type 0) where
  pub each_changed : (views : List View) (by : ℕ) (w : View) → ((j : ℕ) (u : View) → j ≢ by → get_elem? views j ≡ some u → P u) → P w
      → AllViews P (set views by w)
  each_changed views by w others mine j u there =
      ⊎_elim (λ (here : (j ≡ by) × (w ≡ u)). subst P here.1 mine)
      (λ (else : (j ≢ by) × (get_elem? views j ≡ some u)). others j u else.0 else.1) (at_set views by j w u there)

  pub each_more : (views : List View) (w : View) → AllViews P views → P w → AllViews P (views ++ w ∷ [])
  each_more views w old new j u there = ⊎_elim (λ was. old j u was) (λ (same : w ≡ u). subst P same new) (at_snoc views w u j there)
