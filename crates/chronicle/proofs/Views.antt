-- What holds of each seat, where one seat's view changes or a seat is added.
use Rattle.std.proofs.Common.{◌≡◌, ◌≢◌, ◌⊎◌, ⊎_elim, inl, inr, ℕ, zero, suc, false, true, true≢false, List, [], ◌∷◌, ◌++◌, length, set, refl, sym, ap, ◌∙◌, subst}
use mathlib.Core.Option.{some, some-ne-none, some-injective}
use lib.ListN.{get_elem?}
use Rattle.atomic_table.specs.Table.{State}
use Rattle.atomic_table.proofs.Lists.{at_set}
use Rattle.pblk_model.proofs.Parts.{only_one}
use Rattle.chronicle.specs.Views.{View}
use Rattle.chronicle.specs.Rule.{IsKept}

at_last : (views : List View) (w u : View) (seat : ℕ) → get_elem? (views ++ w ∷ []) seat ≡ some u
    → (get_elem? views seat ≡ some u) ⊎ ((seat ≡ length views) × (w ≡ u))
at_last [] w u zero there = inr (refl, some-injective w u there)
at_last [] w u (suc seat) there = absurd (some-ne-none u (sym there))
at_last (v ∷ views) w u zero there = inl there
at_last (v ∷ views) w u (suc seat) there = ⊎_elim (λ was. inl was) (λ new. inr (ap suc new.0, new.1)) (at_last views w u seat there)

module _ (P : ℕ → View → Type 0) where
  pub each_changed : (views : List View) (by : ℕ) (w : View) → ((seat : ℕ) (u : View) → seat ≢ by → get_elem? views seat ≡ some u → P seat u) → P by w
      → (seat : ℕ) (u : View) → get_elem? (set views by w) seat ≡ some u → P seat u
  each_changed views by w others mine seat u there =
      ⊎_elim (λ (here : (seat ≡ by) × (w ≡ u)). subst (λ (x : ℕ × View). P x.0 x.1) (λ i. (sym here.0 i, here.1 i)) mine)
      (λ (else : (seat ≢ by) × (get_elem? views seat ≡ some u)). others seat u else.0 else.1) (at_set views by seat w u there)

  pub each_more : (views : List View) (w : View) → ((seat : ℕ) (u : View) → get_elem? views seat ≡ some u → P seat u) → P (length views) w
      → (seat : ℕ) (u : View) → get_elem? (views ++ w ∷ []) seat ≡ some u → P seat u
  each_more views w old new seat u there =
      ⊎_elim (λ was. old seat u was)
      (λ (last : (seat ≡ length views) × (w ≡ u)). subst (λ (x : ℕ × View). P x.0 x.1) (λ i. (sym last.0 i, last.1 i)) new) (at_last views w u seat there)

-- ---- no seat is fresh beside another

-- a seat that isn't fresh
abbrev pub IsStale : ℕ → View → Type 0
IsStale seat u = u.fresh ≡ true → ⊥

pub stale : (seat : ℕ) (u : View) → u.fresh ≡ false → IsStale seat u
stale seat u is fresh = true≢false (sym fresh ∙ is)

-- beside a fresh seat there is no other
others_stale : (s : State (Unit {0}) View) → IsKept s → (by : ℕ) (v : View) → get_elem? s.views by ≡ some v
    → (seat : ℕ) (u : View) → seat ≢ by → get_elem? s.views seat ≡ some u → IsStale seat u
others_stale s h by v here seat u apart there fresh =
    let all = (h.alone seat u there fresh).0 in
    let mine = only_one u by v (subst (λ l. get_elem? l by ≡ some v) all here) in
    let its = only_one u seat u (subst (λ l. get_elem? l seat ≡ some u) all there) in
    apart (its.0 ∙ sym mine.0)

pub stale_changed : (s : State (Unit {0}) View) → IsKept s → (by : ℕ) (v w : View) → get_elem? s.views by ≡ some v → w.fresh ≡ false
    → (seat : ℕ) (u : View) → get_elem? (set s.views by w) seat ≡ some u → IsStale seat u
stale_changed s h by v w here is = each_changed IsStale s.views by w (others_stale s h by v here) (stale by w is)
