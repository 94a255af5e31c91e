-- Words and views by their places, where one of them changes.
use Rattle.std.proofs.Common.{◌≡◌, ◌≢◌, ◌⊎◌, ℕ, zero, suc, ◌+◌, ◌*◌, ◌<◌, ◌≤◌, List, [], ◌∷◌, ◌++◌, length, set, refl, sym, ap, ◌∙◌, subst, ⊎_elim, inl, inr, arith, get_or-set_same, get_or-set_other}
use Rattle.std.specs.Prelude.{slice_index, Some, None}
use Rattle.std.proofs.lemmas.Option.{none-some, same_Some}
use mathlib.Core.Option.{some, some-ne-none, some-injective}
use mathlib.Core.Logic.{dite}
use native.Mathlib.Decide.{ℕ_discrete}
use lib.ListN.{get_elem?}
use Rattle.atomic_table.proofs.Lists.{at_set, at_snoc, at_longer, set_else}
use Rattle.numbered_locks.specs.declared.view.View.{View}
use Rattle.numbered_locks.specs.Steps.{word_at, idle, filling, holding}
use Rattle.numbered_locks.specs.Kept.{Has, Holds}

pub word_here : (ws : List ℕ) (size i n : ℕ) → length ws ≡ 16 * size → i < size → slice_index (set ws (word_at i) n) (word_at i) ≡ n
word_here ws size i n long low = get_or-set_same ws (word_at i) n 0 (omega arith)

pub word_else : (ws : List ℕ) (i k n : ℕ) → k ≢ i → slice_index (set ws (word_at i) n) (word_at k) ≡ slice_index ws (word_at k)
word_else ws i k n differ = get_or-set_other ws (word_at i) (word_at k) n 0 (λ same. differ (omega arith))

pub set_known : {A : Type 0} (l : List A) (i : ℕ) (a b : A) → get_elem? l i ≡ some a → get_elem? (set l i b) i ≡ some b
set_known [] i a b there = absurd (some-ne-none a (sym there))
set_known (x ∷ l) zero a b there = refl
set_known (x ∷ l) (suc i) a b there = set_known l i a b there

pub same_place : {A : Type 0} (l : List A) (i j : ℕ) (a b : A) → i ≡ j → get_elem? l i ≡ some a → get_elem? l j ≡ some b → a ≡ b
same_place l i j a b same here there = some-injective a b (sym here ∙ ap (λ k. get_elem? l k) same ∙ there)

pub idle_has : (i : ℕ) → Has idle i → ⊥
idle_has i = ⊎_elim (λ low. absurd (omega arith)) (λ held. absurd (none-some i held))

-- where a seat's view changes, a seat that has a slot is that one with its new view, or another
pub holds_set : (views : List View) (by : ℕ) (w : View) (i j : ℕ) → Holds (set views by w) j i → ((j ≡ by) × Has w i) ⊎ ((j ≢ by) × Holds views j i)
holds_set views by w i j h = ⊎_elim
    (λ (here : (j ≡ by) × (w ≡ h.0)). inl (here.0, subst (λ v. Has v i) (sym here.1) h.2))
    (λ (else : (j ≢ by) × (get_elem? views j ≡ some h.0)). inr (else.0, (h.0, else.1, h.2)))
    (at_set views by j w h.0 h.1)

pub holds_other : (views : List View) (by : ℕ) (w : View) (i j : ℕ) → j ≢ by → Holds views j i → Holds (set views by w) j i
holds_other views by w i j differ h = (h.0, set_else views by j w differ ∙ h.1, h.2)

-- a seat whose new view has the slot if its old one had
pub holds_still : (views : List View) (by : ℕ) (v w : View) (i : ℕ) → get_elem? views by ≡ some v → (Has v i → Has w i) → (j : ℕ) → Holds views j i
    → Holds (set views by w) j i
holds_still views by v w i there keeps j h = dite (ℕ_discrete j by)
    (λ same. (
      w,
      ap (λ k. get_elem? (set views by w) k) same
          ∙ set_known views by v w there,
      keeps (subst (λ u. Has u i) (same_place views j by h.0 v same h.1 there) h.2),
    ))
    (λ differ. holds_other views by w i j differ h)

pub held_before : (views : List View) (by : ℕ) (v w : View) (i : ℕ) → get_elem? views by ≡ some v → (Has w i → Has v i) → (j : ℕ) → Holds (set views by w) j i
    → Holds views j i
held_before views by v w i there back j h = ⊎_elim
    (λ (here : (j ≡ by) × Has w i). (v, ap (λ k. get_elem? views k) here.0 ∙ there, back here.1))
    (λ else. else.1)
    (holds_set views by w i j h)

-- a seat is added that has nothing
pub holds_more : (views : List View) (i j : ℕ) → Holds views j i → Holds (views ++ idle ∷ []) j i
holds_more views i j h = (h.0, at_longer views (idle ∷ []) j h.0 h.1, h.2)

pub held_without : (views : List View) (i j : ℕ) → Holds (views ++ idle ∷ []) j i → Holds views j i
held_without views i j h = ⊎_elim
    (λ was. (h.0, was, h.2))
    (λ (new : idle ≡ h.0). absurd (idle_has i (subst (λ v. Has v i) (sym new) h.2)))
    (at_snoc views idle h.0 j h.1)

-- what a seat has besides the slot that is out with it
pub other_held : (n i k : ℕ) → n ≤ k → k ≢ i → Has (holding n i) k → ⊥
other_held n i k above differ = ⊎_elim (λ low. absurd (omega arith)) (λ (held : Some i ≡ Some k). absurd (differ (sym (same_Some i k held))))

pub none_held : (n i : ℕ) → n ≤ i → Has (filling n) i → ⊥
none_held n i above = ⊎_elim (λ low. absurd (omega arith)) (λ (held : None ≡ Some i). absurd (none-some i held))

pub nothing_below : (i k : ℕ) (v : View) → holding 0 i ≡ v → k < v.below → ⊥
nothing_below i k v is low = let none : k < 0 = subst (λ u. k < u.below) (sym is) low in absurd (omega arith)

pub others_stay : (n i k : ℕ) → k ≢ i → Has (holding n i) k → Has (filling n) k
others_stay n i k differ = ⊎_elim (λ low. inl low) (λ (held : Some i ≡ Some k). absurd (differ (sym (same_Some i k held))))

pub others_come : (n i k : ℕ) → Has (filling n) k → Has (holding n i) k
others_come n i k = ⊎_elim (λ low. inl low) (λ (held : None ≡ Some k). absurd (none-some k held))

pub last_drawn : (i k : ℕ) → Has (filling (i + 1)) k → Has (holding i i) k
last_drawn i k = ⊎_elim
    (λ (low : k < i + 1). dite (ℕ_discrete k i) (λ same. inr (ap Some (sym same))) (λ differ. inl (omega arith)))
    (λ (held : None ≡ Some k). absurd (none-some k held))

pub last_back : (i k : ℕ) → Has (holding i i) k → Has (filling (i + 1)) k
last_back i k = ⊎_elim (λ (low : k < i). inl (omega arith)) (λ (held : Some i ≡ Some k). inl (let same = same_Some i k held in omega arith))
