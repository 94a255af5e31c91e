-- Each step keeps what the locks keep.
use Rattle.std.proofs.Common.{◌≡◌, ◌≢◌, ◌⊎◌, ℕ, ◌+◌, ◌<◌, ◌≤◌, [], ◌∷◌, ◌++◌, refl, sym, ◌∙◌, subst, ⊎_elim, inl, inr, arith, length-set}
use Rattle.std.specs.Prelude.{slice_index, Option, Some, None}
use mathlib.Core.Option.{some, none}
use mathlib.Core.Logic.{dite}
use native.Mathlib.Decide.{ℕ_discrete}
use lib.ListN.{get_elem?}
use Rattle.atomic_table.specs.Table.{State, takes, gives, keeps, stepped}
use Rattle.atomic_table.proofs.Lists.{at_set, at_snoc, set_here, set_else}
use Rattle.numbered_locks.specs.declared.view.View.{View}
use Rattle.numbered_locks.specs.Steps.{idle, filling, holding, word_at}
use Rattle.numbered_locks.specs.Kept.{Has, Holds, IsFree, IsHeld, Kept}
use Rattle.numbered_locks.proofs.Lists.{word_here, word_else, set_known, idle_has, holds_set, holds_still, held_before, holds_more, held_without, other_held, none_held, nothing_below, others_stay, others_come, last_drawn, last_back}

module _ {T : Type 0} (fits : ℕ → T → Type 0) where
  -- a slot whose word, whose home and whose seats are as before
  stays : (s t : State (Option T) View) (i : ℕ) → slice_index t.words (word_at i) ≡ slice_index s.words (word_at i)
      → get_elem? t.homes i ≡ get_elem? s.homes i → ((j : ℕ) → Holds s.views j i → Holds t.views j i) → ((j : ℕ) → Holds t.views j i → Holds s.views j i)
      → IsFree fits s i ⊎ IsHeld fits s i → IsFree fits t i ⊎ IsHeld fits t i
  stays s t i word home to back = ⊎_elim
      (λ (f : IsFree fits s i). inl (record { word = word ∙ f.word; value = (f.value.0, home ∙ f.value.1, f.value.2); alone = λ j h. f.alone j (back j h) }))
      (λ (h : IsHeld fits s i). inr (record {
        word = λ e. h.word (sym word ∙ e);
        holder = h.holder;
        holds = to h.holder h.holds;
        alone = λ j k. h.alone j (back j k);
      }))

  -- a slot that a seat has is held, and by no other
  held_by : (s : State (Option T) View) (i by : ℕ) → Holds s.views by i → IsFree fits s i ⊎ IsHeld fits s i → IsHeld fits s i
  held_by s i by has = ⊎_elim (λ (f : IsFree fits s i). absurd (f.alone by has)) (λ (h : IsHeld fits s i). h)

  only : (s : State (Option T) View) (i by j : ℕ) → Holds s.views by i → Holds s.views j i → IsHeld fits s i → j ≡ by
  only s i by j mine its h = h.alone j its ∙ sym (h.alone by mine)

  module _ (size : ℕ) where
    -- a new seat has nothing
    pub entered : (s : State (Option T) View) → Kept fits size s → Kept fits size (record { words = s.words; homes = s.homes; views = s.views ++ idle ∷ [] })
    entered s h =
        let t : State (Option T) View = record { words = s.words; homes = s.homes; views = s.views ++ idle ∷ [] } in
        record {
          words = h.words;
          slots = h.slots;
          each = λ i low. stays s t i refl refl (λ j k. holds_more s.views i j k) (λ j k. held_without s.views i j k) (h.each i low);
          blank = λ j i v there low. ⊎_elim (λ was. h.blank j i v was low)
              (λ (new : idle ≡ v). absurd (idle_has i (inl (subst (λ u. i < u.below) (sym new) low))))
              (at_snoc s.views idle v j there);
        }

    -- a seat that has nothing takes the value of a free slot
    pub taken : (s : State (Option T) View) (i by m : ℕ) → Kept fits size s → i < size → get_elem? s.views by ≡ some idle → slice_index s.words (word_at i) ≡ 0
        → m ≢ 0
        → (x : T) × (get_elem? s.homes i ≡ some (some (Some x))) × fits i x × Kept fits size (stepped s (word_at i) m by [] (holding 0 i) (takes i (Some x)))
    taken s i by m h low there free busy = ⊎_elim
        (λ (f : IsFree fits s i).
        let x = f.value.0 in
        let t = stepped s (word_at i) m by [] (holding 0 i) (takes i (Some x)) in (
          x,
          f.value.1,
          f.value.2,
          record {
            words = length-set s.words (word_at i) m ∙ h.words;
            slots = length-set s.homes i none ∙ h.slots;
            each = λ k below. dite (ℕ_discrete k i)
                (λ same. subst (λ k. IsFree fits t k ⊎ IsHeld fits t k) (sym same) (inr (record {
                  word = λ e. busy (sym (word_here s.words size i m h.words low) ∙ e);
                  holder = by;
                  holds = (holding 0 i, set_known s.views by idle (holding 0 i) there, inr refl);
                  alone = λ j has. ⊎_elim (λ (mine : (j ≡ by) × Has (holding 0 i) i). mine.0) (λ (its : (j ≢ by) × Holds s.views j i). absurd (f.alone j its.1))
                      (holds_set s.views by (holding 0 i) i j has);
                })))
                (λ differ. stays s t k (word_else s.words i k m differ) (set_else s.homes i k none differ)
                (holds_still s.views by idle (holding 0 i) k there (λ has. absurd (idle_has k has)))
                (held_before s.views by idle (holding 0 i) k there (λ has. absurd (other_held 0 i k (omega arith) differ has)))
                (h.each k below));
            blank = λ j k v at below. ⊎_elim
                (λ (here : (j ≡ by) × (holding 0 i ≡ v)). absurd (nothing_below i k v here.1 below))
                (λ (else : (j ≢ by) × (get_elem? s.views j ≡ some v)).
                set_else s.homes i k none (λ same. f.alone j (v, else.1, inl (subst (λ k. k < v.below) same below))) ∙ h.blank j k v else.1 below)
                (at_set s.views by j (holding 0 i) v at);
          },
        ))
        (λ (is : IsHeld fits s i). absurd (is.word free))
        (h.each i low)

    -- a seat that has nothing finds a held slot, whose word stays another than 0
    pub missed : (s : State (Option T) View) (i by m : ℕ) → Kept fits size s → i < size → get_elem? s.views by ≡ some idle → slice_index s.words (word_at i) ≢ 0
        → m ≢ 0
        → Kept fits size (stepped s (word_at i) m by [] idle keeps)
    missed s i by m h low there was busy =
        let t = stepped s (word_at i) m by [] idle keeps in
        let to = λ (k : ℕ). holds_still s.views by idle idle k there (λ has. has) in
        let back = λ (k : ℕ). held_before s.views by idle idle k there (λ has. has) in
        record {
          words = length-set s.words (word_at i) m ∙ h.words;
          slots = h.slots;
          each = λ k below. dite (ℕ_discrete k i)
              (λ same. subst (λ k. IsFree fits t k ⊎ IsHeld fits t k) (sym same) (⊎_elim
              (λ (f : IsFree fits s i). absurd (was f.word))
              (λ (is : IsHeld fits s i). inr (record {
                word = λ e. busy (sym (word_here s.words size i m h.words low) ∙ e);
                holder = is.holder;
                holds = to i is.holder is.holds;
                alone = λ j has. is.alone j (back i j has);
              }))
              (h.each i low)))
              (λ differ. stays s t k (word_else s.words i k m differ) refl (to k) (back k) (h.each k below));
          blank = λ j k v at below. ⊎_elim
              (λ (here : (j ≡ by) × (idle ≡ v)). absurd (idle_has k (inl (subst (λ u. k < u.below) (sym here.1) below))))
              (λ (else : (j ≢ by) × (get_elem? s.views j ≡ some v)). h.blank j k v else.1 below)
              (at_set s.views by j idle v at);
        }

    -- a seat gives its slot back with a value that fits
    pub given : (s : State (Option T) View) (i n by : ℕ) (x : T) → Kept fits size s → i < size → n ≤ i → get_elem? s.views by ≡ some (holding n i) → fits i x
        → Kept fits size (stepped s (word_at i) 0 by ((i, Some x) ∷ []) (filling n) gives)
    given s i n by x h low under there fit =
        let t = stepped s (word_at i) 0 by ((i, Some x) ∷ []) (filling n) gives in
        let mine : Holds s.views by i = (holding n i, there, inr refl) in
        let is = held_by s i by mine (h.each i low) in
        record {
          words = length-set s.words (word_at i) 0 ∙ h.words;
          slots = length-set s.homes i (some (Some x)) ∙ h.slots;
          each = λ k below. dite (ℕ_discrete k i)
              (λ same. subst (λ k. IsFree fits t k ⊎ IsHeld fits t k) (sym same) (inl (record {
                word = word_here s.words size i 0 h.words low;
                value = (x, set_here s.homes i (some (Some x)) (omega (arith, h.slots)), fit);
                alone = λ j has. ⊎_elim (λ (here : (j ≡ by) × Has (filling n) i). absurd (none_held n i (omega arith) here.1))
                    (λ (its : (j ≢ by) × Holds s.views j i). absurd (its.0 (only s i by j mine its.1 is)))
                    (holds_set s.views by (filling n) i j has);
              })))
              (λ differ. stays s t k (word_else s.words i k 0 differ) (set_else s.homes i k (some (Some x)) differ)
              (holds_still s.views by (holding n i) (filling n) k there (λ has. others_stay n i k differ has))
              (held_before s.views by (holding n i) (filling n) k there (λ has. others_come n i k has))
              (h.each k below));
          blank = λ j k v at below. ⊎_elim
              (λ (here : (j ≡ by) × (filling n ≡ v)).
              let lower : k < n = subst (λ u. k < u.below) (sym here.1) below in
              set_else s.homes i k (some (Some x)) (λ same. omega arith) ∙ h.blank by k (holding n i) there lower)
              (λ (else : (j ≢ by) × (get_elem? s.views j ≡ some v)).
              set_else s.homes i k (some (Some x)) (λ same. else.0 (only s i by j mine (v, else.1, inl (subst (λ k. k < v.below) same below)) is))
              ∙ h.blank j k v else.1 below)
              (at_set s.views by j (filling n) v at);
        }

    -- the seat that has all slots below a number takes the last of them, in which nothing lies
    pub drawn : (s : State (Option T) View) (i by : ℕ) → Kept fits size s → i < size → get_elem? s.views by ≡ some (filling (i + 1))
        → (get_elem? s.homes i ≡ some (some None))
        × Kept fits size (stepped s (word_at i) (slice_index s.words (word_at i)) by [] (holding i i) (takes i None))
    drawn s i by h low there =
        let n = slice_index s.words (word_at i) in
        let t = stepped s (word_at i) n by [] (holding i i) (takes i None) in
        let mine : Holds s.views by i = (filling (i + 1), there, inl (omega arith)) in
        let is = held_by s i by mine (h.each i low) in
        let to = λ (k : ℕ). holds_still s.views by (filling (i + 1)) (holding i i) k there (λ has. last_drawn i k has) in
        let back = λ (k : ℕ). held_before s.views by (filling (i + 1)) (holding i i) k there (λ has. last_back i k has) in (
          h.blank by i (filling (i + 1)) there (omega arith),
          record {
            words = length-set s.words (word_at i) n ∙ h.words;
            slots = length-set s.homes i none ∙ h.slots;
            each = λ k below. dite (ℕ_discrete k i)
                (λ same. subst (λ k. IsFree fits t k ⊎ IsHeld fits t k) (sym same) (inr (record {
                  word = λ e. is.word (sym (word_here s.words size i n h.words low) ∙ e);
                  holder = is.holder;
                  holds = to i is.holder is.holds;
                  alone = λ j has. is.alone j (back i j has);
                })))
                (λ differ. stays s t k (word_else s.words i k n differ) (set_else s.homes i k none differ) (to k) (back k) (h.each k below));
            blank = λ j k v at below. ⊎_elim
                (λ (here : (j ≡ by) × (holding i i ≡ v)).
                let lower : k < i = subst (λ u. k < u.below) (sym here.1) below in
                set_else s.homes i k none (λ same. omega arith) ∙ h.blank by k (filling (i + 1)) there (omega arith))
                (λ (else : (j ≢ by) × (get_elem? s.views j ≡ some v)).
                set_else s.homes i k none (λ same. else.0 (only s i by j mine (v, else.1, inl (subst (λ k. k < v.below) same below)) is))
                ∙ h.blank j k v else.1 below)
                (at_set s.views by j (holding i i) v at);
          },
        )
