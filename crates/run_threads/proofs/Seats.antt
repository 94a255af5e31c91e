-- The seats of the board, where a word changes, a seat's view changes, or a seat is added.
use Rattle.std.proofs.Common.{◌≡◌, ◌≢◌, ◌⊎◌, ⊎_elim, inl, inr, ℕ, zero, suc, ◌+◌, ◌-◌, ◌<◌, ◌≤◌, List, [], ◌∷◌, ◌++◌, length, set, refl, sym, ap, ◌∙◌, subst, arith, length-set, get_or-set_same, get_or-set_other}
use Rattle.std.specs.Prelude.{slice_index}
use mathlib.Core.Option.{some, some-ne-none, some-injective}
use lib.ListN.{get_elem?}
use Rattle.atomic_table.proofs.Lists.{at_set}
use Rattle.pblk_model.proofs.Lists.{all_imply}
use Rattle.run_threads.specs.Views.{View}
use Rattle.run_threads.specs.Rule.{MayPost, IsPosted, IsSeat}
use Rattle.run_threads.specs.Steps.{heard, posted, rest_of, share_of}

-- Words.

-- a word that was 0 changes, which the seat may not post
pub seat_stays : (words : List ℕ) (word n : ℕ) (v : View) → slice_index words word ≡ 0 → (MayPost v word → ⊥) → IsSeat words v → IsSeat (set words word n) v
seat_stays words word n v empty not h = record {
  within = let same = length-set words word n in let w = h.within in omega arith;
  blank = λ k may. get_or-set_other words word k n 0 (λ same. not (subst (MayPost v) same may)) ∙ h.blank k may;
  known = all_imply (IsPosted words) (IsPosted (set words word n))
      (λ x is. get_or-set_other words word x.0 n 0
      (λ same. absurd (let at : slice_index words x.0 ≡ 0 = ap (slice_index words) same ∙ empty in omega (arith, at, is)))
      ∙ is) v.known h.known;
}

-- a seat posts its next word
pub seat_posts : (words : List ℕ) (n : ℕ) (v : View) → v.next < v.past → 0 < n → IsSeat words v → IsSeat (set words v.next n) (posted v n)
seat_posts words n v may positive h =
    let here : slice_index (set words v.next n) v.next ≡ n = get_or-set_same words v.next n 0 (let w = h.within in omega arith) in
    let less : View = record { next = v.next + 1; past = v.past; known = v.known } in
    let was : IsSeat words less = record { within = h.within; blank = λ k m. h.blank k (omega (arith, m.0), m.1); known = h.known } in
    let rest = seat_stays words v.next n less (h.blank v.next (omega arith, may)) (λ m. omega (arith, m.0)) was in
    record {
      within = rest.within;
      blank = rest.blank;
      known = (here ∙ (let e : n ≡ n - 1 + 1 = omega arith in e), rest.known);
    }

-- a seat finds what a word has
pub seat_hears : (words : List ℕ) (word n : ℕ) (v : View) → slice_index words word ≡ n → IsSeat words v → IsSeat words (heard v word n)
seat_hears words word zero v is h = h
seat_hears words word (suc p) v is h = record {
  within = h.within;
  blank = h.blank;
  known = (is ∙ (let e : suc p ≡ p + 1 = omega arith in e), h.known);
}

-- Views.

-- a view where one of them has changed
pub changed : (views : List View) (by : ℕ) (w : View) (seat : ℕ) (u : View) → get_elem? (set views by w) seat ≡ some u
    → ((seat ≡ by) × (w ≡ u)) ⊎ ((seat ≢ by) × (get_elem? views seat ≡ some u))
changed views by w seat u there = at_set views by seat w u there

-- a view where one is added
pub added : (views : List View) (w : View) (seat : ℕ) (u : View) → get_elem? (views ++ w ∷ []) seat ≡ some u
    → (get_elem? views seat ≡ some u) ⊎ ((seat ≡ length views) × (w ≡ u))
added [] w zero u there = inr (refl, some-injective w u there)
added [] w (suc seat) u there = absurd (some-ne-none u (sym there))
added (v ∷ views) w zero u there = inl there
added (v ∷ views) w (suc seat) u there = ⊎_elim (λ was. inl was) (λ new. inr (ap suc new.0, new.1)) (added views w seat u there)

abbrev pub Each : (View → Type 0) → List View → Type 0
Each P views = (seat : ℕ) (u : View) → get_elem? views seat ≡ some u → P u

pub each_changed : (P : View → Type 0) (views : List View) (by : ℕ) (w : View) → Each P views → P w → Each P (set views by w)
each_changed P views by w old new seat u there =
    ⊎_elim (λ (here : (seat ≡ by) × (w ≡ u)). subst P here.1 new) (λ else. old seat u else.1) (changed views by w seat u there)

pub each_added : (P : View → Type 0) (views : List View) (w : View) → Each P views → P w → Each P (views ++ w ∷ [])
each_added P views w old new seat u there =
    ⊎_elim (λ was. old seat u was) (λ (last : (seat ≡ length views) × (w ≡ u)). subst P last.1 new) (added views w seat u there)

-- Who may post.

abbrev pub AreAlone : List View → Type 0
AreAlone views = (seat other word : ℕ) (v u : View) → get_elem? views seat ≡ some v → get_elem? views other ≡ some u → MayPost v word → MayPost u word
    → seat ≡ other

-- where a seat may post less than before, whoever may post a word might before
poster : (views : List View) (by : ℕ) (v w : View) → get_elem? views by ≡ some v → ((word : ℕ) → MayPost w word → MayPost v word) → (seat word : ℕ) (u : View)
    → get_elem? (set views by w) seat ≡ some u → MayPost u word → (x : View) × (get_elem? views seat ≡ some x) × MayPost x word
poster views by v w here less seat word u there may =
    ⊎_elim
    (λ (at : (seat ≡ by) × (w ≡ u)). (v, ap (get_elem? views) at.0 ∙ here, less word (subst (λ x. MayPost x word) (sym at.1) may)))
    (λ else. (u, else.1, may))
    (changed views by w seat u there)

pub alone_less : (views : List View) (by : ℕ) (v w : View) → get_elem? views by ≡ some v → ((word : ℕ) → MayPost w word → MayPost v word) → AreAlone views
    → AreAlone (set views by w)
alone_less views by v w here less alone seat other word x y hx hy px py =
    let a = poster views by v w here less seat word x hx px in
    let b = poster views by v w here less other word y hy py in
    alone seat other word a.0 b.0 a.1 b.1 a.2 b.2

-- a new seat takes the first of a seat's words, and no other seat has one of these
apart : (views : List View) (by past : ℕ) (v : View) → get_elem? views by ≡ some v → v.next ≤ past → past ≤ v.past → AreAlone views → (seat word : ℕ) (u : View)
    → get_elem? (set views by (rest_of past v)) seat ≡ some u → MayPost u word → MayPost (share_of past v) word → ⊥
apart views by past v here low high alone seat word u there may share =
    let a = poster views by v (rest_of past v) here (λ k m. (omega (arith, m.0), m.1)) seat word u there may in
    let same : seat ≡ by = alone seat by word a.0 v a.1 here a.2 (share.0, omega (arith, share.1)) in
    ⊎_elim
    (λ (at : (seat ≡ by) × (rest_of past v ≡ u)). let m = subst (λ x. MayPost x word) (sym at.1) may in omega (arith, m.0, share.1))
    (λ else. else.0 same)
    (changed views by (rest_of past v) seat u there)

pub alone_split : (views : List View) (by past : ℕ) (v : View) → get_elem? views by ≡ some v → v.next ≤ past → past ≤ v.past → AreAlone views
    → AreAlone (set views by (rest_of past v) ++ share_of past v ∷ [])
alone_split views by past v here low high alone seat other word x y hx hy px py =
    let left = set views by (rest_of past v) in
    let right = share_of past v in
    let rest = alone_less views by v (rest_of past v) here (λ k m. (omega (arith, m.0), m.1)) alone in
    ⊎_elim
    (λ was. ⊎_elim
    (λ was'. rest seat other word x y was was' px py)
    (λ (new : (other ≡ length left) × (right ≡ y)).
    absurd (apart views by past v here low high alone seat word x was px (subst (λ u. MayPost u word) (sym new.1) py)))
    (added left right other y hy))
    (λ (new : (seat ≡ length left) × (right ≡ x)). ⊎_elim
    (λ was'. absurd (apart views by past v here low high alone other word y was' py (subst (λ u. MayPost u word) (sym new.1) px)))
    (λ (new' : (other ≡ length left) × (right ≡ y)). new.0 ∙ sym new'.0)
    (added left right other y hy))
    (added left right seat x hx)
