-- Each step keeps the rule of the board.
use Rattle.std.proofs.Common.{◌≡◌, ◌≢◌, ⊎_elim, ℕ, zero, suc, ◌+◌, ◌-◌, ◌^◌, ◌<◌, ◌≤◌, List, [], length, replicate, set, refl, sym, ap, ◌∙◌, subst, arith, length-set, get_or-set_same, get_or-set_other}
use Rattle.std.specs.Prelude.{slice_index}
use Rattle.std.specs.List.{AllByRecursion}
use Rattle.std.proofs.lemmas.Bool.{cases_eq, cases_lt}
use Rattle.std.proofs.lemmas.List.{get_or_past, length-replicate, set-get_or}
use mathlib.Core.Option.{some}
use lib.ListN.{get_elem?}
use Rattle.atomic_table.specs.Table.{State, Allows, Splits, Joins, keeps, opening}
use Rattle.pblk_model.proofs.Lists.{all_append, all_imply, replicated}
use Rattle.pblk_model.proofs.Parts.{only_one}
use Rattle.run_threads.specs.Views.{View}
use Rattle.run_threads.specs.Rule.{MayPost, IsPosted, IsSeat, IsKept, AreTold, IsConsistent}
use Rattle.run_threads.specs.Steps.{heard, joined, posted, rest_of, share_of, spent, starting}
use Rattle.run_threads.proofs.Seats.{alone_less, alone_split, changed, each_added, each_changed, seat_hears, seat_posts, seat_stays}

-- The start.

pub opens : (count : ℕ) → IsKept (opening (replicate (count + 1) 0) [] (starting count))
opens count =
    let first : IsSeat (replicate (count + 1) 0) (starting count) = record {
      within = let long : length (replicate (count + 1) 0) ≡ count + 1 = length-replicate {A = ℕ} (count + 1) 0 in omega (arith, long);
      blank = λ word may. replicated (count + 1) word 0;
      known = tt;
    } in
    record {
      small = λ word. let none : slice_index (replicate (count + 1) 0) word ≡ 0 = replicated (count + 1) word 0 in omega (arith, none);
      seats = λ seat v there. subst (IsSeat (replicate (count + 1) 0)) (only_one (starting count) seat v there).1 first;
      alone = λ seat other word v u hv hu _ _. (only_one (starting count) seat v hv).0 ∙ sym (only_one (starting count) other u hu).0;
    }

-- A word is loaded.

after_load : (s : State (Unit {0}) View) (word by : ℕ) (v w : View) → IsKept s → get_elem? s.views by ≡ some v → ((k : ℕ) → MayPost w k → MayPost v k)
    → IsSeat s.words w
    → IsKept (record { words = set s.words word (slice_index s.words word); homes = s.homes; views = set s.views by w })
after_load s word by v w h here less new =
    subst (λ words. IsKept (record { words = words; homes = s.homes; views = set s.views by w })) (sym (set-get_or s.words word 0))
    (record {
      small = h.small;
      seats = each_changed (IsSeat s.words) s.views by w h.seats new;
      alone = alone_less s.views by v w here less h.alone;
    })

may_heard : (v : View) (word n k : ℕ) → MayPost (heard v word n) k → MayPost v k
may_heard v word zero k may = may
may_heard v word (suc n) k may = may

pub hears : (by : ℕ) (v : View) (c : List (ℕ × Unit {0})) (slots word : ℕ)
    → Allows IsKept slots by (v, c) word (λ n. n) (λ n m. (m ≡ (heard v word n, c)) × (n ≤ 2 ^ 63))
hears by v c slots word s h long here small = (
  heard v word (slice_index s.words word),
  keeps,
  tt,
  after_load s word by v (heard v word (slice_index s.words word)) h here (may_heard v word (slice_index s.words word))
      (seat_hears s.words word (slice_index s.words word) v refl (h.seats by v here)),
  (refl, h.small word),
)

-- what a word says
abbrev said : List ℕ → ℕ → ℕ
said words word = slice_index words word - 1

fits_together : (words : List ℕ) (known : List (ℕ × ℕ)) → AllByRecursion (IsPosted words) known → AreTold (said words) known
fits_together words known h = all_imply (IsPosted words) (λ x. said words x.0 ≡ x.1) (λ x is. omega (arith, is)) known h

pub looks : (by : ℕ) (v : View) (c : List (ℕ × Unit {0})) (slots word : ℕ)
    → Allows IsKept slots by (v, c) word (λ n. n) (λ n m. (m ≡ (v, c)) × IsConsistent v.known)
looks by v c slots word s h long here small =
    let mine = h.seats by v here in
    (v, keeps, tt, after_load s word by v v h here (λ k may. may) mine, (refl, (said s.words, fits_together s.words v.known mine.known)))

-- A word is posted.

small_after : (words : List ℕ) (word n k : ℕ) → n ≤ 2 ^ 63 → ((i : ℕ) → slice_index words i ≤ 2 ^ 63) → slice_index (set words word n) k ≤ 2 ^ 63
small_after words word n k small all =
    ⊎_elim
    (λ (same : k ≡ word). ⊎_elim
    (λ (below : word < length words). let at : slice_index (set words word n) k ≡ n =
    ap (slice_index (set words word n)) same ∙ get_or-set_same words word n 0 below in
    omega (arith, at))
    (λ (past : length words ≤ word). let at : slice_index (set words word n) k ≡ 0 =
    get_or_past (set words word n) k 0 (omega (arith, length-set words word n)) in
    omega (arith, at))
    (cases_lt word (length words)))
    (λ (other : k ≢ word). let at = get_or-set_other words word k n 0 other in let was = all k in omega (arith, at, was))
    (cases_eq k word)

pub posts : (by : ℕ) (v : View) (c : List (ℕ × Unit {0})) (slots n : ℕ) → v.next < v.past → 0 < n → n ≤ 2 ^ 63
    → Allows IsKept slots by (v, c) v.next (λ _. n) (λ _ m. m ≡ (posted v n, c))
posts by v c slots n may positive few s h long here small =
    let mine = h.seats by v here in
    let empty = mine.blank v.next (omega arith, may) in (
      posted v n,
      keeps,
      tt,
      record {
        small = λ k. small_after s.words v.next n k few h.small;
        seats = λ seat u there.
            ⊎_elim
            (λ (at : (seat ≡ by) × (posted v n ≡ u)). subst (IsSeat (set s.words v.next n)) at.1 (seat_posts s.words n v may positive mine))
            (λ (else : (seat ≢ by) × (get_elem? s.views seat ≡ some u)).
            seat_stays s.words v.next n u empty (λ its. else.0 (h.alone seat by v.next u v else.1 here its (omega arith, may))) (h.seats seat u else.1))
            (changed s.views by (posted v n) seat u there);
        alone = alone_less s.views by v (posted v n) here (λ k m. (omega (arith, m.0), m.1)) h.alone;
      },
      refl,
    )

-- Seats are split and joined.

pub deals : (by past : ℕ) (v : View) → v.next ≤ past → past ≤ v.past → Splits IsKept by v (rest_of past v) (share_of past v)
deals by past v low high s h here =
    let mine = h.seats by v here in
    let left : IsSeat s.words (rest_of past v) = record {
      within = mine.within;
      blank = λ k m. mine.blank k (omega (arith, m.0), m.1);
      known = mine.known;
    } in
    let right : IsSeat s.words (share_of past v) = record {
      within = let w = mine.within in omega arith;
      blank = λ k m. mine.blank k (m.0, omega (arith, m.1));
      known = tt;
    } in
    record {
      small = h.small;
      seats = each_added (IsSeat s.words) (set s.views by (rest_of past v)) (share_of past v)
          (each_changed (IsSeat s.words) s.views by (rest_of past v) h.seats left) right;
      alone = alone_split s.views by past v here low high h.alone;
    }

pub meets : (by : ℕ) (v : View) (other : ℕ) (w : View) → Joins IsKept by v other w (joined v w) spent
meets by v other w s h here apart there =
    let mine = h.seats by v here in
    let its : IsSeat s.words w =
    ⊎_elim (λ (t : (other ≡ by) × (joined v w ≡ w)). absurd (apart t.0))
    (λ (t : (other ≢ by) × (get_elem? s.views other ≡ some w)). h.seats other w t.1) (changed s.views by (joined v w) other w there) in
    let both : IsSeat s.words (joined v w) = record {
      within = mine.within;
      blank = mine.blank;
      known = all_append (IsPosted s.words) v.known w.known mine.known its.known;
    } in
    let none : IsSeat s.words spent = record { within = omega arith; blank = λ k m. absurd (omega (arith, m.1)); known = tt } in
    record {
      small = h.small;
      seats = each_changed (IsSeat s.words) (set s.views by (joined v w)) other spent
          (each_changed (IsSeat s.words) s.views by (joined v w) h.seats both) none;
      alone = alone_less (set s.views by (joined v w)) other w spent there (λ k m. absurd (omega (arith, m.1)))
          (alone_less s.views by v (joined v w) here (λ k m. m) h.alone);
    }
