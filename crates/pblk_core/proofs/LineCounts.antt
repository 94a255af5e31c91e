-- How many stripes of a line are still to land or to be lost: what placing, landing and losing one
-- make of that.
use Rattle.std.proofs.Common.{◌≡◌, ◌≢◌, ◌⊎◌, inl, inr, ℕ, ◌+◌, ◌-◌, ◌*◌, ◌/◌, ◌%◌, ◌<◌, ◌≤◌, ◌==◌, ◌&&◌, ◌||◌, zero, suc, not, nat_eq, nat_lt, Bool, true, false, cond, Some, Option, List, [], ◌∷◌, length, replicate, refl, sym, ap, ap₂, ◌∙◌, arith, le_refl, mod-lt, div-add-mod'}
use Rattle.std.specs.Prelude.{slice_get}
use Rattle.std.specs.List.{filter, list_any, range_with_len}
use Rattle.std.specs.Option.{option_map_or}
use Rattle.std.proofs.lemmas.Bool.{cases_order, eqb-true, eqb-false}
use Rattle.std.proofs.lemmas.Nat.{mod-mul-add}
use Rattle.std.proofs.Math.Nat.{lt_of_mul-lt-mul_right}
use Rattle.std.proofs.lemmas.Option.{same_Some, slice_get_within}
use Rattle.stripe_placer.specs.OpenLines.{Stripe, OpenLine, numbers, is_lost, is_unplaced, is_unanswered, stripe_is, is_closed, is_to_place, in_one_chunk, has_left, width, with_stripe}
use Rattle.stripe_placer.specs.OpenLines.Stripe.{Unplaced, Unanswered, Landed as HasLanded, Lost as WasIt}
use Rattle.core_laws.proofs.ChangedTables.{range_below}
use Rattle.core_laws.proofs.HistorySectors.{set_length}
use Rattle.core_laws.proofs.Opening.{replicated_gets}
use Rattle.std.proofs.lemmas.List.FromFn.{length-range_with_len}
use Rattle.core_laws.proofs.TakenSlots.{any_same}
use Rattle.pblk_model.proofs.Lists.{IsAmong, all_imply, length_replicate}
use Rattle.pblk_model.proofs.Maps.{filter_agree, filter_all, none_any, range_get}
use Rattle.pblk_model.proofs.Parts.{got_else, got_here}
use Rattle.pblk_model.proofs.Tests.{and_both, either_false, lt_true, not_before, or_left, or_right, or_true, other_number, same_number}
use Rattle.core_laws.proofs.LandedLines.{any_numbered}
use Rattle.core_laws.proofs.NewlyHeld.{none_counted}
use Rattle.pblk_core.specs.Stands.{is_left, stripes_left}
use Rattle.pblk_core.proofs.CountedRanges.{fewer_pass}

-- ---- none is left

any_either : {X : Type 0} (f g : X → Bool) (xs : List X) → (list_any f xs || list_any g xs) ≡ list_any (λ x. f x || g x) xs
any_either f g [] = refl
any_either {X} f g (x ∷ xs) = turned (f x) (g x) (list_any f xs) (list_any g xs) ∙ ap (λ b. (f x || g x) || b) (any_either f g xs)
  where
    turned : (a b c d : Bool) → ((a || c) || (b || d)) ≡ ((a || b) || (c || d))
    turned true b c d = refl
    turned false true c d = or_true c
    turned false false c d = refl

some_passing : {X : Type 0} (f : X → Bool) (xs : List X) → 0 < length (filter f xs) → list_any f xs ≡ true
some_passing f [] e = absurd (omega arith)
some_passing {X} f (x ∷ xs) e = go (f x) e (some_passing f xs)
  where
    go : (b : Bool) → 0 < length (cond b (x ∷ filter f xs) (filter f xs)) → (0 < length (filter f xs) → list_any f xs ≡ true) → (b || list_any f xs) ≡ true
    go true e rest = refl
    go false e rest = rest e

left_is : (l : OpenLine) → has_left l ≡ list_any (is_left l) (numbers l)
left_is l =
    ap (λ b. list_any (is_to_place l) (numbers l) || b) (sym (any_numbered is_unanswered l.stripes))
    ∙ any_either (is_to_place l) (stripe_is l is_unanswered) (numbers l)

pub none_left : (l : OpenLine) → stripes_left l ≡ 0 → has_left l ≡ false
none_left l none = left_is l ∙ none_counted (is_left l) (numbers l) none

pub some_left : (l : OpenLine) → 0 < stripes_left l → has_left l ≡ true
some_left l some = left_is l ∙ some_passing (is_left l) (numbers l) some

-- ---- a line of which no stripe is placed

replicated_there : {X : Type 0} (n j : ℕ) (x : X) (test : X → Bool) → j < n → test x ≡ true → option_map_or test (slice_get (replicate n x) j) false ≡ true
replicated_there zero j x test inside e = absurd (omega arith)
replicated_there (suc n) zero x test inside e = e
replicated_there (suc n) (suc j) x test inside e = replicated_there n j x test (omega arith) e

pub left_opened : (l : OpenLine) (n : ℕ) → l.stripes ≡ replicate n Unplaced → stripes_left l ≡ n
left_opened l n e =
    ap length (filter_all (is_left l) (range_with_len 0 (length l.stripes))
    (all_imply (λ j. j < 0 + length l.stripes) (λ j. is_left l j ≡ true) each (range_with_len 0 (length l.stripes)) (range_below 0 (length l.stripes))))
    ∙ length-range_with_len 0 (length l.stripes) ∙ count
  where
    count : length l.stripes ≡ n
    count = ap (λ (xs : List Stripe). length xs) e ∙ length_replicate n Unplaced

    unclosed : (j : ℕ) → is_closed l j ≡ false
    unclosed j = none_any (λ k. stripe_is l is_lost k && in_one_chunk l k j) (λ k. ap (λ b. b && in_one_chunk l k j)
        (ap (λ (xs : List Stripe). option_map_or is_lost (slice_get xs k) false) e ∙ replicated_gets n k Unplaced is_lost refl)) (numbers l)

    each : (j : ℕ) → j < 0 + length l.stripes → is_left l j ≡ true
    each j inside =
        let low : j < n = (let c = count in omega arith) in
        ap₂ (λ a b. (a && not b) || stripe_is l is_unanswered j)
        (ap (λ (xs : List Stripe). option_map_or is_unplaced (slice_get xs j) false) e ∙ replicated_there n j Unplaced is_unplaced low refl) (unclosed j)

-- ---- a stripe of which another thing became

module _ (l : OpenLine) (j : ℕ) (was to : Stripe) (there : slice_get l.stripes j ≡ Some was) where
  long : length (with_stripe l j to).stripes ≡ length l.stripes
  long = set_length l.stripes j to

  within : j < length l.stripes
  within = slice_get_within l.stripes j was there

  stripe_here : (test : Stripe → Bool) → stripe_is (with_stripe l j to) test j ≡ test to
  stripe_here test = ap (λ (x : Option Stripe). option_map_or test x false) (got_here l.stripes j was to there)

  stripe_else : (test : Stripe → Bool) (m : ℕ) → m ≢ j → stripe_is (with_stripe l j to) test m ≡ stripe_is l test m
  stripe_else test m apart = ap (λ (x : Option Stripe). option_map_or test x false) (got_else l.stripes j m to apart)

  stripe_was : (test : Stripe → Bool) → stripe_is l test j ≡ test was
  stripe_was test = ap (λ (x : Option Stripe). option_map_or test x false) there

  -- where neither was lost the same chunks are closed
  module _ (kept : is_lost was ≡ is_lost to) where
    lost_same : (m : ℕ) → stripe_is (with_stripe l j to) is_lost m ≡ stripe_is l is_lost m
    lost_same m = go (nat_eq m j) refl
      where
        go : (b : Bool) → nat_eq m j ≡ b → stripe_is (with_stripe l j to) is_lost m ≡ stripe_is l is_lost m
        go true e =
            let same : m ≡ j = eqb-true m j e in
            ap (stripe_is (with_stripe l j to) is_lost) same ∙ stripe_here is_lost ∙ sym kept ∙ sym (stripe_was is_lost) ∙ ap (stripe_is l is_lost) (sym same)
        go false e = stripe_else is_lost m (eqb-false m j e)

    pub closed_same : (m : ℕ) → is_closed (with_stripe l j to) m ≡ is_closed l m
    closed_same m =
        ap (λ n. list_any (λ x. stripe_is (with_stripe l j to) is_lost x && in_one_chunk (with_stripe l j to) x m) (range_with_len 0 n)) long
        ∙ any_same (λ x. stripe_is (with_stripe l j to) is_lost x && in_one_chunk (with_stripe l j to) x m)
        (λ x. stripe_is l is_lost x && in_one_chunk l x m) (λ x. ap (λ b. b && in_one_chunk l x m) (lost_same x)) (numbers l)

    left_else : (m : ℕ) → m ≢ j → is_left (with_stripe l j to) m ≡ is_left l m
    left_else m apart =
        ap₂ (λ a b. (a && not (is_closed (with_stripe l j to) m)) || b) (stripe_else is_unplaced m apart) (stripe_else is_unanswered m apart)
        ∙ ap (λ c. (stripe_is l is_unplaced m && not c) || stripe_is l is_unanswered m) (closed_same m)

-- ---- one that waits has landed

pub left_landed : (l : OpenLine) (j : ℕ) → slice_get l.stripes j ≡ Some Unanswered → stripes_left (with_stripe l j HasLanded) + 1 ≡ stripes_left l
left_landed l j there =
    let from : 0 + j ≡ j = omega arith in
    ap (λ n. length (filter (is_left (with_stripe l j HasLanded)) (range_with_len 0 n)) + 1) (long l j Unanswered HasLanded there)
    ∙ sym (fewer_pass (is_left l) (is_left (with_stripe l j HasLanded)) 0 (length l.stripes) j (within l j Unanswered HasLanded there)
    (ap (is_left l) from ∙ ap (λ b. is_to_place l j || b) (stripe_was l j Unanswered HasLanded there is_unanswered) ∙ or_true (is_to_place l j))
    (ap (is_left (with_stripe l j HasLanded)) from
    ∙ ap₂ (λ a b. (a && not (is_closed (with_stripe l j HasLanded) j)) || b) (stripe_here l j Unanswered HasLanded there is_unplaced)
    (stripe_here l j Unanswered HasLanded there is_unanswered))
    (λ m apart. left_else l j Unanswered HasLanded there refl m (λ e. apart (e ∙ sym from))))

-- ---- one is placed

pub left_placed : (l : OpenLine) (j : ℕ) → slice_get l.stripes j ≡ Some Unplaced → is_closed l j ≡ false
    → stripes_left (with_stripe l j Unanswered) ≡ stripes_left l
left_placed l j there unclosed =
    ap (λ n. length (filter (is_left (with_stripe l j Unanswered)) (range_with_len 0 n))) (long l j Unplaced Unanswered there)
    ∙ ap length (same (range_with_len 0 (length l.stripes)))
  where
    each : (m : ℕ) (b : Bool) → nat_eq m j ≡ b → is_left (with_stripe l j Unanswered) m ≡ is_left l m
    each m true e =
        let at : m ≡ j = eqb-true m j e in
        ap (is_left (with_stripe l j Unanswered)) at
        ∙ ap (λ b. is_to_place (with_stripe l j Unanswered) j || b) (stripe_here l j Unplaced Unanswered there is_unanswered)
        ∙ or_true (is_to_place (with_stripe l j Unanswered) j)
        ∙ sym (ap₂ (λ a c. (a && not c) || stripe_is l is_unanswered j) (stripe_was l j Unplaced Unanswered there is_unplaced) unclosed)
        ∙ ap (is_left l) (sym at)
    each m false e = left_else l j Unplaced Unanswered there refl m (eqb-false m j e)

    same : (ms : List ℕ) → filter (is_left (with_stripe l j Unanswered)) ms ≡ filter (is_left l) ms
    same [] = refl
    same (m ∷ ms) = ap₂ (λ b xs. cond b (m ∷ xs) xs) (each m (nat_eq m j) refl) (same ms)

-- ---- one that waits is lost

-- no number between two rows is in their chunk
same_column : (w j m r : ℕ) → 0 < w → m % w ≡ j % w → j + r * w ≤ m → m < j + suc r * w → m ≡ j + r * w
same_column w j m r some column low high =
    let a : m / w * w + m % w ≡ m = div-add-mod' m w in
    let b : j / w * w + j % w ≡ j = div-add-mod' j w in
    let sum : (j / w + r) * w ≡ j / w * w + r * w = omega arith in
    let next : suc (j / w + r) * w ≡ (j / w + r) * w + w = omega arith in
    let more : suc r * w ≡ r * w + w = omega arith in
    let below : m / w < suc (j / w + r) = lt_of_mul-lt-mul_right w (omega arith) in
    let above : j / w + r < suc (m / w) = lt_of_mul-lt-mul_right w (let s : suc (m / w) * w ≡ m / w * w + w = omega arith in omega arith) in
    let q : m / w ≡ j / w + r = omega arith in
    let p : m / w * w ≡ (j / w + r) * w = ap (λ n. n * w) q in
    omega arith

module _ (l : OpenLine) (j rows : ℕ) (there : slice_get l.stripes j ≡ Some Unanswered) (wide : 0 < width l)
    (all : length l.stripes ≡ width l * rows)
    (before : (m : ℕ) → m < length l.stripes → m % width l ≡ j % width l → m < j → is_left l m ≡ false)
    (after : (m : ℕ) → m < length l.stripes → m % width l ≡ j % width l → j < m → slice_get l.stripes m ≡ Some Unplaced)
    (unclosed : (m : ℕ) → m < length l.stripes → m % width l ≡ j % width l → is_closed l m ≡ false) where
  abbrev new : OpenLine
  new = with_stripe l j WasIt

  inside : j < length l.stripes
  inside = slice_get_within l.stripes j Unanswered there

  -- what is left but for the first stripes of the chunk from that one on
  less : ℕ → ℕ → Bool
  less r m = is_left l m && not ((m % width l == j % width l) && nat_lt m (j + r * width l))

  closed_there : (m : ℕ) → m % width l ≡ j % width l → is_closed (with_stripe l j WasIt) m ≡ true
  closed_there m column =
      let from : 0 + j ≡ j = omega arith in
      let long_is : length new.stripes ≡ length l.stripes = set_length l.stripes j WasIt in
      any_in (λ x. stripe_is new is_lost x && in_one_chunk new x m) (numbers new) j
      (j, range_get 0 (length new.stripes) j (omega (arith, long_is, inside)) ∙ ap (λ x. Some x) from)
      (and_both (stripe_is new is_lost j) (in_one_chunk new j m) (stripe_here l j Unanswered WasIt there is_lost)
      (ap (λ n. (j % width l) == n) column ∙ same_number (j % width l)))
    where
      any_in : (f : ℕ → Bool) (xs : List ℕ) (x : ℕ) → IsAmong xs x → f x ≡ true → list_any f xs ≡ true
      any_in f [] x at e = absurd cc
      any_in f (y ∷ ys) x (zero, at) e = or_left (f y) (list_any f ys) (ap f (same_Some y x at) ∙ e)
      any_in f (y ∷ ys) x (suc k, at) e = or_right (f y) (list_any f ys) (any_in f ys x (k, at) e)

  closed_elsewhere : (m : ℕ) → m % width l ≢ j % width l → is_closed (with_stripe l j WasIt) m ≡ is_closed l m
  closed_elsewhere m apart =
      ap (λ n. list_any (λ x. stripe_is new is_lost x && in_one_chunk new x m) (range_with_len 0 n)) (set_length l.stripes j WasIt)
      ∙ any_same (λ x. stripe_is new is_lost x && in_one_chunk new x m) (λ x. stripe_is l is_lost x && in_one_chunk l x m)
      (λ x. one x (nat_eq x j) refl) (numbers l)
    where
      one : (x : ℕ) (b : Bool) → nat_eq x j ≡ b
          → (stripe_is (with_stripe l j WasIt) is_lost x && in_one_chunk (with_stripe l j WasIt) x m) ≡ (stripe_is l is_lost x && in_one_chunk l x m)
      one x true e =
          let at : x ≡ j = eqb-true x j e in
          let other : in_one_chunk l x m ≡ false =
          ap (λ n. (n % width l) == (m % width l)) at ∙ other_number (j % width l) (m % width l) (λ f. apart (sym f)) in
          ap (λ b. stripe_is (with_stripe l j WasIt) is_lost x && b) other ∙ none (stripe_is (with_stripe l j WasIt) is_lost x)
          ∙ sym (none (stripe_is l is_lost x)) ∙ ap (λ b. stripe_is l is_lost x && b) (sym other)
        where
          none : (b : Bool) → (b && false) ≡ false
          none true = refl
          none false = refl
      one x false e = ap (λ b. b && in_one_chunk l x m) (stripe_else l j Unanswered WasIt there is_lost x (eqb-false x j e))

  -- of the chunk none is left
  none_there : (m : ℕ) → m < length l.stripes → m % width l ≡ j % width l → is_left (with_stripe l j WasIt) m ≡ false
  none_there m low column = ap (λ c. (stripe_is new is_unplaced m && not c) || stripe_is new is_unanswered m) (closed_there m column)
      ∙ ap (λ b. b || stripe_is new is_unanswered m) (no (stripe_is new is_unplaced m)) ∙ go (cases_order m j)
    where
      no : (b : Bool) → (b && false) ≡ false
      no true = refl
      no false = refl

      go : (m ≡ j) ⊎ ((m < j) ⊎ (j < m)) → stripe_is (with_stripe l j WasIt) is_unanswered m ≡ false
      go (inl at) = ap (stripe_is new is_unanswered) at ∙ stripe_here l j Unanswered WasIt there is_unanswered
      go (inr (inl less_is)) = stripe_else l j Unanswered WasIt there is_unanswered m (λ e. absurd (omega arith))
          ∙ (either_false (is_to_place l m) (stripe_is l is_unanswered m) (before m low column less_is)).1
      go (inr (inr more)) = stripe_else l j Unanswered WasIt there is_unanswered m (λ e. absurd (omega arith))
          ∙ ap (λ (x : Option Stripe). option_map_or is_unanswered x false) (after m low column more)

  -- and of the others as many
  same_elsewhere : (m : ℕ) → m % width l ≢ j % width l → is_left (with_stripe l j WasIt) m ≡ is_left l m
  same_elsewhere m apart =
      let other : m ≢ j = λ e. apart (ap (λ n. n % width l) e) in
      ap₂ (λ a b. (a && not (is_closed (with_stripe l j WasIt) m)) || b) (stripe_else l j Unanswered WasIt there is_unplaced m other)
      (stripe_else l j Unanswered WasIt there is_unanswered m other)
      ∙ ap (λ c. (stripe_is l is_unplaced m && not c) || stripe_is l is_unanswered m) (closed_elsewhere m apart)

  -- from that one on they were left
  were_left : (m : ℕ) → m < length l.stripes → m % width l ≡ j % width l → j ≤ m → is_left l m ≡ true
  were_left m low column from = go (cases_order j m)
    where
      go : (j ≡ m) ⊎ ((j < m) ⊎ (m < j)) → is_left l m ≡ true
      go (inl at) = or_right (is_to_place l m) (stripe_is l is_unanswered m)
          (ap (stripe_is l is_unanswered) (sym at) ∙ stripe_was l j Unanswered WasIt there is_unanswered)
      go (inr (inl more)) = or_left (is_to_place l m) (stripe_is l is_unanswered m)
          (ap₂ (λ a c. a && not c) (ap (λ (x : Option Stripe). option_map_or is_unplaced x false) (after m low column more)) (unclosed m low column))
      go (inr (inr before_it)) = absurd (omega arith)

  column_of : (r : ℕ) → (j + r * width l) % width l ≡ j % width l
  column_of r =
      let parts : j / width l * width l + j % width l ≡ j = div-add-mod' j (width l) in
      let sum : (j / width l + r) * width l ≡ j / width l * width l + r * width l = grind arith in
      let same : j + r * width l ≡ (j / width l + r) * width l + j % width l = omega arith in
      ap (λ n. n % width l) same ∙ mod-mul-add (j / width l + r) (width l) (j % width l) (mod-lt j wide)

  -- one row after another
  one_less : (r : ℕ) → j + r * width l < length l.stripes
      → length (filter (less r) (range_with_len 0 (length l.stripes))) ≡ length (filter (less (suc r)) (range_with_len 0 (length l.stripes))) + 1
  unfolding less
  one_less r low =
      let n : ℕ = j + r * width l in
      let from : 0 + n ≡ n = omega arith in
      let column : n % width l ≡ j % width l = column_of r in
      let more : suc r * width l ≡ r * width l + width l = omega arith in
      fewer_pass (less r) (less (suc r)) 0 (length l.stripes) n low
      (ap (less r) from
      ∙ ap₂ (λ a b. a && not ((n % width l == j % width l) && b)) (were_left n low column (omega arith)) (not_before n n (le_refl n))
      ∙ ap not (no (n % width l == j % width l)))
      (ap (less (suc r)) from
      ∙ ap₂ (λ a b. is_left l n && not (a && b)) (ap (λ x. x == j % width l) column ∙ same_number (j % width l)) (lt_true n (j + suc r * width l) (omega arith))
      ∙ no (is_left l n))
      (λ m apart. ap (λ b. is_left l m && not b) (others m (λ e. apart (e ∙ sym from)) (nat_eq (m % width l) (j % width l)) refl))
    where
      no : (b : Bool) → (b && false) ≡ false
      no true = refl
      no false = refl

      test : (m : ℕ) (b : Bool) → b ≡ (m % width l == j % width l) → (x y : Bool) → x ≡ y → (b && x) ≡ (b && y)
      test m b e x y same = ap (λ z. b && z) same

      others : (m : ℕ) → m ≢ j + r * width l → (b : Bool) → nat_eq (m % width l) (j % width l) ≡ b
          → ((m % width l == j % width l) && nat_lt m (j + suc r * width l)) ≡ ((m % width l == j % width l) && nat_lt m (j + r * width l))
      others m apart false e = ap (λ b. b && nat_lt m (j + suc r * width l)) e ∙ ap (λ b. b && nat_lt m (j + r * width l)) (sym e)
      others m apart true e = ap (λ b. (m % width l == j % width l) && b) (by (cases_order m (j + r * width l)))
        where
          by : (m ≡ j + r * width l) ⊎ ((m < j + r * width l) ⊎ (j + r * width l < m)) → nat_lt m (j + suc r * width l) ≡ nat_lt m (j + r * width l)
          by (inl at) = absurd (apart at)
          by (inr (inl low)) = lt_true m (j + suc r * width l) (let more : suc r * width l ≡ r * width l + width l = omega arith in omega arith)
              ∙ sym (lt_true m (j + r * width l) low)
          by (inr (inr high)) = beyond (cases_order m (j + suc r * width l))
            where
              past : j + suc r * width l ≤ m → nat_lt m (j + suc r * width l) ≡ nat_lt m (j + r * width l)
              past h = not_before m (j + suc r * width l) h ∙ sym (not_before m (j + r * width l) (omega arith))

              beyond : (m ≡ j + suc r * width l) ⊎ ((m < j + suc r * width l) ⊎ (j + suc r * width l < m))
                  → nat_lt m (j + suc r * width l) ≡ nat_lt m (j + r * width l)
              beyond (inl at) = past (omega arith)
              beyond (inr (inr more)) = past (omega arith)
              beyond (inr (inl below)) = absurd (apart (same_column (width l) j m r wide (eqb-true (m % width l) (j % width l) e) (omega arith) below))

  all_less : (r : ℕ) → j + r * width l ≤ length l.stripes + j % width l
      → length (filter (is_left l) (range_with_len 0 (length l.stripes))) ≡ length (filter (less r) (range_with_len 0 (length l.stripes))) + r
  unfolding less
  all_less zero low =
      let first : 0 * width l ≡ 0 = omega arith in
      ap length (filter_agree (λ m. m < 0 + length l.stripes) (is_left l) (less 0) (λ m h. start m (omega arith)) (range_with_len 0 (length l.stripes))
      (range_below 0 (length l.stripes)))
      ∙ omega arith
    where
      start : (m : ℕ) → m < length l.stripes → is_left l m ≡ less 0 m
      start m low = go (nat_eq (m % width l) (j % width l)) refl (cases_order m (j + 0 * width l))
        where
          first : 0 * width l ≡ 0
          first = omega arith

          and_yes : (b : Bool) → b ≡ (b && true)
          and_yes true = refl
          and_yes false = refl

          go : (b : Bool) → nat_eq (m % width l) (j % width l) ≡ b → (m ≡ j + 0 * width l) ⊎ ((m < j + 0 * width l) ⊎ (j + 0 * width l < m))
              → is_left l m ≡ (is_left l m && not ((m % width l == j % width l) && nat_lt m (j + 0 * width l)))
          go false e order = and_yes (is_left l m) ∙ ap (λ b. is_left l m && not (b && nat_lt m (j + 0 * width l))) (sym e)
          go true e (inr (inl earlier)) =
              let none : is_left l m ≡ false = before m low (eqb-true (m % width l) (j % width l) e) (omega (arith, earlier, first)) in
              none ∙ ap (λ b. b && not ((m % width l == j % width l) && nat_lt m (j + 0 * width l))) (sym none)
          go true e (inl at) = later (omega (arith, at))
            where
              later : j + 0 * width l ≤ m → is_left l m ≡ (is_left l m && not ((m % width l == j % width l) && nat_lt m (j + 0 * width l)))
              later h = and_yes (is_left l m) ∙ ap₂ (λ x y. is_left l m && not (x && y)) (sym e) (sym (not_before m (j + 0 * width l) h))
          go true e (inr (inr more)) = and_yes (is_left l m)
              ∙ ap₂ (λ x y. is_left l m && not (x && y)) (sym e) (sym (not_before m (j + 0 * width l) (omega (arith, more))))
  all_less (suc r) low =
      let more : suc r * width l ≡ r * width l + width l = omega arith in
      let column : j % width l < width l = mod-lt j wide in
      let rest = all_less r (omega arith) in
      let one = one_less r (omega arith) in
      omega arith

  end_is : j + (rows - j / width l) * width l ≡ length l.stripes + j % width l
  end_is =
      let parts : j / width l * width l + j % width l ≡ j = div-add-mod' j (width l) in
      let turned : width l * rows ≡ rows * width l = omega arith in
      let column : j % width l < width l = mod-lt j wide in
      let row : j / width l < rows = lt_of_mul-lt-mul_right (width l) (let low = inside in omega arith) in
      let split : (rows - j / width l + j / width l) * width l ≡ (rows - j / width l) * width l + j / width l * width l = grind arith in
      let back : rows - j / width l + j / width l ≡ rows = omega arith in
      let whole : (rows - j / width l + j / width l) * width l ≡ rows * width l = ap (λ n. n * width l) back in
      omega arith

  last : (m : ℕ) → m < length l.stripes → less (rows - j / width l) m ≡ is_left (with_stripe l j WasIt) m
  unfolding less
  last m low = go (nat_eq (m % width l) (j % width l)) refl
    where
      r : ℕ
      r = rows - j / width l

      no : (b : Bool) → (b && false) ≡ false
      no true = refl
      no false = refl

      yes : (b : Bool) → (b && true) ≡ b
      yes true = refl
      yes false = refl

      go : (b : Bool) → nat_eq (m % width l) (j % width l) ≡ b
          → (is_left l m && not ((m % width l == j % width l) && nat_lt m (j + r * width l))) ≡ is_left (with_stripe l j WasIt) m
      go true e =
          ap₂ (λ x y. is_left l m && not (x && y)) e (lt_true m (j + r * width l) (let end = end_is in omega arith))
          ∙ no (is_left l m) ∙ sym (none_there m low (eqb-true (m % width l) (j % width l) e))
      go false e = ap (λ x. is_left l m && not (x && nat_lt m (j + r * width l))) e ∙ yes (is_left l m)
          ∙ sym (same_elsewhere m (eqb-false (m % width l) (j % width l) e))

  pub left_lost : stripes_left (with_stripe l j WasIt) + (rows - j / width l) ≡ stripes_left l
  left_lost =
      ap (λ n. length (filter (is_left new) (range_with_len 0 n)) + (rows - j / width l)) (set_length l.stripes j WasIt)
      ∙ ap (λ (ms : List ℕ). length ms + (rows - j / width l))
      (sym (filter_agree (λ m. m < 0 + length l.stripes) (less (rows - j / width l)) (is_left new) (λ m h. last m (omega arith))
      (range_with_len 0 (length l.stripes)) (range_below 0 (length l.stripes))))
      ∙ sym (all_less (rows - j / width l) (let end = end_is in omega arith))
