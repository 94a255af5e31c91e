-- The chunks that are still to be reset, by the lines that wait and the used units of each line.
use Rattle.std.proofs.Common.{◌≡◌, ◌≢◌, ℕ, ◌+◌, ◌-◌, ◌^◌, ◌<◌, ◌≤◌, ◌⊎◌, inl, inr, zero, suc, Bool, true, false, ◌||◌, cond, eqb, Some, None, List, [], ◌∷◌, ◌++◌, length, drop, refl, sym, subst, ap, ap₂, ◌∙◌, arith, length-set}
use Rattle.std.specs.Prelude.{slice_get}
use Rattle.std.specs.List.{AllByRecursion, flat_map, list_any, range_with_len, slice_index_or, slice_set}
use Rattle.std.proofs.lemmas.Bool.{cases_eq, cases_lt, eqb-true}
use Rattle.std.proofs.lemmas.List.{get_or_past, get_or-set_same, get_or-set_other}
use Rattle.std.proofs.lemmas.Option.{get_or_from_slice_get, same_Some, slice_get_read}
use Rattle.pblk_model.proofs.Lists.{all_append, all_front, all_imply, nil_cons, zipped}
use Rattle.pblk_model.proofs.Maps.{any_fail, flat_map_nil}
use Rattle.pblk_model.proofs.Parts.{all_by_get}
use Rattle.pblk_model.proofs.Tests.{no_both, other_number, same_number}
use Rattle.pblk_model.specs.declared.shape.Shape.{Shape}
use Rattle.pblk_model.specs.declared.chunk.ChunkState.{ChunkState}
use Rattle.pblk_model.specs.Found.{Rise}
use Rattle.pblk_model.specs.Shape.{units}
use Rattle.pblk_layout.specs.Online.{units_in}
use Rattle.line_table.specs.LineSets.{has}
use Rattle.pblk_core.specs.declared.resets.LineChunk.{LineChunk}
use Rattle.pblk_core.specs.Resets.{GetsChunks, HasNoneOf, IsResetQueue, ResetQueue, in_line, resets_found, resets_left, used_below, used_in, waiting_units}
use Rattle.pblk_core.proofs.FirstReset.{IsFirstOf, all_chunks, chunk_of, first_is, none_before, others_are, same_above}
use Rattle.pblk_core.proofs.FreedResets.{gets_chunks}
use Rattle.pblk_core.proofs.KeptResets.{flat_same}
use Rattle.pblk_core.proofs.UsedBits.{IsFirstUnit, first_unit, no_unit}

-- ---- which chunks of a line are left

waits : (r : ResetQueue) (line : ℕ) → has r.waiting line ≡ true → waiting_units r line ≡ units_in (used_in r line)
waits r line is = ap (λ b. cond b (units_in (used_in r line)) []) is

pub rests : (r : ResetQueue) (line : ℕ) → has r.waiting line ≡ false → waiting_units r line ≡ []
rests r line is = ap (λ b. cond b (units_in (used_in r line)) []) is

-- a line with a used unit is one of the drive
pub within : (r : ResetQueue) (line : ℕ) → units_in (used_in r line) ≢ [] → line < length r.used
within r line some = go (cases_lt line (length r.used))
  where
    go : (line < length r.used) ⊎ (length r.used ≤ line) → line < length r.used
    go (inl low) = low
    go (inr past) = absurd (some (ap units_in (get_or_past r.used line 0 past) ∙ no_unit))

-- its units as they are read
pub units_read : (r : ResetQueue) (line bits : ℕ) → line < length r.used → bits ≡ slice_index_or r.used line bits → used_in r line ≡ bits
units_read r line bits inside read = get_or_from_slice_get r.used line bits 0 (slice_get_read r.used (length r.used) line bits refl inside read)

-- no chunk of a line is left where the line has no units
of_other : (a line : ℕ) (us : List ℕ) → a ≢ line → HasNoneOf line (in_line a us)
of_other a line [] apart = tt
of_other a line (u ∷ us) apart = (apart, of_other a line us apart)

pub none_in : (g : ℕ → List ℕ) (a n line : ℕ) → g line ≡ [] → HasNoneOf line (all_chunks g a n)
none_in g a zero line none = tt
none_in g a (suc n) line none =
    all_append (λ (c : LineChunk). c.line ≢ line) (in_line a (g a)) (all_chunks g (a + 1) n) (here (cases_eq a line)) (none_in g (a + 1) n line none)
  where
    here : (a ≡ line) ⊎ (a ≢ line) → HasNoneOf line (in_line a (g a))
    here (inl same) = subst (λ us. HasNoneOf line (in_line a us)) (sym (ap g same ∙ none)) tt
    here (inr apart) = of_other a line (g a) apart

-- and one is left where it has some
one_in : (g : ℕ → List ℕ) (a n line u : ℕ) (us : List ℕ) → a ≤ line → line < a + n → g line ≡ u ∷ us → HasNoneOf line (all_chunks g a n) → ⊥
one_in g a zero line u us low high is none = absurd (omega arith)
one_in g a (suc n) line u us low high is none = go (cases_eq a line) (λ from. one_in g (a + 1) n line u us from (omega arith) is parts.1)
  where
    parts : HasNoneOf line (in_line a (g a)) × HasNoneOf line (all_chunks g (a + 1) n)
    parts = all_front (λ (c : LineChunk). c.line ≢ line) (in_line a (g a)) (all_chunks g (a + 1) n) none

    go : (a ≡ line) ⊎ (a ≢ line) → (a + 1 ≤ line → ⊥) → ⊥
    go (inl same) rest = (subst (λ vs. HasNoneOf line (in_line a vs)) (ap g same ∙ is) parts.0).0 same
    go (inr apart) rest = rest (omega arith)

-- so a line of which none is left doesn't wait
pub is_out : (r : ResetQueue) (line : ℕ) → IsResetQueue r → HasNoneOf line (resets_left r) → has r.waiting line ≡ false
is_out r line keeps none = go (has r.waiting line) refl
  where
    by : has r.waiting line ≡ true → (us : List ℕ) → units_in (used_in r line) ≡ us → ⊥
    by is [] e = keeps.some line is e
    by is (u ∷ us) e = one_in (waiting_units r) 0 (length r.used) line u us (omega arith)
        (let inside = within r line (keeps.some line is) in omega arith) (waits r line is ∙ e) none

    go : (b : Bool) → has r.waiting line ≡ b → has r.waiting line ≡ false
    go true is = absurd (by is (units_in (used_in r line)) refl)
    go false is = is

-- ---- the first chunk

pub first_left : (r : ResetQueue) (line u : ℕ) (us : List ℕ) → has r.waiting line ≡ true → ((m : ℕ) → m < line → has r.waiting m ≡ false)
    → units_in (used_in r line) ≡ u ∷ us → Some (chunk_of line u) ≡ slice_get (resets_left r) 0
first_left r line u us is before units =
    let inside : line < length r.used = within r line (λ none. nil_cons u us (sym none ∙ units)) in
    sym (none_before (waiting_units r) 0 (length r.used) line u us (omega arith) (omega arith) (waits r line is ∙ units)
    (λ k low below. rests r k (before k below)))

pub none_left : (r : ResetQueue) → ((m : ℕ) → has r.waiting m ≡ false) → None ≡ slice_get (resets_left r) 0
none_left r none =
    sym (ap (λ cs. slice_get cs 0)
    (flat_map_nil (λ line. in_line line (waiting_units r line)) (range_with_len 0 (length r.used)) (λ line. ap (in_line line) (rests r line (none line)))))

-- a line waits just where these units are left of it
abbrev pub WaitsWith : List ℕ → ℕ → ℕ → Type 0
WaitsWith waiting line bits = ((has waiting line ≡ true) × (units_in bits ≢ [])) ⊎ ((has waiting line ≡ false) × (units_in bits ≡ []))

-- its line and its unit, and what is left without it
module _ (r : ResetQueue) (c : LineChunk) (is_first : slice_get (resets_left r) 0 ≡ Some c) where
  pub first : IsFirstOf (waiting_units r) 0 (length r.used) c
  first = first_is (waiting_units r) 0 (length r.used) c is_first

  pub line_inside : c.line < length r.used
  line_inside = let inside : c.line < 0 + length r.used = first.inside in omega arith

  pub waits_here : has r.waiting c.line ≡ true
  waits_here = go (has r.waiting c.line) refl
    where
      go : (b : Bool) → has r.waiting c.line ≡ b → has r.waiting c.line ≡ true
      go true is = is
      go false is = absurd (nil_cons c.unit first.units (sym (rests r c.line is) ∙ first.is))

  pub unit_is : IsFirstUnit (used_in r c.line) c.unit first.units
  unit_is = first_unit (used_in r c.line) c.unit first.units (sym (waits r c.line waits_here) ∙ first.is)

  module _ (waiting : List ℕ) (bits : ℕ) (less : bits ≡ used_in r c.line - 2 ^ c.unit) (others : (n : ℕ) → n ≢ c.line → has waiting n ≡ has r.waiting n)
      (still : WaitsWith waiting c.line bits) where
    abbrev new : ResetQueue
    new = record { waiting = waiting; used = slice_set r.used c.line bits }

    less_used : used_in new c.line ≡ bits
    less_used = get_or-set_same r.used c.line bits 0 line_inside

    rest_is : units_in bits ≡ first.units
    rest_is = ap units_in less ∙ unit_is.rest

    same_used : (n : ℕ) → n ≢ c.line → used_in new n ≡ used_in r n
    same_used n apart = get_or-set_other r.used c.line n bits 0 apart

    less_units : waiting_units new c.line ≡ first.units
    less_units = go still
      where
        go : WaitsWith waiting c.line bits → waiting_units new c.line ≡ first.units
        go (inl more) = waits new c.line more.0 ∙ ap units_in less_used ∙ rest_is
        go (inr none) = rests new c.line none.0 ∙ sym none.1 ∙ rest_is

    pub here_advanced : (its : LineChunk) → slice_get (resets_left r) 0 ≡ Some its → units_in (used_in new its.line) ≡ drop 1 (units_in (used_in r its.line))
    here_advanced its is = subst (λ (d : LineChunk). units_in (used_in new d.line) ≡ drop 1 (units_in (used_in r d.line)))
        (same_Some c its (sym is_first ∙ is))
        (ap units_in less_used ∙ rest_is ∙ sym (ap (drop 1) (sym (waits r c.line waits_here) ∙ first.is)))

    pub advanced : resets_left new ≡ drop 1 (resets_left r)
    advanced =
        ap (all_chunks (waiting_units new) 0) (length-set r.used c.line bits)
        ∙ others_are (waiting_units r) (waiting_units new) 0 (length r.used) c first less_units
        (λ k apart. ap₂ (λ b n. cond b (units_in n) []) (others k apart) (same_used k apart))

    pub keeps_advanced : IsResetQueue r → IsResetQueue new
    keeps_advanced keeps = record {
      few = omega (arith, length-set r.used c.line bits, keeps.few);
      some = λ line is. by line is (cases_eq line c.line);
    }
      where
        here : WaitsWith waiting c.line bits → has waiting c.line ≡ true
            → units_in bits ≢ []
        here (inl more) is = more.1
        here (inr none) is = absurd cc

        by : (line : ℕ) → has waiting line ≡ true → (line ≡ c.line) ⊎ (line ≢ c.line) → units_in (used_in new line) ≢ []
        by line is (inl same) = λ none. here still (ap (has waiting) (sym same) ∙ is)
            (ap units_in (sym less_used) ∙ ap (λ n. units_in (used_in new n)) (sym same) ∙ none)
        by line is (inr apart) = λ none. keeps.some line (sym (others line apart) ∙ is) (ap units_in (sym (same_used line apart)) ∙ none)

-- ---- a line that doesn't wait has other units

module _ (r : ResetQueue) (keeps : IsResetQueue r) (line bits : ℕ) (none : HasNoneOf line (resets_left r)) where
  abbrev noted : ResetQueue
  noted = record { waiting = r.waiting; used = slice_set r.used line bits }

  noted_else : (n : ℕ) → n ≢ line → used_in noted n ≡ used_in r n
  noted_else n apart = get_or-set_other r.used line n bits 0 apart

  pub left_noted : resets_left noted ≡ resets_left r
  left_noted =
      ap (all_chunks (waiting_units noted) 0) (length-set r.used line bits)
      ∙ same_above (waiting_units r) (waiting_units noted) 0 (length r.used) (λ k low. by k (cases_eq k line))
    where
      by : (k : ℕ) → (k ≡ line) ⊎ (k ≢ line) → waiting_units noted k ≡ waiting_units r k
      by k (inl same) =
          let out : has r.waiting k ≡ false = ap (has r.waiting) same ∙ is_out r line keeps none in
          rests noted k out ∙ sym (rests r k out)
      by k (inr apart) = ap (λ n. cond (has r.waiting k) (units_in n) []) (noted_else k apart)

  pub keeps_noted : IsResetQueue noted
  keeps_noted = record {
    few = omega (arith, length-set r.used line bits, keeps.few);
    some = λ n is all. keeps.some n is
        (ap units_in (sym (noted_else n (λ same. no_both (has r.waiting n) is (ap (has r.waiting) same ∙ is_out r line keeps none)))) ∙ all);
  }

-- ---- a line waits

module _ (r : ResetQueue) (keeps : IsResetQueue r) (line : ℕ) (waiting : List ℕ) (none : HasNoneOf line (resets_left r))
    (some : units_in (used_in r line) ≢ []) (set : has waiting line ≡ true) (others : (n : ℕ) → n ≢ line → has waiting n ≡ has r.waiting n) where
  abbrev given : ResetQueue
  given = record { waiting = waiting; used = r.used }

  pub gets_line : GetsChunks (resets_left r) (resets_left given) line (units_in (used_in r line))
  gets_line = subst (GetsChunks (resets_left r) (resets_left given) line) (waits given line set)
      (gets_chunks (waiting_units r) (waiting_units given) 0 (length r.used) line (omega arith) (let inside = within r line some in omega arith)
      (rests r line (is_out r line keeps none)) (λ k apart. ap (λ b. cond b (units_in (used_in r k)) []) (others k apart)))

-- ---- what is found

-- a list that rises lies above its first number
rise_above : (x : ℕ) (xs : List ℕ) → Rise (x ∷ xs) → AllByRecursion (λ y. x < y) xs
rise_above x [] rise = tt
rise_above x (y ∷ ys) rise = (rise.0, all_imply (λ z. y < z) (λ z. x < z) (λ z above. let first : x < y = rise.0 in omega arith) ys (rise_above y ys rise.1))

rise_rest : (x : ℕ) (xs : List ℕ) → Rise (x ∷ xs) → Rise xs
rise_rest x [] rise = tt
rise_rest x (y ∷ ys) rise = rise.1

abbrev is_among : List ℕ → ℕ → Bool
is_among xs n = list_any (λ x. eqb x n) xs

none_below : (n : ℕ) (xs : List ℕ) → AllByRecursion (λ x. n < x) xs → is_among xs n ≡ false
none_below n xs above =
    any_fail (λ x. eqb x n) xs (all_imply (λ x. n < x) (λ x. eqb x n ≡ false) (λ x low. other_number x n (λ e. absurd (omega arith))) xs above)

-- the chunks of lines that rise are those of the drive's lines that are among them
abbrev among : (ℕ → List ℕ) → List ℕ → ℕ → List ℕ
among h xs line = cond (is_among xs line) (h line) []

by_line : (h : ℕ → List ℕ) (xs : List ℕ) (a n : ℕ) → Rise xs → AllByRecursion (λ x. (a ≤ x) × (x < a + n)) xs
    → all_chunks (among h xs) a n ≡ flat_map (λ line. in_line line (h line)) xs
by_line h [] a n rise inside = flat_map_nil (λ (line : ℕ). []) (range_with_len a n) (λ line. refl)
by_line h (x ∷ xs) a zero rise inside = let low = inside.0.0 in let high = inside.0.1 in absurd (omega arith)
by_line h (x ∷ xs) a (suc n) rise inside =
    go (cases_eq x a) (λ ys up all. by_line h ys (a + 1) n up all)
  where
    above : AllByRecursion (λ y. x < y) xs
    above = rise_above x xs rise

    rest : a ≤ x → AllByRecursion (λ y. (a + 1 ≤ y) × (y < a + 1 + n)) xs
    rest from = zipped (λ y. (a ≤ y) × (y < a + suc n)) (λ y. x < y) (λ y. (a + 1 ≤ y) × (y < a + 1 + n))
        (λ y is more. let high = is.1 in (omega arith, omega arith)) xs inside.1 above

    go : (x ≡ a) ⊎ (x ≢ a)
        → ((ys : List ℕ) → Rise ys → AllByRecursion (λ y. (a + 1 ≤ y) × (y < a + 1 + n)) ys
        → all_chunks (among h ys) (a + 1) n ≡ flat_map (λ line. in_line line (h line)) ys)
        → all_chunks (among h (x ∷ xs)) a (suc n) ≡ in_line x (h x) ++ flat_map (λ line. in_line line (h line)) xs
    go (inl same) later =
        let first : among h (x ∷ xs) a ≡ h x = ap (λ b. cond (b || is_among xs a) (h a) []) (ap (λ k. eqb k a) same ∙ same_number a) ∙ ap h (sym same) in
        ap₂ (λ line us. in_line line us ++ all_chunks (among h (x ∷ xs)) (a + 1) n) (sym same) first
        ∙ ap (λ zs. in_line x (h x) ++ zs)
        (same_above (among h xs) (among h (x ∷ xs)) (a + 1) n
        (λ k from. ap (λ b. cond (b || is_among xs k) (h k) []) (other_number x k (λ e. absurd (omega arith))))
        ∙ later xs (rise_rest x xs rise) (rest inside.0.0))
    go (inr apart) later =
        let from : a ≤ x = inside.0.0 in
        let high : x < a + suc n = inside.0.1 in
        let low : a < x = omega arith in
        ap (λ b. in_line a (cond b (h a) []) ++ all_chunks (among h (x ∷ xs)) (a + 1) n)
        (none_below a (x ∷ xs) (low, all_imply (λ y. x < y) (λ y. a < y) (λ y more. omega arith) xs above))
        ∙ later (x ∷ xs) rise ((omega arith, omega arith), rest from)

among_at : (n : ℕ) (xs : List ℕ) → is_among xs n ≡ true → (k : ℕ) × (slice_get xs k ≡ Some n)
among_at n [] is = absurd cc
among_at n (x ∷ xs) is = go (eqb x n) refl is (λ e. among_at n xs e)
  where
    go : (b : Bool) → eqb x n ≡ b → (b || is_among xs n) ≡ true → (is_among xs n ≡ true → (k : ℕ) × (slice_get xs k ≡ Some n))
        → (k : ℕ) × (slice_get (x ∷ xs) k ≡ Some n)
    go true same e later = (zero, ap Some (eqb-true x n same))
    go false other e later = let at = later e in (suc at.0, at.1)

-- the strays wait, and no other line
module _ (s : Shape) (states : List ChunkState) (strays : List ℕ) (r : ResetQueue) (lines : length r.used ≡ s.chunks)
    (used : (line : ℕ) → line < s.chunks → units_in (used_in r line) ≡ used_below s states line (units s))
    (strays_wait : (n : ℕ) → has r.waiting n ≡ is_among strays n) (inside : (k line : ℕ) → slice_get strays k ≡ Some line → line < s.chunks) where
  pub left_found : Rise strays → resets_left r ≡ resets_found s states strays
  left_found rise =
      ap (all_chunks (waiting_units r) 0) lines
      ∙ flat_same (λ line. in_line line (waiting_units r line)) (λ line. in_line line (cond (is_among strays line) (used_below s states line (units s)) []))
      0 s.chunks
      (λ line high. ap (in_line line) (ap₂ (λ b us. cond b us []) (strays_wait line) (used line (omega arith))))
      ∙ by_line (λ line. used_below s states line (units s)) strays 0 s.chunks rise
      (all_by_get (λ x. (0 ≤ x) × (x < 0 + s.chunks)) strays (λ k line there. let high = inside k line there in (omega arith, omega arith)))

  pub keeps_found : s.chunks ≤ 1024 → ((k line : ℕ) → slice_get strays k ≡ Some line → used_below s states line (units s) ≢ []) → IsResetQueue r
  keeps_found few some = record {
    few = omega arith;
    some = λ line is none.
        let at = among_at line strays (sym (strays_wait line) ∙ is) in
        some at.0 line at.1 (sym (used line (inside at.0 line at.1)) ∙ none);
  }
