-- The line that is collected next is the first of the best ones that may be collected.
use Rattle.std.proofs.Common.{◌≡◌, ◌⊎◌, inl, inr, ℕ, ◌+◌, ◌<◌, ◌≤◌, ◌==◌, ◌&&◌, ◌||◌, zero, suc, nat_lt, Bool, true, false, Some, None, Option, [], ◌∷◌, ◌++◌, refl, sym, subst, ap, ◌∙◌, arith, if◌then◌else◌}
use Rattle.std.specs.List.{filter_map, fold, range_with_len}
use Rattle.std.specs.Option.{option_map, option_to_list}
use Rattle.std.proofs.lemmas.Bool.{cases_lt, cases_order, eqb-true, ltb-true}
use Rattle.std.proofs.lemmas.List.Sums.{fold-append}
use Rattle.std.proofs.lemmas.Option.{none-some, same_Some}
use Rattle.pblk_model.specs.Image.{Image}
use Rattle.pblk_world.specs.Victims.{Candidate, better, candidate, is_before, is_failed_before, next_victim}
use Rattle.pblk_world.specs.World.{Logs}
use Rattle.core_laws.specs.CandidateLines.{IsCandidate, IsNextVictim}
use Rattle.core_laws.proofs.CandidateLines.{candidate_when}
use Rattle.pblk_model.proofs.Maps.{more, range_more}
use Rattle.pblk_model.proofs.Tests.{and_both, both, either, lt_true, not_both, or_left, or_right, same_number}

-- ---- the order of candidates

abbrev pub is_less : (live seq other_live other_seq : ℕ) → Bool
is_less l s m t = nat_lt l m || ((l == m) && nat_lt s t)

less_when : (l s m t : ℕ) → is_less l s m t ≡ true → (l < m) ⊎ ((l ≡ m) × (s < t))
less_when l s m t e = go (either (nat_lt l m) ((l == m) && nat_lt s t) e)
  where
    go : (nat_lt l m ≡ true) ⊎ (((l == m) && nat_lt s t) ≡ true) → (l < m) ⊎ ((l ≡ m) × (s < t))
    go (inl less) = inl (ltb-true l m less)
    go (inr level) = let parts = both (l == m) (nat_lt s t) level in inr (eqb-true l m parts.0, ltb-true s t parts.1)

pub less_is : (l s m t : ℕ) → (l < m) ⊎ ((l ≡ m) × (s < t)) → is_less l s m t ≡ true
less_is l s m t (inl less) = or_left (nat_lt l m) ((l == m) && nat_lt s t) (lt_true l m less)
less_is l s m t (inr level) = or_right (nat_lt l m) ((l == m) && nat_lt s t)
    (and_both (l == m) (nat_lt s t) (ap (λ n. l == n) (sym level.0) ∙ same_number l) (lt_true s t level.1))

less_not : (l s m t : ℕ) → is_less l s m t ≡ false → (m < l) ⊎ ((l ≡ m) × (t ≤ s))
less_not l s m t e = go (cases_order l m) (cases_lt s t)
  where
    go : (l ≡ m) ⊎ ((l < m) ⊎ (m < l)) → (s < t) ⊎ (t ≤ s) → (m < l) ⊎ ((l ≡ m) × (t ≤ s))
    go (inr (inr above)) rest = inl above
    go (inr (inl below)) rest = absurd (not_both (is_less l s m t) (less_is l s m t (inl below)) e)
    go (inl level) (inr past) = inr (level, past)
    go (inl level) (inl less) = absurd (not_both (is_less l s m t) (less_is l s m t (inr (level, less))) e)

-- what is before another is before each that isn't before that one
before_others : (a b c : Candidate) → is_before a b ≡ true → is_before c b ≡ false → is_before a c ≡ true
before_others a b c first not_first = go a.failed b.failed c.failed first not_first
  where
    less : is_less a.live a.seq b.live b.seq ≡ true → is_less c.live c.seq b.live b.seq ≡ false → is_less a.live a.seq c.live c.seq ≡ true
    less e f = less_is a.live a.seq c.live c.seq (by (less_when a.live a.seq b.live b.seq e) (less_not c.live c.seq b.live b.seq f))
      where
        by : (a.live < b.live) ⊎ ((a.live ≡ b.live) × (a.seq < b.seq)) → (b.live < c.live) ⊎ ((c.live ≡ b.live) × (b.seq ≤ c.seq))
            → (a.live < c.live) ⊎ ((a.live ≡ c.live) × (a.seq < c.seq))
        by (inl x) (inl y) = inl (omega arith)
        by (inl x) (inr y) = inl (let same : c.live ≡ b.live = y.0 in omega arith)
        by (inr x) (inl y) = inl (let same : a.live ≡ b.live = x.0 in omega arith)
        by (inr x) (inr y) = inr (x.0 ∙ sym y.0, let one : a.seq < b.seq = x.1 in let two : b.seq ≤ c.seq = y.1 in omega arith)

    go : (f g h : Bool) → is_failed_before f g (is_less a.live a.seq b.live b.seq) ≡ true
        → is_failed_before h g (is_less c.live c.seq b.live b.seq) ≡ false → is_failed_before f h (is_less a.live a.seq c.live c.seq) ≡ true
    go true true true e k = less e k
    go true true false e k = refl
    go true false true e k = absurd cc
    go true false false e k = refl
    go false true true e k = absurd cc
    go false true false e k = absurd cc
    go false false true e k = absurd cc
    go false false false e k = less e k

before_once : (a b : Candidate) → is_before a b ≡ true → is_before b a ≡ false
before_once a b first = go a.failed b.failed first
  where
    less : is_less a.live a.seq b.live b.seq ≡ true → is_less b.live b.seq a.live a.seq ≡ false
    less e = by (is_less b.live b.seq a.live a.seq) refl
      where
        never : (a.live < b.live) ⊎ ((a.live ≡ b.live) × (a.seq < b.seq)) → (b.live < a.live) ⊎ ((b.live ≡ a.live) × (b.seq < a.seq)) → ⊥
        never (inl x) (inl y) = absurd (omega arith)
        never (inl x) (inr y) = let same : b.live ≡ a.live = y.0 in absurd (omega arith)
        never (inr x) (inl y) = let same : a.live ≡ b.live = x.0 in absurd (omega arith)
        never (inr x) (inr y) = let one : a.seq < b.seq = x.1 in let two : b.seq < a.seq = y.1 in absurd (omega arith)

        by : (t : Bool) → is_less b.live b.seq a.live a.seq ≡ t → t ≡ false
        by false f = refl
        by true f = absurd (never (less_when a.live a.seq b.live b.seq e) (less_when b.live b.seq a.live a.seq f))

    go : (f g : Bool) → is_failed_before f g (is_less a.live a.seq b.live b.seq) ≡ true
        → is_failed_before g f (is_less b.live b.seq a.live a.seq) ≡ false
    go true true e = less e
    go true false e = refl
    go false true e = absurd cc
    go false false e = less e

none_before_itself : (c : Candidate) → is_before c c ≡ false
none_before_itself c = go (is_before c c) refl
  where
    go : (t : Bool) → is_before c c ≡ t → t ≡ false
    go false e = refl
    go true e = absurd (not_both (is_before c c) e (before_once c c e))

-- ---- the best of the first lines

module _ (give : ℕ → Option Candidate) where
  abbrev best : ℕ → Option Candidate
  best n = fold better None (filter_map give (range_with_len 0 n))

  record IsBest (n : ℕ) (c : Candidate) : Type 0 where
    line : ℕ
    below : line < n
    is : give line ≡ Some c
    none_before : (other : ℕ) (d : Candidate) → other < n → give other ≡ Some d → is_before d c ≡ false
    first : (other : ℕ) (d : Candidate) → other < line → give other ≡ Some d → is_before c d ≡ true

  abbrev IsBestBelow : ℕ → Option Candidate → Type 0
  IsBestBelow n None = (other : ℕ) → other < n → give other ≡ None
  IsBestBelow n (Some c) = IsBest n c

  one_more : (n : ℕ) → best (suc n) ≡ fold better (best n) (option_to_list (give n))
  one_more n =
      let last : 0 + n ≡ n = omega arith in
      ap (λ xs. fold better None (filter_map give xs)) (range_more 0 n ∙ ap (λ m. range_with_len 0 n ++ m ∷ []) last)
      ∙ ap (fold better None) (more give (range_with_len 0 n) n)
      ∙ fold-append better None (filter_map give (range_with_len 0 n)) (option_to_list (give n))

  -- what holds of each line below the next number
  below_next : (P : ℕ → Type 0) (n : ℕ) → ((other : ℕ) → other < n → P other) → P n → (other : ℕ) → other < suc n → P other
  below_next P n before here other below = go (cases_lt other n)
    where
      go : (other < n) ⊎ (n ≤ other) → P other
      go (inl less) = before other less
      go (inr past) = let same : n ≡ other = omega arith in subst P same here

  -- the next line is taken
  taken : (n : ℕ) (c : Candidate) → give n ≡ Some c → ((other : ℕ) (d : Candidate) → other < n → give other ≡ Some d → is_before c d ≡ true) → IsBest (suc n) c
  taken n c is first = record {
    line = n;
    below = omega arith;
    is = is;
    none_before = λ other d below given. below_next (λ m. (e : Candidate) → give m ≡ Some e → is_before e c ≡ false) n
        (λ m less e there. before_once c e (first m e less there))
        (λ e there. subst (λ x. is_before x c ≡ false) (same_Some c e (sym is ∙ there)) (none_before_itself c)) other below d given;
    first = first;
  }

  -- or not
  kept : (n : ℕ) (c : Candidate) → IsBest n c → ((d : Candidate) → give n ≡ Some d → is_before d c ≡ false) → IsBest (suc n) c
  kept n c was here = record {
    line = was.line;
    below = let low : was.line < n = was.below in omega arith;
    is = was.is;
    none_before = λ other d below given. below_next (λ m. (e : Candidate) → give m ≡ Some e → is_before e c ≡ false) n
        (λ m less e there. was.none_before m e less there) here other below d given;
    first = was.first;
  }

  next_is : (n : ℕ) (was : Option Candidate) (o : Option Candidate) → give n ≡ o → IsBestBelow n was → IsBestBelow (suc n) (fold better was (option_to_list o))
  next_is n None None e none = below_next (λ m. give m ≡ None) n none e
  next_is n None (Some c) e none = taken n c e (λ other d below given. absurd (none-some d (sym (none other below) ∙ given)))
  next_is n (Some b) None e is = kept n b is (λ d there. absurd (none-some d (sym e ∙ there)))
  next_is n (Some b) (Some c) e is = go (is_before c b) refl
    where
      go : (t : Bool) → is_before c b ≡ t → IsBestBelow (suc n) (if t then Some c else Some b)
      go true first = taken n c e (λ other d below given. before_others c b d first (is.none_before other d below given))
      go false not_first = kept n b is (λ d there. subst (λ x. is_before x b ≡ false) (same_Some c d (sym e ∙ there)) not_first)

  best_is : (n : ℕ) → IsBestBelow n (best n)
  best_is zero = λ other below. absurd (omega arith)
  best_is (suc n) = subst (IsBestBelow (suc n)) (sym (one_more n)) (next_is n (best n) (give n) refl (best_is n))

-- ---- the next victim

-- a candidate names its line
pub names_line : (i : Image) (logs : Logs) (line : ℕ) (c : Candidate) → candidate i logs line ≡ Some c → c.line ≡ line
names_line i logs line c e = let it : IsCandidate i logs line c = candidate_when i logs line c e in ap (λ (d : Candidate). d.line) it.is

module _ (i : Image) (logs : Logs) where
  abbrev best_line : Option Candidate → Option ℕ
  best_line o = option_map (λ (c : Candidate). c.line) o

  pub next_victim_is : (line : ℕ) → next_victim i logs ≡ Some line → IsNextVictim i logs line
  next_victim_is line e = go (best (candidate i logs) i.shape.chunks) (best_is (candidate i logs) i.shape.chunks) e
    where
      go : (o : Option Candidate) → IsBestBelow (candidate i logs) i.shape.chunks o → best_line o ≡ Some line → IsNextVictim i logs line
      go None is f = absurd (none-some line f)
      go (Some c) is f = subst (IsNextVictim i logs) (sym (names_line i logs is.line c is.is) ∙ same_Some c.line line f) (record {
        in_range = is.below;
        chosen = c;
        is_candidate = is.is;
        none_before = is.none_before;
        first = is.first;
      })

  pub no_candidate : next_victim i logs ≡ None → (line : ℕ) → line < i.shape.chunks → candidate i logs line ≡ None
  no_candidate e = go (best (candidate i logs) i.shape.chunks) (best_is (candidate i logs) i.shape.chunks) e
    where
      go : (o : Option Candidate) → IsBestBelow (candidate i logs) i.shape.chunks o → best_line o ≡ None
          → (line : ℕ) → line < i.shape.chunks → candidate i logs line ≡ None
      go None is f = is
      go (Some c) is f = absurd (none-some c.line (sym f))

  pub none_is_next : ((line : ℕ) → line < i.shape.chunks → candidate i logs line ≡ None) → next_victim i logs ≡ None
  none_is_next none = go (next_victim i logs) refl
    where
      go : (o : Option ℕ) → next_victim i logs ≡ o → o ≡ None
      go None e = refl
      go (Some line) e =
          let is : IsNextVictim i logs line = next_victim_is line e in
          absurd (none-some is.chosen (sym (none line is.in_range) ∙ is.is_candidate))

  -- it is one line
  same_next : (line other : ℕ) → IsNextVictim i logs line → IsNextVictim i logs other → line ≡ other
  same_next line other one two = go (cases_order line other)
    where
      go : (line ≡ other) ⊎ ((line < other) ⊎ (other < line)) → line ≡ other
      go (inl same) = same
      go (inr (inl less)) = absurd (not_both (is_before two.chosen one.chosen) (two.first line one.chosen less one.is_candidate)
          (one.none_before other two.chosen two.in_range two.is_candidate))
      go (inr (inr more)) = absurd (not_both (is_before one.chosen two.chosen) (one.first other two.chosen more two.is_candidate)
          (two.none_before line one.chosen one.in_range one.is_candidate))

  pub is_next_victim : (line : ℕ) → IsNextVictim i logs line → next_victim i logs ≡ Some line
  is_next_victim line is = go (next_victim i logs) refl
    where
      go : (o : Option ℕ) → next_victim i logs ≡ o → o ≡ Some line
      go None e = absurd (none-some is.chosen (sym (no_candidate e line is.in_range) ∙ is.is_candidate))
      go (Some other) e = ap (λ n. Some n) (same_next other line (next_victim_is other e) is)
