-- The history of a closed world is what the sessions put.
use Rattle.std.proofs.Common.{◌≡◌, ◌⊎◌, inl, inr, ℕ, ◌+◌, ◌-◌, ◌<◌, ◌≤◌, zero, suc, Bool, true, false, cond, Option, Some, None, List, [], ◌∷◌, length, refl, sym, subst, ap, ap₂, ◌∙◌, arith}
use Rattle.std.specs.Prelude.{map, slice_get}
use Rattle.std.specs.List.{AllByRecursion, Contains, filter}
use Rattle.std.specs.Option.{is_some}
use Rattle.std.proofs.lemmas.Bool.{cases_lt}
use Rattle.std.proofs.lemmas.Option.{none-some, same_Some}
use Rattle.pblk_model.specs.RingState.{between, covers, times}
use Rattle.pblk_model.proofs.Lists.{IsAmong, all_append, all_contains, among_contained, among_more}
use Rattle.pblk_model.proofs.Parts.{contained_among, got_within}
use Rattle.pblk_model.proofs.Maps.{from_map, get_mapped, in_map}
use Rattle.pblk_world.specs.EngineLog.{Taken, takes}
use Rattle.pblk_world.specs.Events.{Logged, Source}
use Rattle.pblk_world.specs.Fronts.{first_position, is_users, taken, user_takes}
use Rattle.unit_port.specs.Unit.{ModelUnit}
use Rattle.core_laws.specs.Positions.{AreNumbered}
use Rattle.pblk_core.proofs.WaitingEntries.{numbered_at}
use Rattle.block_port.specs.ByPlace.{HasItsSectors, ThreadWrite, all_lines, by_place}
use Rattle.block_port.specs.Own.{OwnWrite, PlacedSector, lines_of}
use Rattle.block_port.specs.Port.{Rise, positions}
use Rattle.block_port.proofs.PlacedLines.{are_history}
use Rattle.write_ring.specs.Handles.{IsAsPut, IsFilled, IsTiled}
use Rattle.write_ring.specs.Stock.{HasPut, rows_at}
use Rattle.write_ring.specs.declared.view.Part.{Part}
use Rattle.write_ring.specs.declared.view.Row.{Row}
use Rattle.write_ring.proofs.ClaimLists.{inside}
use Rattle.chronicle.specs.Views.{Past}
use Rattle.pblk_engine.specs.Hearts.{ring_row}
use Rattle.prefix_law.proofs.Among.{behind}
use Rattle.block_target.specs.Closes.{IsKept, joined, writes_from}
use Rattle.block_target.specs.Sessions.{SessionView, history_lines, line_of, row_of}
use Rattle.block_target.proofs.ClosingParts.{among_get, claims_are, get_among, line_put, put_line}
use Rattle.block_port.proofs.PlacedLines.{rise_from}

-- ---- rows at one position

counted : (rs : List Row) (r : Row) → IsAmong rs r → 1 ≤ rows_at r.position rs
counted [] r (k, there) = absurd (none-some r there)
counted (s ∷ rs) r (zero, there) =
    let here : between s.position (s.position + 1) r.position ≡ 1 =
    ap (λ (x : Row). between s.position (s.position + 1) x.position) (sym (same_Some s r there))
    ∙ inside s.position s.position (s.position + 1) (omega arith) (omega arith) in
    omega arith
counted (s ∷ rs) r (suc k, there) = let rest : 1 ≤ rows_at r.position rs = counted rs r (k, there) in omega arith

one_row : (rs : List Row) (r s : Row) → IsAmong rs r → IsAmong rs s → r.position ≡ s.position → rows_at r.position rs ≤ 1 → r ≡ s
one_row [] r s (k, there) other same most = absurd (none-some r there)
one_row (x ∷ rs) r s (zero, there) (zero, at) same most = sym (same_Some x r there) ∙ same_Some x s at
one_row (x ∷ rs) r s (zero, there) (suc k, at) same most =
    let more : 1 ≤ rows_at s.position rs = counted rs s (k, at) in
    let is : rows_at s.position rs ≡ rows_at r.position rs = ap (λ p. rows_at p rs) (sym same) in
    let here : between x.position (x.position + 1) r.position ≡ 1 =
    ap (λ (y : Row). between x.position (x.position + 1) y.position) (sym (same_Some x r there))
    ∙ inside x.position x.position (x.position + 1) (omega arith) (omega arith) in
    absurd (omega arith)
one_row (x ∷ rs) r s (suc j, there) (zero, at) same most =
    let more : 1 ≤ rows_at r.position rs = counted rs r (j, there) in
    let here : between x.position (x.position + 1) r.position ≡ 1 =
    ap (between x.position (x.position + 1)) (same ∙ ap (λ (y : Row). y.position) (sym (same_Some x s at)))
    ∙ inside x.position x.position (x.position + 1) (omega arith) (omega arith) in
    absurd (omega arith)
one_row (x ∷ rs) r s (suc j, there) (suc k, at) same most = one_row rs r s (j, there) (k, at) same (omega arith)

-- ---- users' entries of numbered takes

abbrev lines_in : List Taken → List PlacedSector
lines_in ts = map line_of (filter (λ t. is_users t.entry.source) ts)

abbrev often : ℕ → List Taken → ℕ
often x ts = times x (positions (lines_in ts))

abbrev AreFrom : ℕ → List Taken → Type 0
AreFrom from ts = (k : ℕ) (t : Taken) → slice_get ts k ≡ Some t → t.entry.position ≡ from + k

rest_from : (from : ℕ) (t : Taken) (ts : List Taken) → AreFrom from (t ∷ ts) → AreFrom (from + 1) ts
rest_from from t ts at k u there = at (suc k) u there ∙ (let e : from + suc k ≡ from + 1 + k = omega arith in e)

first_from : (from : ℕ) (t : Taken) (ts : List Taken) → AreFrom from (t ∷ ts) → t.entry.position ≡ from
first_from from t ts at = at 0 t refl ∙ (let e : from + 0 ≡ from = omega arith in e)

-- the first of them counts where it is a user's
often_first : (x : ℕ) (t : Taken) (ts : List Taken)
    → often x (t ∷ ts) ≡ cond (is_users t.entry.source) (between t.entry.position (t.entry.position + 1) x) 0 + often x ts
often_first x t ts = go (is_users t.entry.source)
  where
    go : (b : Bool) → times x (positions (map line_of (cond b (t ∷ filter (λ t. is_users t.entry.source) ts) (filter (λ t. is_users t.entry.source) ts))))
        ≡ cond b (between t.entry.position (t.entry.position + 1) x) 0 + often x ts
    go true = refl
    go false = let e : often x ts ≡ 0 + often x ts = omega arith in e

outside : (p x : ℕ) → (x < p) ⊎ (p < x) → between p (p + 1) x ≡ 0
outside p x (inl below) = Rattle.block_port.proofs.Rising.before p (p + 1) x below
outside p x (inr above) = Rattle.block_port.proofs.Rising.behind p (p + 1) x (omega arith)

no_more : (b : Bool) (n : ℕ) → n ≡ 0 → cond b n 0 ≡ 0
no_more true n none = none
no_more false n none = refl

often_outside : (ts : List Taken) (from x : ℕ) → AreFrom from ts → (x < from) ⊎ (from + length ts ≤ x) → often x ts ≡ 0
often_outside [] from x at out = refl
often_outside (t ∷ ts) from x at out =
    let here : t.entry.position ≡ from = first_from from t ts at in
    let first : between t.entry.position (t.entry.position + 1) x ≡ 0 = outside t.entry.position x (by here out) in
    let none : cond (is_users t.entry.source) (between t.entry.position (t.entry.position + 1) x) 0 ≡ 0 = no_more (is_users t.entry.source) _ first in
    let rest : often x ts ≡ 0 = often_outside ts (from + 1) x (rest_from from t ts at) (next out) in
    let all : often x (t ∷ ts) ≡ cond (is_users t.entry.source) (between t.entry.position (t.entry.position + 1) x) 0 + often x ts = often_first x t ts in
    omega arith
  where
    by : t.entry.position ≡ from → (x < from) ⊎ (from + suc (length ts) ≤ x) → (x < t.entry.position) ⊎ (t.entry.position < x)
    by here (inl below) = inl (omega arith)
    by here (inr above) = inr (omega arith)

    next : (x < from) ⊎ (from + suc (length ts) ≤ x) → (x < from + 1) ⊎ (from + 1 + length ts ≤ x)
    next (inl below) = inl (omega arith)
    next (inr above) = inr (omega arith)

-- a position that was taken is a line's where its entry is a user's
often_at : (ts : List Taken) (from k : ℕ) (t : Taken) → AreFrom from ts → slice_get ts k ≡ Some t
    → often (from + k) ts ≡ cond (is_users t.entry.source) 1 0
often_at [] from k t at there = absurd (none-some t there)
often_at (u ∷ ts) from zero t at there =
    let same : u ≡ t = same_Some u t there in
    let zero_is : from + 0 ≡ from = omega arith in
    let here : u.entry.position ≡ from = first_from from u ts at in
    let one : between u.entry.position (u.entry.position + 1) from ≡ 1 =
    inside from u.entry.position (u.entry.position + 1) (omega arith) (omega arith) in
    let rest : often from ts ≡ 0 = often_outside ts (from + 1) from (rest_from from u ts at) (inl (omega arith)) in
    ap (λ n. often n (u ∷ ts)) zero_is ∙ often_first from u ts
    ∙ ap₂ (λ n m. cond (is_users u.entry.source) n 0 + m) one rest
    ∙ (let none : cond (is_users u.entry.source) 1 0 + 0 ≡ cond (is_users u.entry.source) 1 0 = omega arith in none)
    ∙ ap (λ (v : Taken). cond (is_users v.entry.source) 1 0) same
often_at (u ∷ ts) from (suc k) t at there =
    let moved : from + suc k ≡ from + 1 + k = omega arith in
    let here : u.entry.position ≡ from = first_from from u ts at in
    let first : between u.entry.position (u.entry.position + 1) (from + 1 + k) ≡ 0 = outside u.entry.position (from + 1 + k) (inr (omega arith)) in
    let none : cond (is_users u.entry.source) (between u.entry.position (u.entry.position + 1) (from + 1 + k)) 0 ≡ 0 =
    no_more (is_users u.entry.source) _ first in
    let rest : often (from + 1 + k) ts ≡ cond (is_users t.entry.source) 1 0 = often_at ts (from + 1) k t (rest_from from u ts at) there in
    ap (λ n. often n (u ∷ ts)) moved ∙ often_first (from + 1 + k) u ts ∙ ap₂ (λ n m. n + m) none rest
    ∙ (let e : 0 + cond (is_users t.entry.source) 1 0 ≡ cond (is_users t.entry.source) 1 0 = omega arith in e)

pub rise_of : (ts : List Taken) (from : ℕ) → AreFrom from ts → Rise from (from + length ts) (lines_in ts)
rise_of [] from at = omega arith
rise_of (t ∷ ts) from at =
    let to : from + 1 + length ts ≡ from + length (t ∷ ts) = omega arith in
    go (first_from from t ts at) (subst (λ n. Rise (from + 1) n (lines_in ts)) to (rise_of ts (from + 1) (rest_from from t ts at)))
    (is_users t.entry.source)
  where
    go : t.entry.position ≡ from → Rise (from + 1) (from + length (t ∷ ts)) (lines_in ts) → (b : Bool)
        → Rise from (from + length (t ∷ ts)) (map line_of (cond b (t ∷ filter (λ t. is_users t.entry.source) ts) (filter (λ t. is_users t.entry.source) ts)))
    go here rest true = (
      omega (arith, here),
      subst (λ n. Rise (n + 1) (from + length (t ∷ ts)) (lines_in ts)) (sym here) rest,
    )
    go here rest false = rise_from from (from + 1) (from + length (t ∷ ts)) (lines_in ts) (omega arith) rest

-- ---- lists

among_filter : {X : Type 0} (p : X → Bool) (xs : List X) (x : X) → p x ≡ true → IsAmong xs x → IsAmong (filter p xs) x
among_filter p [] x is (k, there) = absurd (none-some x there)
among_filter p (y ∷ xs) x is (zero, there) =
    let passes : p y ≡ true = ap p (same_Some y x there) ∙ is in
    subst (λ b. IsAmong (cond b (y ∷ filter p xs) (filter p xs)) x) (sym passes) (0, there)
among_filter p (y ∷ xs) x is (suc k, there) = go (p y) (among_filter p xs x is (k, there))
  where
    go : (b : Bool) → IsAmong (filter p xs) x → IsAmong (cond b (y ∷ filter p xs) (filter p xs)) x
    go true (j, at) = (suc j, at)
    go false at = at

among_passed : {X : Type 0} (p : X → Bool) (xs : List X) (x : X) → IsAmong (filter p xs) x → IsAmong xs x × (p x ≡ true)
among_passed p [] x (k, there) = absurd (none-some x there)
among_passed p (y ∷ xs) x at = go (p y) refl (among_passed p xs x) at
  where
    go : (b : Bool) → p y ≡ b → (IsAmong (filter p xs) x → IsAmong xs x × (p x ≡ true)) → IsAmong (cond b (y ∷ filter p xs) (filter p xs)) x
        → IsAmong (y ∷ xs) x × (p x ≡ true)
    go true is rest (zero, there) = ((0, there), ap p (sym (same_Some y x there)) ∙ is)
    go true is rest (suc k, there) = let was = rest (k, there) in ((suc was.0.0, was.0.1), was.1)
    go false is rest there = let was = rest there in ((suc was.0.0, was.0.1), was.1)

-- the line that a row is
abbrev line_in : Row → PlacedSector
line_in r = record { position = r.position; write = record { lba = r.lba; sector = r.sector } }

not_some : (o : Option Source) → is_users o ≡ true → is_some o ≡ false
not_some None is = refl
not_some (Some s) is = absurd cc

is_copy : (o : Option Source) → is_users o ≡ false → is_some o ≡ true
is_copy None is = absurd cc
is_copy (Some s) is = refl

-- ---- a closed world

module _ (log : List Logged) (first : ℕ) (first_is : first_position log ≡ first) (numbered : AreNumbered log) (took : List Row)
    (takes_are : took ≡ map ring_row (takes log)) (pass copies : Part) (as_put : IsAsPut first took pass copies) (tiled : IsTiled first pass copies)
    (filled : IsFilled pass) (copies_filled : IsFilled copies) where
  pub from_first : AreFrom first (takes log)
  from_first k t there = numbered_at log k t numbered there ∙ ap (λ n. n + k) first_is

  pub upto : taken log ≡ first + length (takes log)
  upto = ap (λ n. n + length (takes log)) first_is

  put_as : (k : ℕ) (t : Taken) → slice_get (takes log) k ≡ Some t
      → ((ring_row t).copy ≡ false → HasPut (ring_row t) pass) × ((ring_row t).copy ≡ true → HasPut (ring_row t) copies)
  put_as k t there =
      let was = as_put k (ring_row t)
      (among_get took k (ring_row t) (ap (λ (rs : List Row). slice_get rs k) takes_are ∙ get_mapped ring_row (takes log) k t there)) in
      (was.1, was.2)

  at_most : (x : ℕ) → covers x pass.claims + covers x copies.claims ≤ 1
  at_most x = let is : covers x pass.claims + covers x copies.claims ≡ between first tiled.0 x = tiled.1 x in
      let most : between first tiled.0 x ≤ 1 = Rattle.block_port.proofs.Rising.at_most first tiled.0 x in omega arith

  below_none : (x : ℕ) → x < first → covers x pass.claims ≡ 0
  below_none x low = let is : covers x pass.claims + covers x copies.claims ≡ between first tiled.0 x = tiled.1 x in
      let none : between first tiled.0 x ≡ 0 = Rattle.block_port.proofs.Rising.before first tiled.0 x low in omega arith

  claimed_at : (k : ℕ) (t : Taken) → slice_get (takes log) k ≡ Some t → covers (first + k) pass.claims ≡ cond (is_users t.entry.source) 1 0
  claimed_at k t there = by (is_users t.entry.source) refl
    where
      at : t.entry.position ≡ first + k
      at = from_first k t there

      once : covers (first + k) pass.claims + covers (first + k) copies.claims ≤ 1
      once = at_most (first + k)

      counts : (part : Part) → HasPut (ring_row t) part → IsFilled part → 1 ≤ covers (first + k) part.claims
      counts part put all =
          let some_rows : 1 ≤ rows_at t.entry.position part.puts = counted part.puts (ring_row t) (get_among part.puts put.0 (ring_row t) put.1) in
          let same : rows_at t.entry.position part.puts ≡ covers (first + k) part.claims =
          ap (λ p. rows_at p part.puts) at ∙ all.0 (first + k) in
          omega arith

      by : (b : Bool) → is_users t.entry.source ≡ b → covers (first + k) pass.claims ≡ cond b 1 0
      by true own =
          let most : covers (first + k) pass.claims + covers (first + k) copies.claims ≤ 1 = once in
          let some_own : 1 ≤ covers (first + k) pass.claims = counts pass ((put_as k t there).0 (not_some t.entry.source own)) filled in
          omega arith
      by false other =
          let most : covers (first + k) pass.claims + covers (first + k) copies.claims ≤ 1 = once in
          let some_other : 1 ≤ covers (first + k) copies.claims = counts copies ((put_as k t there).1 (is_copy t.entry.source other)) copies_filled in
          omega arith

  -- each line of the history was put by the pass
  pub line_was_put : (line : PlacedSector) → IsAmong (history_lines log) line → (r : Row) × IsAmong pass.puts r × (line_in r ≡ line)
  line_was_put line at =
      let was = from_map line_of (user_takes log) line at in
      let passed = among_passed (λ (t : Taken). is_users t.entry.source) (takes log) was.0 was.1 in
      let put = (put_as passed.0.0 was.0 passed.0.1).0 (not_some was.0.entry.source passed.1) in
      (ring_row was.0, get_among pass.puts put.0 (ring_row was.0) put.1, was.2)

  module _ (all : (x : ℕ) → taken log ≤ x → covers x pass.claims ≡ 0) where
    -- a position is claimed by users as often as it is a line's
    pub claimed_once : (x : ℕ) → covers x pass.claims ≡ times x (positions (history_lines log))
    claimed_once x = go (cases_lt x first) (cases_lt x (taken log))
      where
        go : (x < first) ⊎ (first ≤ x) → (x < taken log) ⊎ (taken log ≤ x) → covers x pass.claims ≡ often x (takes log)
        go (inl low) other = below_none x low ∙ sym (often_outside (takes log) first x from_first (inl low))
        go (inr from) (inr past) = all x past
            ∙ sym (often_outside (takes log) first x from_first (inr (let e : taken log ≡ first + length (takes log) = upto in omega arith)))
        go (inr from) (inl low) =
            let e : taken log ≡ first + length (takes log) = upto in
            let got = got_within (takes log) (x - first) (omega arith) in
            let at : first + (x - first) ≡ x = omega arith in
            ap (λ n. covers n pass.claims) (sym at) ∙ claimed_at (x - first) got.0 got.1
            ∙ sym (often_at (takes log) first (x - first) got.0 from_first got.1) ∙ ap (λ n. often n (takes log)) at

    -- a row that users put is a line of the history
    pub row_in_history : (r : Row) → IsAmong pass.puts r → IsAmong (history_lines log) (line_in r)
    row_in_history r put = go (cases_lt r.position first) (cases_lt r.position (taken log))
      where
        some_claim : 1 ≤ covers r.position pass.claims
        some_claim = let rows : 1 ≤ rows_at r.position pass.puts = counted pass.puts r put in
            let same : rows_at r.position pass.puts ≡ covers r.position pass.claims = filled.0 r.position in omega arith

        most : rows_at r.position pass.puts ≤ 1
        most = let once : covers r.position pass.claims + covers r.position copies.claims ≤ 1 = at_most r.position in
            let same : rows_at r.position pass.puts ≡ covers r.position pass.claims = filled.0 r.position in omega arith

        user : (k : ℕ) (t : Taken) → slice_get (takes log) k ≡ Some t → r.position ≡ first + k → (b : Bool) → is_users t.entry.source ≡ b
            → IsAmong (history_lines log) (line_in r)
        user k t there at true own =
            let its = (put_as k t there).0 (not_some t.entry.source own) in
            let same : ring_row t ≡ r = sym (one_row pass.puts r (ring_row t) put (get_among pass.puts its.0 (ring_row t) its.1)
            (at ∙ sym (from_first k t there)) most) in
            subst (λ (x : Row). IsAmong (history_lines log) (line_in x)) same
            (in_map line_of (user_takes log) t (among_filter (λ (t : Taken). is_users t.entry.source) (takes log) t own (k, there)))
        user k t there at false other =
            let none : covers (first + k) pass.claims ≡ 0 = claimed_at k t there ∙ ap (λ b. cond b 1 0) other in
            let same : covers r.position pass.claims ≡ covers (first + k) pass.claims = ap (λ n. covers n pass.claims) at in
            let one : 1 ≤ covers r.position pass.claims = some_claim in
            absurd (omega arith)

        go : (r.position < first) ⊎ (first ≤ r.position) → (r.position < taken log) ⊎ (taken log ≤ r.position) → IsAmong (history_lines log) (line_in r)
        go (inl low) other =
            let one : 1 ≤ covers r.position pass.claims = some_claim in
            let none : covers r.position pass.claims ≡ 0 = below_none r.position low in absurd (omega arith)
        go (inr from) (inr past) =
            let one : 1 ≤ covers r.position pass.claims = some_claim in
            let none : covers r.position pass.claims ≡ 0 = all r.position past in absurd (omega arith)
        go (inr from) (inl low) =
            let e : taken log ≡ first + length (takes log) = upto in
            let got = got_within (takes log) (r.position - first) (omega arith) in
            user (r.position - first) got.0 got.1 (omega arith) (is_users got.0.entry.source) refl

-- ---- writes in their places

among_flat : (writes : List ThreadWrite) (w : ThreadWrite) (line : PlacedSector) → IsAmong writes w → IsAmong (lines_of w.write) line
    → IsAmong (all_lines writes) line
among_flat [] w line (k, there) at = absurd (none-some w there)
among_flat (v ∷ writes) w line (zero, there) at =
    among_more (lines_of v.write) (all_lines writes) line
    (subst (λ (x : ThreadWrite). IsAmong (lines_of x.write) line) (sym (same_Some v w there)) at)
among_flat (v ∷ writes) w line (suc k, there) at =
    behind (lines_of v.write) (all_lines writes) line (among_flat writes w line (k, there) at)

whole_own : (thread : ℕ) (own : List OwnWrite) → AllByRecursion (λ w. (1 ≤ w.place.count) × (length w.sectors ≡ w.place.count)) own
    → AllByRecursion HasItsSectors (map (λ w. record { thread = thread; write = w }) own)
whole_own thread [] whole = tt
whole_own thread (w ∷ own) whole = (whole.0.1, whole_own thread own whole.1)

whole_writes : (past : Past) (handed : List ModelUnit) (thread : ℕ) (ts : List SessionView) → AllByRecursion (IsKept past handed) ts
    → AllByRecursion HasItsSectors (writes_from thread ts)
whole_writes past handed thread [] kept = tt
whole_writes past handed thread (t ∷ ts) kept =
    all_append HasItsSectors (map (λ w. record { thread = thread; write = w }) t.own) (writes_from (suc thread) ts)
    (whole_own thread t.own kept.0.session.part.whole) (whole_writes past handed (suc thread) ts kept.1)

module _ (past : Past) (handed : List ModelUnit) (mine : Part) (ts : List SessionView) (no_claims : mine.claims ≡ []) (no_puts : mine.puts ≡ [])
    (kept : AllByRecursion (IsKept past handed) ts) (log : List Logged) (first : ℕ) (first_is : first_position log ≡ first) (numbered : AreNumbered log)
    (took : List Row) (takes_are : took ≡ map ring_row (takes log)) (copies : Part) (as_put : IsAsPut first took (joined mine ts) copies)
    (tiled : IsTiled first (joined mine ts) copies) (filled : IsFilled (joined mine ts)) (copies_filled : IsFilled copies) where
  -- each line of the history is a session's own
  pub from_sessions : (line : PlacedSector) → Contains (history_lines log) line → Contains (all_lines (writes_from 0 ts)) line
  from_sessions line there =
      let was = line_was_put log first first_is numbered took takes_are (joined mine ts) copies as_put tiled filled copies_filled line
      (among_contained (history_lines log) line there) in
      let own = put_line past handed mine ts 0 was.0 no_puts kept was.1 in
      contained_among (all_lines (writes_from 0 ts)) line
      (subst (IsAmong (all_lines (writes_from 0 ts))) (ap line_in own.2 ∙ was.2) own.1)

  -- and where all that was claimed was taken, the history is made of these
  pub all_history : ((x : ℕ) → taken log ≤ x → covers x (joined mine ts).claims ≡ 0) → history_lines log ≡ all_lines (by_place (writes_from 0 ts))
  all_history all =
      sym (are_history (writes_from 0 ts) (λ w there. all_contains HasItsSectors (writes_from 0 ts) w (whole_writes past handed 0 ts kept) there)
      (history_lines log) first (first + length (takes log))
      (rise_of (takes log) first (from_first log first first_is numbered took takes_are (joined mine ts) copies as_put tiled filled copies_filled))
      (λ x. sym (claims_are past handed mine ts x 0 no_claims kept)
      ∙ claimed_once log first first_is numbered took takes_are (joined mine ts) copies as_put tiled filled copies_filled all x)
      (λ w line there at. contained_among (history_lines log) line
      (row_in_history log first first_is numbered took takes_are (joined mine ts) copies as_put tiled filled copies_filled all (row_of line)
      (line_put past handed mine ts 0 line kept
      (among_flat (writes_from 0 ts) w line (among_contained (writes_from 0 ts) w there) (among_contained (lines_of w.write) line at))))))
