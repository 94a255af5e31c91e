-- How many winning records are in a line, and how many there are.
use Rattle.std.proofs.Common.{◌≡◌, ◌≢◌, ℕ, ◌+◌, ◌<◌, ◌≤◌, zero, suc, Bool, true, false, cond, eqb, Some, List, [], ◌∷◌, length, refl, sym, ap, subst, ◌∙◌, arith, length-set, drop}
use Rattle.std.proofs.Math.Seq.{drop-cons}
use Rattle.std.specs.List.{slice_get, slice_set, slice_index_or, filter}
use Rattle.pblk_model.specs.declared.found.Winner.{Winner}
use Rattle.line_table.specs.declared.row.Row.{Row}
use Rattle.line_table.specs.Opening.{live_count}
use Rattle.line_table.specs.Counting.{with_live, AreCounted}
use Rattle.std.proofs.lemmas.Bool.{eqb-true, eqb-false}
use Rattle.std.proofs.lemmas.Option.{same_Some, slice_get_within, slice_get-get_or}
use Rattle.line_table.proofs.Places.{get_set_same, get_set_other, get_within, eqb-same}

-- With some of the records left to count, what was counted and what is left are all.
pub record CountedSoFar (winners left : List Winner) (old now : List Row) : Type 0 where
  pub lines : length now ≡ length old
  pub each : (line : ℕ) (row : Row) → slice_get old line ≡ Some row
      → (n : ℕ) × (slice_get now line ≡ Some (with_live n row)) × (n + live_count left line ≡ live_count winners line)

length_kept : (b : Bool) (w : Winner) (ws : List Winner) → length (cond b (w ∷ ws) ws) ≡ cond b (length ws + 1) (length ws)
length_kept true w ws = omega arith
length_kept false w ws = refl

live_cons : (w : Winner) (ws : List Winner) (line : ℕ) → live_count (w ∷ ws) line ≡ cond (eqb w.line line) (live_count ws line + 1) (live_count ws line)
unfolding live_count
live_cons w ws line = length_kept (eqb w.line line) w (filter (λ (v : Winner). eqb v.line line) ws)

live_here : (w : Winner) (ws : List Winner) (line : ℕ) → eqb w.line line ≡ true → live_count (w ∷ ws) line ≡ live_count ws line + 1
live_here w ws line e = live_cons w ws line ∙ ap (λ b. cond b (live_count ws line + 1) (live_count ws line)) e

live_elsewhere : (w : Winner) (ws : List Winner) (line : ℕ) → eqb w.line line ≡ false → live_count (w ∷ ws) line ≡ live_count ws line
live_elsewhere w ws line e = live_cons w ws line ∙ ap (λ b. cond b (live_count ws line + 1) (live_count ws line)) e

cond_more : (b : Bool) (n : ℕ) → cond b (n + 1) n ≤ n + 1
cond_more true n = omega arith
cond_more false n = omega arith

-- no line has more than all
pub live_at_most : (ws : List Winner) (line : ℕ) → live_count ws line ≤ length ws
unfolding live_count
live_at_most [] line = omega arith
live_at_most (w ∷ ws) line = omega (arith, live_cons w ws line, cond_more (eqb w.line line) (live_count ws line), live_at_most ws line)

pub none_left : (line : ℕ) → live_count [] line ≡ 0
unfolding live_count
none_left line = refl

-- a record is counted
pub counted_more : (winners left : List Winner) (old now : List Row) (w : Winner) (row : Row) → CountedSoFar winners (w ∷ left) old now
    → slice_get now w.line ≡ Some row
    → CountedSoFar winners left old (slice_set now w.line (with_live (row.live + 1) row))
counted_more winners left old now w row so_far here = record {
  lines = length-set now w.line (with_live (row.live + 1) row) ∙ so_far.lines;
  each = λ line r h.
      let was : (n : ℕ) × (slice_get now line ≡ Some (with_live n r)) × (n + live_count (w ∷ left) line ≡ live_count winners line) = so_far.each line r h in
      elim (eqb w.line line) as (λ b. eqb w.line line ≡ b
      → (n : ℕ) × (slice_get (slice_set now w.line (with_live (row.live + 1) row)) line ≡ Some (with_live n r))
      × (n + live_count left line ≡ live_count winners line)) [
        | true ↦ λ e.
            let same : w.line ≡ line = eqb-true w.line line e in
            let row-is : row ≡ with_live was.0 r = same_Some row (with_live was.0 r) (sym here ∙ ap (slice_get now) same ∙ was.1) in
            let set : slice_get (slice_set now w.line (with_live (row.live + 1) row)) line ≡ Some (with_live (row.live + 1) row) =
            get_set_same now w.line line (with_live (row.live + 1) row) (sym same) (slice_get_within now w.line row here) in
            (was.0 + 1, set ∙ ap (λ (x : Row). Some (with_live (x.live + 1) x)) row-is, omega (arith, was.2, live_here w left line e))
        | false ↦ λ e.
            let apart : line ≢ w.line = λ is. eqb-false w.line line e (sym is) in
            (was.0, get_set_other now w.line line (with_live (row.live + 1) row) apart ∙ was.1, omega (arith, was.2, live_elsewhere w left line e))
      ] refl;
}

-- and there is room for it
pub counted_room : (winners left : List Winner) (old now : List Row) (w : Winner) (row r : Row) → CountedSoFar winners (w ∷ left) old now
    → slice_get old w.line ≡ Some r → slice_get now w.line ≡ Some row
    → row.live + 1 ≤ length winners
counted_room winners left old now w row r so_far before here =
    let was : (n : ℕ) × (slice_get now w.line ≡ Some (with_live n r)) × (n + live_count (w ∷ left) w.line ≡ live_count winners w.line) =
    so_far.each w.line r before in
    let row-is : row ≡ with_live was.0 r = same_Some row (with_live was.0 r) (sym here ∙ was.1) in
    let live-is : row.live ≡ was.0 = ap (λ (x : Row). x.live) row-is in
    let one : live_count (w ∷ left) w.line ≡ live_count left w.line + 1 = live_here w left w.line (eqb-same w.line) in
    omega (arith, was.2, live_at_most winners w.line)

-- all are counted
pub all_counted : (winners left : List Winner) (old now : List Row) → left ≡ [] → CountedSoFar winners left old now → AreCounted winners old now
all_counted winners left old now none so_far = record {
  lines = so_far.lines;
  each = λ line row h.
      let was : (n : ℕ) × (slice_get now line ≡ Some (with_live n row)) × (n + live_count left line ≡ live_count winners line) = so_far.each line row h in
      let zero_left : live_count left line ≡ 0 = ap (λ ws. live_count ws line) none ∙ none_left line in
      let n-is : was.0 ≡ live_count winners line = omega (arith, was.2) in
      was.1 ∙ ap (λ n. Some (with_live n row)) n-is;
}

-- ---- how many winning records there are

-- sectors that rise are at least as great as their places
rising : (ws : List Winner) → ((j k : ℕ) (v w : Winner) → j < k → slice_get ws j ≡ Some v → slice_get ws k ≡ Some w → v.lba < w.lba)
    → (k : ℕ) (w : Winner) → slice_get ws k ≡ Some w → k ≤ w.lba
rising ws rise zero w h = omega arith
rising ws rise (suc k) w h =
    let before : (v : Winner) × (slice_get ws k ≡ Some v) = get_within ws k (omega (arith, slice_get_within ws (suc k) w h)) in
    let one : k ≤ before.0.lba = rising ws rise k before.0 before.1 in
    let more : before.0.lba < w.lba = rise k (suc k) before.0 w (omega arith) before.1 h in
    omega arith

-- so that there are no more than sectors
pub few_winners : (ws : List Winner) (capacity : ℕ) → ((j k : ℕ) (v w : Winner) → j < k → slice_get ws j ≡ Some v → slice_get ws k ≡ Some w → v.lba < w.lba)
    → ((k : ℕ) (w : Winner) → slice_get ws k ≡ Some w → w.lba < capacity) → length ws ≤ capacity
few_winners ws capacity rise inside = by_length (length ws) refl where
  by_length : (n : ℕ) → n ≡ length ws → length ws ≤ capacity
  by_length zero e = omega arith
  by_length (suc n) e =
      let last : (w : Winner) × (slice_get ws n ≡ Some w) = get_within ws n (omega arith) in
      let one : n ≤ last.0.lba = rising ws rise n last.0 last.1 in
      let below : last.0.lba < capacity = inside n last.0 last.1 in
      omega arith

-- ---- the loop over the records

pub none_after : (ws : List Winner) (k : ℕ) → length ws ≤ k → drop k ws ≡ []
none_after [] zero h = refl
none_after [] (suc k) h = refl
none_after (w ∷ ws) zero h = absurd (omega arith)
none_after (w ∷ ws) (suc k) h = none_after ws k (omega arith)

-- the record at a place, and those behind it
at_next : (winners : List Winner) (old now : List Row) (k : ℕ) (d : Winner) → CountedSoFar winners (drop k winners) old now → k < length winners
    → CountedSoFar winners (slice_index_or winners k d ∷ drop (suc k) winners) old now
at_next winners old now k d so_far h = subst (λ left. CountedSoFar winners left old now) (drop-cons winners k d h) so_far

pub counted_fits : (winners : List Winner) (old now : List Row) (k : ℕ) (d : Winner) (r : Row) → CountedSoFar winners (drop k winners) old now
    → k < length winners
    → ((i : ℕ) (w : Winner) → slice_get winners i ≡ Some w → w.line < length old)
    → (slice_index_or now (slice_index_or winners k d).line r).live + 1 ≤ length winners
counted_fits winners old now k d r so_far h lines =
    let w = slice_index_or winners k d in
    let inside : w.line < length old = lines k w (slice_get-get_or winners k d h) in
    let before : (x : Row) × (slice_get old w.line ≡ Some x) = get_within old w.line inside in
    let here : slice_get now w.line ≡ Some (slice_index_or now w.line r) = slice_get-get_or now w.line r (omega (arith, so_far.lines)) in
    counted_room winners (drop (suc k) winners) old now w (slice_index_or now w.line r) before.0 (at_next winners old now k d so_far h) before.1 here

pub counted_next : (winners : List Winner) (old now : List Row) (k : ℕ) (d : Winner) (r : Row) → CountedSoFar winners (drop k winners) old now
    → k < length winners
    → ((i : ℕ) (w : Winner) → slice_get winners i ≡ Some w → w.line < length old)
    → CountedSoFar winners (drop (k + 1) winners) old
    (slice_set now (slice_index_or winners k d).line
    (with_live ((slice_index_or now (slice_index_or winners k d).line r).live + 1) (slice_index_or now (slice_index_or winners k d).line r)))
counted_next winners old now k d r so_far h lines =
    let w = slice_index_or winners k d in
    let inside : w.line < length old = lines k w (slice_get-get_or winners k d h) in
    let here : slice_get now w.line ≡ Some (slice_index_or now w.line r) = slice_get-get_or now w.line r (omega (arith, so_far.lines)) in
    let one : suc k ≡ k + 1 = omega arith in
    subst (λ n. CountedSoFar winners (drop n winners) old
    (slice_set now w.line (with_live ((slice_index_or now w.line r).live + 1) (slice_index_or now w.line r)))) one
    (counted_more winners (drop (suc k) winners) old now w (slice_index_or now w.line r) (at_next winners old now k d so_far h) here)
