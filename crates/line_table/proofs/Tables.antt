-- Rows that change, and what the rows come to.
use Rattle.std.proofs.Common.{◌≡◌, ◌≢◌, ℕ, ◌+◌, ◌*◌, ◌<◌, ◌≤◌, ◌^◌, zero, suc, Bool, true, false, cond, eqb, not, ◌&&◌, Option, Some, None, List, [], ◌∷◌, length, refl, sym, ap, ap₂, subst, ◌∙◌, arith, sum_by, length-set}
use Rattle.std.proofs.lemmas.Bool.{eqb-true, eqb-false}
use Rattle.std.proofs.Math.Bool.{and-false}
use Rattle.std.proofs.lemmas.Bool.Decides.{nat_tests}
use Rattle.std.proofs.lemmas.Option.{same_Some, slice_get_within, get_or_from_slice_get}
use Rattle.std.proofs.lemmas.List.Sums.{sum_by-set, sum_by-cons}
use Rattle.std.specs.Prelude.{IfSome, IfNone, nat_lt}
use Rattle.std.specs.List.{slice_get, slice_set, slice_index_or, position, prefix_len}
use Rattle.std.specs.Option.{option_map_or}
use Rattle.pblk_model.specs.declared.shape.Shape.{Shape}
use Rattle.pblk_model.specs.Shape.{units}
use Rattle.pblk_model.specs.LineOrder.{data_len}
use Rattle.line_table.specs.declared.row.LineState.{LineState}
use Rattle.line_table.specs.declared.row.LineState.TheVariants.{Free}
use Rattle.line_table.specs.declared.row.Row.{Row}
use Rattle.line_table.specs.Rows.{Table, IsFreeLine, IsOutlivedLine, Changes, latest, noted, kept, turned, is_free, is_free_state, is_free_at, is_full_or_failed, is_outlived, is_outlived_at, free_len}
use Rattle.line_table.specs.LineSets.{has}
use Rattle.line_table.specs.Inside.{Keeps}
use Rattle.line_table.proofs.Places.{get_set_same, get_set_other, set_twice, some_isnt_zero}
use Rattle.line_table.proofs.RowsLemmas.{free_state}

-- a sum with one term changed
pub sum_changed : (f : Row → ℕ) (rows : List Row) (i : ℕ) (old new : Row) → slice_get rows i ≡ Some old
    → sum_by f (slice_set rows i new) + f old ≡ sum_by f rows + f new
sum_changed f rows i old new h =
    let old-is : f (slice_index_or rows i old) ≡ f old = ap f (get_or_from_slice_get rows i old old h) in
    omega (arith, sum_by-set f rows i new old (slice_get_within rows i old h))

-- terms below a bound
pub sum_below : (f : Row → ℕ) (rows : List Row) (b : ℕ) → ((n : ℕ) (row : Row) → slice_get rows n ≡ Some row → f row < b) → sum_by f rows ≤ length rows * b
sum_below f [] b h = omega arith
sum_below f (row ∷ rows) b h =
    let first : f row < b = h 0 row refl in
    let rest : sum_by f rows ≤ length rows * b = sum_below f rows b (λ n r there. h (suc n) r there) in
    omega (arith, sum_by-cons f row rows)

-- a term is at most the sum
pub term_within : (f : Row → ℕ) (rows : List Row) (i : ℕ) (row : Row) → slice_get rows i ≡ Some row → f row ≤ sum_by f rows
term_within f (r ∷ rows) zero row h =
    let same : f r ≡ f row = ap f (same_Some r row h) in
    omega (arith, sum_by-cons f r rows)
term_within f (r ∷ rows) (suc i) row h = omega (arith, sum_by-cons f r rows, term_within f rows i row h)
term_within f [] i row h = absurd cc

-- ---- what a table keeps

same_len : (s : Shape) (old new : Row) → new.state ≡ old.state → new.width ≡ old.width → free_len s new ≡ free_len s old
unfolding free_len
same_len s old new state width = ap (λ st. cond (is_free_state st) (data_len s new.width) 0) state
    ∙ ap (λ w. cond (is_free_state old.state) (data_len s w) 0) width

-- by whether a place is that of the changed row
by_place : (rows : List Row) (i n : ℕ) (new row : Row) (P : Row → Type 0) → i < length rows → slice_get (slice_set rows i new) n ≡ Some row → P new
    → (slice_get rows n ≡ Some row → P row) → P row
by_place rows i n new row P inside h here there =
    elim (eqb n i) as (λ b. eqb n i ≡ b → P row) [
      | true ↦ λ e. subst P (same_Some new row (sym (get_set_same rows i n new (eqb-true n i e) inside) ∙ h)) here
      | false ↦ λ e. there (sym (get_set_other rows i n new (eqb-false n i e)) ∙ h)
    ] refl

-- whether something holds of the row of a line
abbrev holds_at : (Row → Bool) → List Row → ℕ → Bool
holds_at p rows line = option_map_or p (slice_get rows line) false

-- a set of the lines of which it holds
set_changed : (p : Row → Bool) (rows : List Row) (i n : ℕ) (new : Row) (before after : List ℕ) → i < length rows → has after i ≡ p new
    → ((m : ℕ) → m ≢ i → has after m ≡ has before m) → ((m : ℕ) → has before m ≡ holds_at p rows m)
    → has after n ≡ holds_at p (slice_set rows i new) n
set_changed p rows i n new before after inside here others those =
    elim (eqb n i) as (λ b. eqb n i ≡ b → has after n ≡ holds_at p (slice_set rows i new) n) [
      | true ↦ λ e.
          let same : n ≡ i = eqb-true n i e in
          ap (has after) same ∙ here ∙ sym (ap (λ o. option_map_or p o false) (get_set_same rows i n new same inside))
      | false ↦ λ e.
          let apart : n ≢ i = eqb-false n i e in
          others n apart ∙ those n ∙ sym (ap (λ o. option_map_or p o false) (get_set_other rows i n new apart))
    ] refl

-- with a row changed
pub keeps_changed : (s : Shape) (before after over over_after : List ℕ) (addresses new_addresses : ℕ) (rows : List Row) (i : ℕ) (old new : Row)
    → Keeps s before over addresses rows → slice_get rows i ≡ Some old
    → new.width ≤ units s → free_len s new < 2 ^ 32 → has after i ≡ is_free new → ((m : ℕ) → m ≢ i → has after m ≡ has before m)
    → has over_after i ≡ is_outlived new → ((m : ℕ) → m ≢ i → has over_after m ≡ has over m)
    → new_addresses + free_len s old ≡ addresses + free_len s new
    → Keeps s after over_after new_addresses (slice_set rows i new)
keeps_changed s before after over over_after addresses new_addresses rows i old new keeps h width short here others over_here over_others sum =
    let inside : i < length rows = slice_get_within rows i old h in
    record {
      few = omega (arith, length-set rows i new, keeps.few);
      widths = λ n row there. by_place rows i n new row (λ r. r.width ≤ units s) inside there width (keeps.widths n row);
      short = λ n row there. by_place rows i n new row (λ r. free_len s r < 2 ^ 32) inside there short (keeps.short n row);
      free = λ n. set_changed is_free rows i n new before after inside here others keeps.free;
      outlived = λ n. set_changed is_outlived rows i n new over over_after inside over_here over_others keeps.outlived;
      addresses = omega (arith, sum_changed (free_len s) rows i old new h, keeps.addresses);
    }

-- with a row changed that keeps its state and width
pub keeps_counted : (s : Shape) (words over over_after : List ℕ) (addresses : ℕ) (rows : List Row) (i : ℕ) (old new : Row)
    → Keeps s words over addresses rows → slice_get rows i ≡ Some old → new.state ≡ old.state → new.width ≡ old.width
    → has over_after i ≡ is_outlived new → ((m : ℕ) → m ≢ i → has over_after m ≡ has over m)
    → Keeps s words over_after addresses (slice_set rows i new)
keeps_counted s words over over_after addresses rows i old new keeps h state width over_here over_others =
    let len : free_len s new ≡ free_len s old = same_len s old new state width in
    let width-was : old.width ≤ units s = keeps.widths i old h in
    let len-was : free_len s old < 2 ^ 32 = keeps.short i old h in
    keeps_changed s words words over over_after addresses addresses rows i old new keeps h (omega arith) (omega arith)
    (keeps.free i ∙ ap (λ o. option_map_or is_free o false) h ∙ sym (ap is_free_state state)) (λ m other. refl) over_here over_others (omega arith)

-- and its live sectors
pub keeps_same : (s : Shape) (words over : List ℕ) (addresses : ℕ) (rows : List Row) (i : ℕ) (old new : Row) → Keeps s words over addresses rows
    → slice_get rows i ≡ Some old → new.state ≡ old.state → new.width ≡ old.width → new.live ≡ old.live
    → Keeps s words over addresses (slice_set rows i new)
keeps_same s words over addresses rows i old new keeps h state width live =
    let same : is_outlived new ≡ is_outlived old = ap₂ (λ st n. is_full_or_failed st && eqb n 0) state live in
    keeps_counted s words over over addresses rows i old new keeps h state width
    (keeps.outlived i ∙ ap (λ o. option_map_or is_outlived o false) h ∙ sym same) (λ m other. refl)

-- a line with live sectors isn't outlived
pub live_left : (state : LineState) (live : ℕ) → 0 < live → is_full_or_failed state && eqb live 0 ≡ false
live_left state live some =
    let left : live ≢ 0 = λ none. absurd (omega (arith, none)) in
    ap (λ b. is_full_or_failed state && b) (some_isnt_zero live left) ∙ and-false (is_full_or_failed state)

-- ---- the least Free line

first_at : (rows : List Row) (n : ℕ) → is_free_at rows n ≡ true → ((m : ℕ) → m < n → is_free_at rows m ≡ false)
    → (prefix_len (λ r. not (is_free r)) rows ≡ n) × (n < length rows)
first_at [] n h before = absurd cc
first_at (r ∷ rows) zero h before = (ap (λ b. cond (not b) (1 + prefix_len (λ r. not (is_free r)) rows) 0) h, omega arith)
first_at (r ∷ rows) (suc n) h before =
    let rest : (prefix_len (λ r. not (is_free r)) rows ≡ n) × (n < length rows) = first_at rows n h (λ m below. before (suc m) (omega arith)) in
    let here : is_free r ≡ false = before 0 (omega arith) in
    (ap (λ b. cond (not b) (1 + prefix_len (λ r. not (is_free r)) rows) 0) here ∙ omega (arith, rest.0), omega (arith, rest.1))

none_at : (rows : List Row) → ((m : ℕ) → is_free_at rows m ≡ false) → prefix_len (λ r. not (is_free r)) rows ≡ length rows
none_at [] h = refl
none_at (r ∷ rows) h =
    let rest : prefix_len (λ r. not (is_free r)) rows ≡ length rows = none_at rows (λ m. h (suc m)) in
    ap (λ b. cond (not b) (1 + prefix_len (λ r. not (is_free r)) rows) 0) (h 0) ∙ omega arith

-- the row of a line of which something holds
row_where : (p : Row → Bool) (rows : List Row) (n : ℕ) → holds_at p rows n ≡ true → (row : Row) × (slice_get rows n ≡ Some row) × (p row ≡ true)
row_where p [] n e = absurd cc
row_where p (r ∷ rows) zero e = (r, refl, e)
row_where p (r ∷ rows) (suc n) e = row_where p rows n e

-- the row of a line that is Free
free_row : (rows : List Row) (n : ℕ) → is_free_at rows n ≡ true → (row : Row) × (slice_get rows n ≡ Some row) × (row.state ≡ Free)
free_row rows n e =
    let there = row_where is_free rows n e in
    (there.0, there.1, free_state there.0.state there.2)

pub least_is_free : (t : Table) (rows : List Row) (words : List ℕ) (r : Option ℕ) → rows ≡ t.rows → ((n : ℕ) → has words n ≡ is_free_at rows n)
    → IfSome r (λ n. has words n ≡ true) → IfSome r (IsFreeLine t)
least_is_free t rows words None same free found = tt
least_is_free t rows words (Some n) same free found = free_row t.rows n (ap (λ (xs : List Row). is_free_at xs n) (sym same) ∙ sym (free n) ∙ found)

pub least_is_position : (rows : List Row) (words : List ℕ) (r : Option ℕ) → ((n : ℕ) → has words n ≡ is_free_at rows n)
    → IfSome r (λ n. has words n ≡ true) → IfSome r (λ n. (m : ℕ) → m < n → has words m ≡ false) → IfNone r ((m : ℕ) → has words m ≡ false)
    → r ≡ position is_free rows
least_is_position rows words (Some n) free found least none =
    let first : (prefix_len (λ r. not (is_free r)) rows ≡ n) × (n < length rows) =
    first_at rows n (sym (free n) ∙ found) (λ m below. sym (free m) ∙ least m below) in
    let inside : nat_lt n (length rows) ≡ true = grind (arith, nat_tests, first.1) in
    sym (ap (λ k. cond (nat_lt k (length rows)) (Some k) None) first.0 ∙ ap (λ b. cond b (Some n) None) inside)
least_is_position rows words None free found least none =
    let all : prefix_len (λ r. not (is_free r)) rows ≡ length rows = none_at rows (λ m. sym (free m) ∙ none m) in
    let past : nat_lt (length rows) (length rows) ≡ false = grind (arith, nat_tests) in
    sym (ap (λ k. cond (nat_lt k (length rows)) (Some k) None) all ∙ ap (λ b. cond b (Some (length rows)) None) past)

-- ---- the lines outlived

module _ (t : Table) (rows : List Row) (over : List ℕ) (same : rows ≡ t.rows) (those : (n : ℕ) → has over n ≡ is_outlived_at rows n) where
  outlived_there : (n : ℕ) → has over n ≡ is_outlived_at t.rows n
  outlived_there n = those n ∙ ap (λ (xs : List Row). is_outlived_at xs n) same

  pub least_is_outlived : (r : Option ℕ) → IfSome r (λ n. has over n ≡ true) → IfSome r (IsOutlivedLine t)
  least_is_outlived None found = tt
  least_is_outlived (Some n) found = row_where is_outlived t.rows n (sym (outlived_there n) ∙ found)

  -- a line that isn't in the set
  pub not_outlived : (n : ℕ) → has over n ≡ false → ¬ IsOutlivedLine t n
  not_outlived n out line =
      let is : false ≡ true = sym out ∙ outlived_there n ∙ ap (λ o. option_map_or is_outlived o false) line.1 ∙ line.2 in
      absurd cc

  pub none_before : (from : ℕ) (r : Option ℕ) → IfSome r (λ n. (m : ℕ) → from ≤ m → m < n → has over m ≡ false)
      → IfSome r (λ n. (m : ℕ) → from ≤ m → m < n → ¬ IsOutlivedLine t m)
  none_before from None least = tt
  none_before from (Some n) least = λ m past below. not_outlived m (least m past below)

  pub none_outlived : (from : ℕ) (r : Option ℕ) → IfNone r ((m : ℕ) → from ≤ m → has over m ≡ false)
      → IfNone r ((m : ℕ) → from ≤ m → ¬ IsOutlivedLine t m)
  none_outlived from None none = λ m past. not_outlived m (none m past)
  none_outlived from (Some n) none = tt

-- ---- one change

pub changes_row : (t : Table) (s : Shape) (rows : List Row) (i : ℕ) (old new : Row) (change : Row → Row) → ◌≡◌ {A = Table} (record { shape = s; rows = rows }) t
    → slice_get rows i ≡ Some old → new ≡ change old
    → Changes t (record { shape = s; rows = slice_set rows i new }) i change
changes_row t s rows i old new change same here new-is = record {
  shape = ap (λ (u : Table). u.shape) same;
  lines = length-set rows i new ∙ ap (λ (u : Table). length u.rows) same;
  rows = λ row h.
      let rows-same : rows ≡ t.rows = ap (λ (u : Table). u.rows) same in
      let row-is : old ≡ row = same_Some old row (sym here ∙ ap (λ (xs : List Row). slice_get xs i) rows-same ∙ h) in
      ap (λ (xs : List Row). slice_set xs i new) rows-same ∙ ap (slice_set t.rows i) (new-is ∙ ap change row-is);
}

-- the data addresses of a line, if it is Free
pub len_of_free : (s : Shape) (row : Row) → is_free row ≡ true → free_len s row ≡ data_len s row.width
unfolding free_len
len_of_free s row e = ap (λ b. cond b (data_len s row.width) 0) e

pub len_of_other : (s : Shape) (row : Row) → is_free row ≡ false → free_len s row ≡ 0
unfolding free_len
len_of_other s row e = ap (λ b. cond b (data_len s row.width) 0) e

abbrev pub note_to : Row → ℕ → Row
note_to row n = record row { taker = Some n }

pub noted_is : (row : Row) (by n : ℕ) → n ≡ latest row.taker by → note_to row n ≡ noted by row
noted_is row by n e = ap (note_to row) e

-- a row that was changed once and then again
pub changed_twice : (old mid new : Table) (line : ℕ) (first then_ : Row → Row) → line < length old.rows → Changes old mid line first
    → Changes mid new line then_
    → Changes old new line (λ row. then_ (first row))
changed_twice old mid new line first then_ inside one two = record {
  shape = two.shape ∙ one.shape;
  lines = two.lines ∙ one.lines;
  rows = λ row there.
      let rows : mid.rows ≡ slice_set old.rows line (first row) = one.rows row there in
      let here : slice_get mid.rows line ≡ Some (first row) = ap (λ rs. slice_get rs line) rows ∙ get_set_same old.rows line line (first row) refl inside in
      two.rows (first row) here ∙ ap (λ rs. slice_set rs line (then_ (first row))) rows ∙ set_twice old.rows line (first row) (then_ (first row));
}

abbrev pub turn_to : LineState → ℕ → Row → Option ℕ → Row
turn_to to width row taker = record { state = to; width = width; live = row.live; taker = taker }

pub turned_is : (to : LineState) (width : ℕ) (row : Row) (taker : Option ℕ) → taker ≡ kept to row.taker → turn_to to width row taker ≡ turned to width row
turned_is to width row taker e = ap (turn_to to width row) e

-- one more row is short
pub short_more : (s : Shape) (rows : List Row) (k : ℕ) (d : Row) → free_len s (slice_index_or rows k d) < 2 ^ 32
    → ((n : ℕ) (row : Row) → n < k → slice_get rows n ≡ Some row → free_len s row < 2 ^ 32)
    → (n : ℕ) (row : Row) → n < k + 1 → slice_get rows n ≡ Some row → free_len s row < 2 ^ 32
short_more s rows k d here before n row below h =
    elim (eqb n k) as (λ b. eqb n k ≡ b → free_len s row < 2 ^ 32) [
      | true ↦ λ e.
          let at : slice_get rows k ≡ Some row = ap (slice_get rows) (sym (eqb-true n k e)) ∙ h in
          let row-is : free_len s (slice_index_or rows k d) ≡ free_len s row = ap (free_len s) (get_or_from_slice_get rows k row d at) in
          omega arith
      | false ↦ λ e.
          let apart : n ≢ k = eqb-false n k e in
          before n row (omega arith) h
    ] refl
