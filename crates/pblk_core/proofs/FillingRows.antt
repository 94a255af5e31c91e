-- The row of a line as entries are placed in it, have landed, or are in it no more, one after
-- another.
use Rattle.std.proofs.Common.{◌≡◌, ℕ, ◌+◌, ◌-◌, ◌<◌, ◌≤◌, ◌==◌, ◌&&◌, not, cond, suc, List, ◌∷◌, Bool, true, false, if◌then◌else◌, Some, None, Option, length, refl, sym, subst, ap, ◌∙◌, arith, length-set}
use Rattle.std.specs.Prelude.{slice_get, slice_set}
use Rattle.std.specs.List.{filter}
use Rattle.std.specs.Option.{is_some, option_map_or}
use Rattle.std.proofs.lemmas.Option.{same_Some}
use Rattle.pblk_model.specs.Marks.{void_lba}
use Rattle.line_table.specs.declared.row.Row.{Row}
use Rattle.line_table.specs.Rows.{Table, IsRow, Changes, lowered, noted}
use Rattle.line_table.proofs.Places.{get_set_same}
use Rattle.core_laws.specs.ChangedTables.{with_row, note_by}
use Rattle.core_laws.specs.PlacedEntries.{gained, lower_by, place_by}
use Rattle.core_laws.proofs.ChangedTables.{changed_is}
use Rattle.pblk_core.specs.declared.hold.Hold.{Hold}
use Rattle.pblk_core.specs.Entries.{note_hold, place_hold}
use Rattle.pblk_core.specs.Holds.{row_at}
use Rattle.pblk_core.specs.Losing.{is_live, live_among, lower_hold}
use Rattle.pblk_model.proofs.Parts.{got_within}

pub noted_once : (old new : Table) (line by : ℕ) → line < length old.rows → Changes old new line (noted by) → new ≡ with_row line (noted by) old
noted_once old new line by inside changes =
    let r = got_within old.rows line inside in
    changed_is old new line (noted by) r.0 r.1 changes

-- as many rows
set_rows : (t : Table) (line m : ℕ) (change : Row → Row) → m < length t.rows → m < length (with_row line change t).rows
set_rows t line m change inside = go (slice_get t.rows line)
  where
    go : (o : Option Row) → m < length (option_map_or (λ row. slice_set t.rows line (change row)) o t.rows)
    go None = inside
    go (Some row) = subst (λ n. m < n) (sym (length-set t.rows line (change row))) inside

pub noted_inside : (t : Table) (line m : ℕ) (h : Hold) → m < length t.rows → m < length (note_hold line t (Some h)).rows
noted_inside t line m h inside = go h.taker
  where
    go : (o : Option ℕ) → m < length (note_by o line t).rows
    go None = inside
    go (Some by) = set_rows t line m (noted by) inside

pub placed_inside : (t : Table) (line m : ℕ) (h : Hold) → m < length t.rows → m < length (place_hold line t (Some h)).rows
placed_inside t line m h inside = go (h.mark.lba == void_lba) h.taker
  where
    go : (b : Bool) (o : Option ℕ) → m < length (if b then t else place_by o line t).rows
    go true o = inside
    go false None = set_rows t line m gained inside
    go false (Some by) = inside

pub placed_room : (t : Table) (line : ℕ) (h : Hold) (n m : ℕ) → line < length t.rows → ((r : Row) → IsRow t line r → r.live + (n + 1) < m)
    → (row : Row) → IsRow (place_hold line t (Some h)) line row → row.live + n < m
placed_room t line h n m inside before row there = go (h.mark.lba == void_lba) h.taker there
  where
    go : (b : Bool) (o : Option ℕ) → IsRow (if b then t else place_by o line t) line row → row.live + n < m
    go true o there = let old : row.live + (n + 1) < m = before row there in omega arith
    go false (Some by) there = let old : row.live + (n + 1) < m = before row there in omega arith
    go false None there =
        let r = got_within t.rows line inside in
        let rows : (with_row line gained t).rows ≡ slice_set t.rows line (gained r.0) =
        ap (λ o. option_map_or (λ row. slice_set t.rows line (gained row)) o t.rows) r.1 in
        let is : Some row ≡ Some (gained r.0) = sym there ∙ ap (λ rows. slice_get rows line) rows ∙ get_set_same t.rows line line (gained r.0) refl inside in
        let live : row.live ≡ r.0.live + 1 = ap (λ (x : Row). x.live) (same_Some row (gained r.0) is) in
        let old : r.0.live + (n + 1) < m = before r.0 r.1 in
        omega arith

pub lowered_inside : (t : Table) (line m : ℕ) (h : Hold) → m < length t.rows → m < length (lower_hold line t (Some h)).rows
lowered_inside t line m h inside = go (h.mark.lba == void_lba) h.taker
  where
    go : (b : Bool) (o : Option ℕ) → m < length (if b then t else lower_by o line t).rows
    go true o = inside
    go false None = set_rows t line m lowered inside
    go false (Some by) = inside

-- a line that has so many live sectors as are live among some entries has those of the rest once
-- the first one is in it no more
pub lowered_some : (t : Table) (line : ℕ) (h : Hold) (q : ℕ) (qs : List ℕ) (rows : List Hold) → row_at rows q ≡ Some h → line < length t.rows
    → ((r : Row) → IsRow t line r → live_among rows (q ∷ qs) ≤ r.live)
    → (row : Row) → IsRow (lower_hold line t (Some h)) line row → live_among rows qs ≤ row.live
lowered_some t line h q qs rows its inside before row there = go (h.mark.lba == void_lba) h.taker first there
  where
    n : ℕ
    n = live_among rows qs

    first : (r : Row) → IsRow t line r → length (cond (not (h.mark.lba == void_lba) && not (is_some h.taker)) (q ∷ filter (λ p. option_map_or is_live
        (row_at rows p) false) qs) (filter (λ p. option_map_or is_live (row_at rows p) false) qs)) ≤ r.live
    first r is = subst (λ b. length (cond b (q ∷ filter (λ p. option_map_or is_live (row_at rows p) false) qs)
        (filter (λ p. option_map_or is_live (row_at rows p) false) qs)) ≤ r.live) (ap (λ o. option_map_or is_live o false) its) (before r is)

    go : (b : Bool) (o : Option ℕ) → ((r : Row) → IsRow t line r → length (cond (not b && not (is_some o)) (q ∷ filter (λ p. option_map_or is_live
        (row_at rows p) false) qs) (filter (λ p. option_map_or is_live (row_at rows p) false) qs)) ≤ r.live)
        → IsRow (if b then t else lower_by o line t) line row → live_among rows qs ≤ row.live
    go true o all there = all row there
    go false (Some by) all there = all row there
    go false None all there =
        let r = got_within t.rows line inside in
        let new : (with_row line lowered t).rows ≡ slice_set t.rows line (lowered r.0) =
        ap (λ o. option_map_or (λ row. slice_set t.rows line (lowered row)) o t.rows) r.1 in
        let is : Some row ≡ Some (lowered r.0) = sym there ∙ ap (λ rows. slice_get rows line) new ∙ get_set_same t.rows line line (lowered r.0) refl inside in
        let live : row.live ≡ r.0.live - 1 = ap (λ (x : Row). x.live) (same_Some row (lowered r.0) is) in
        let old : suc (length (filter (λ p. option_map_or is_live (row_at rows p) false) qs)) ≤ r.0.live = all r.0 r.1 in
        omega arith
