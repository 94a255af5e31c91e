-- The table that the entries of a lost stripe leave is the one to which they came.
use Rattle.std.proofs.Common.{◌≡◌, ℕ, ◌+◌, ◌-◌, ◌≤◌, Bool, true, false, Some, None, Option, List, [], ◌∷◌, refl, sym, ap, ◌∙◌, arith}
use Rattle.std.specs.Prelude.{nat_lt, slice_get, slice_set, if◌then◌else◌}
use Rattle.std.specs.Option.{option_map_or}
use Rattle.std.proofs.lemmas.Option.{none-some, same_Some, slice_get_within}
use Rattle.pblk_world.specs.Events.{Logged}
use Rattle.pblk_world.specs.EngineLog.{Taken}
use Rattle.line_table.specs.declared.row.Row.{Row}
use Rattle.line_table.specs.Rows.{IsRow, Table}
use Rattle.line_table.proofs.Places.{set_twice}
use Rattle.core_laws.specs.ChangedTables.{with_row}
use Rattle.core_laws.specs.PlacedEntries.{taker_of, place_by, place_entry, place_entries, lower_by, lower_entry, lower_entries}
use Rattle.core_laws.proofs.ChangedTables.{same_table}
use Rattle.pblk_model.proofs.Parts.{get_set_same, set_same}

-- ---- a row changed twice

again_in : (line : ℕ) (f g : Row → Row) (t : Table) (o : Option Row) → slice_get t.rows line ≡ o
    → option_map_or (λ row. slice_set (option_map_or (λ row. slice_set t.rows line (g row)) o t.rows) line (f row))
    (slice_get (option_map_or (λ row. slice_set t.rows line (g row)) o t.rows) line) (option_map_or (λ row. slice_set t.rows line (g row)) o t.rows)
    ≡ option_map_or (λ row. slice_set t.rows line (f (g row))) o t.rows
again_in line f g t None e = ap (λ o. option_map_or (λ row. slice_set t.rows line (f row)) o t.rows) e
again_in line f g t (Some row) e =
    ap (λ o. option_map_or (λ r. slice_set (slice_set t.rows line (g row)) line (f r)) o (slice_set t.rows line (g row)))
    (get_set_same t.rows line (g row) (slice_get_within t.rows line row e))
    ∙ set_twice t.rows line (g row) (f (g row))

pub with_row_again : (line : ℕ) (f g : Row → Row) (t : Table) → with_row line f (with_row line g t) ≡ with_row line (λ row. f (g row)) t
with_row_again line f g t = same_table t.shape t.shape (with_row line f (with_row line g t)).rows (with_row line (λ row. f (g row)) t).rows refl
    (again_in line f g t (slice_get t.rows line) refl)

pub with_row_same : (line : ℕ) (f g : Row → Row) (t : Table) → ((row : Row) → f row ≡ g row) → with_row line f t ≡ with_row line g t
with_row_same line f g t same = same_table t.shape t.shape (with_row line f t).rows (with_row line g t).rows refl (go (slice_get t.rows line))
  where
    go : (o : Option Row) → option_map_or (λ row. slice_set t.rows line (f row)) o t.rows ≡ option_map_or (λ row. slice_set t.rows line (g row)) o t.rows
    go None = refl
    go (Some row) = ap (slice_set t.rows line) (same row)

with_row_stays : (line : ℕ) (t : Table) → with_row line (λ row. row) t ≡ t
with_row_stays line t = same_table t.shape t.shape (with_row line (λ row. row) t).rows t.rows refl (go (slice_get t.rows line) refl)
  where
    go : (o : Option Row) → slice_get t.rows line ≡ o → option_map_or (λ row. slice_set t.rows line row) o t.rows ≡ t.rows
    go None e = refl
    go (Some row) e = set_same t.rows line row e

-- ---- so many live ones more or fewer

abbrev more_live : ℕ → Row → Row
more_live n row = record row { live = row.live + n }

abbrev less_live : ℕ → Row → Row
less_live n row = record row { live = row.live - n }

live_is : (row : Row) (n m : ℕ) → n ≡ m → ◌≡◌ {A = Row} (record row { live = n }) (record row { live = m })
live_is row n m e = ap (λ (k : ℕ). record row { live = k }) e

-- whether a live one came with the entry
abbrev pub counted_by : Option ℕ → ℕ
counted_by None = 1
counted_by (Some later) = 0

abbrev pub counted_one : List Logged → ℕ → Taken → ℕ
counted_one log capacity t = if nat_lt t.mark.lba capacity then counted_by (taker_of log t) else 0

unfoldable pub counted : List Logged → ℕ → List Taken → ℕ
counted log capacity [] = 0
counted log capacity (t ∷ ts) = counted_one log capacity t + counted log capacity ts

none_more : (line : ℕ) (t : Table) → with_row line (more_live 0) t ≡ t
none_more line t = with_row_same line (more_live 0) (λ row. row) t (λ row. live_is row (row.live + 0) row.live (omega arith)) ∙ with_row_stays line t

none_less : (line : ℕ) (t : Table) → with_row line (less_live 0) t ≡ t
none_less line t = with_row_same line (less_live 0) (λ row. row) t (λ row. live_is row (row.live - 0) row.live (omega arith)) ∙ with_row_stays line t

place_one : (log : List Logged) (line : ℕ) (table : Table) (t : Taken)
    → place_entry log line table t ≡ with_row line (more_live (counted_one log table.shape.capacity t)) table
place_one log line table t = go (nat_lt t.mark.lba table.shape.capacity) (taker_of log t)
  where
    go : (b : Bool) (o : Option ℕ) → (if b then place_by o line table else table) ≡ with_row line (more_live (if b then counted_by o else 0)) table
    go true None = refl
    go true (Some later) = sym (none_more line table)
    go false o = sym (none_more line table)

lower_one : (log : List Logged) (line : ℕ) (table : Table) (t : Taken)
    → lower_entry log line table t ≡ with_row line (less_live (counted_one log table.shape.capacity t)) table
lower_one log line table t = go (nat_lt t.mark.lba table.shape.capacity) (taker_of log t)
  where
    go : (b : Bool) (o : Option ℕ) → (if b then lower_by o line table else table) ≡ with_row line (less_live (if b then counted_by o else 0)) table
    go true None = refl
    go true (Some later) = sym (none_less line table)
    go false o = sym (none_less line table)

placed_are : (log : List Logged) (line : ℕ) (table : Table) (ts : List Taken)
    → place_entries log line table ts ≡ with_row line (more_live (counted log table.shape.capacity ts)) table
unfolding counted
placed_are log line table [] = sym (none_more line table)
placed_are log line table (t ∷ ts) =
    ap (λ x. place_entries log line x ts) (place_one log line table t)
    ∙ placed_are log line (with_row line (more_live (counted_one log table.shape.capacity t)) table) ts
    ∙ with_row_again line (more_live (counted log table.shape.capacity ts)) (more_live (counted_one log table.shape.capacity t)) table
    ∙ with_row_same line (λ row. more_live (counted log table.shape.capacity ts) (more_live (counted_one log table.shape.capacity t) row))
    (more_live (counted log table.shape.capacity (t ∷ ts))) table
    (λ row. live_is row (row.live + counted_one log table.shape.capacity t + counted log table.shape.capacity ts)
    (row.live + counted log table.shape.capacity (t ∷ ts)) (omega arith))

lowered_are : (log : List Logged) (line : ℕ) (table : Table) (ts : List Taken)
    → lower_entries log line table ts ≡ with_row line (less_live (counted log table.shape.capacity ts)) table
unfolding counted
lowered_are log line table [] = sym (none_less line table)
lowered_are log line table (t ∷ ts) =
    ap (λ x. lower_entries log line x ts) (lower_one log line table t)
    ∙ lowered_are log line (with_row line (less_live (counted_one log table.shape.capacity t)) table) ts
    ∙ with_row_again line (less_live (counted log table.shape.capacity ts)) (less_live (counted_one log table.shape.capacity t)) table
    ∙ with_row_same line (λ row. less_live (counted log table.shape.capacity ts) (less_live (counted_one log table.shape.capacity t) row))
    (less_live (counted log table.shape.capacity (t ∷ ts))) table
    (λ row. live_is row (row.live - counted_one log table.shape.capacity t - counted log table.shape.capacity ts)
    (row.live - counted log table.shape.capacity (t ∷ ts)) (omega arith))

pub placed_back : (log : List Logged) (line : ℕ) (table : Table) (ts : List Taken) → lower_entries log line (place_entries log line table ts) ts ≡ table
placed_back log line table ts =
    let n : ℕ = counted log table.shape.capacity ts in
    ap (λ x. lower_entries log line x ts) (placed_are log line table ts)
    ∙ lowered_are log line (with_row line (more_live (counted log table.shape.capacity ts)) table) ts
    ∙ with_row_again line (less_live n) (more_live n) table
    ∙ with_row_same line (λ row. less_live n (more_live n row)) (λ row. row) table
    (λ row. live_is row (row.live + n - n) row.live (omega arith))
    ∙ with_row_stays line table

-- a line has so many live sectors as came with the entries that were placed in it, at least
pub placed_live : (log : List Logged) (line : ℕ) (table : Table) (ts : List Taken) (row : Row) → IsRow (place_entries log line table ts) line row
    → counted log table.shape.capacity ts ≤ row.live
placed_live log line table ts row there =
    go (slice_get table.rows line) refl (ap (λ (t : Table). slice_get t.rows line) (sym (placed_are log line table ts)) ∙ there)
  where
    n : ℕ
    n = counted log table.shape.capacity ts

    go : (o : Option Row) → slice_get table.rows line ≡ o
        → slice_get (option_map_or (λ r. slice_set table.rows line (more_live (counted log table.shape.capacity ts) r)) (slice_get table.rows line) table.rows)
        line
        ≡ Some row → counted log table.shape.capacity ts ≤ row.live
    go None e f = absurd (none-some row
        (sym (ap (λ x. slice_get (option_map_or (λ r. slice_set table.rows line (more_live n r)) x table.rows) line) e ∙ e) ∙ f))
    go (Some r) e f =
        let same : more_live n r ≡ row = same_Some (more_live n r) row
        (sym (get_set_same table.rows line (more_live n r) (slice_get_within table.rows line r e))
        ∙ ap (λ x. slice_get (option_map_or (λ y. slice_set table.rows line (more_live n y)) x table.rows) line) (sym e) ∙ f) in
        let live : r.live + n ≡ row.live = ap (λ (x : Row). x.live) same in
        omega arith
