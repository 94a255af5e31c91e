-- Tables of which one row was changed.
use Rattle.std.proofs.Common.{◌≡◌, ◌≢◌, ℕ, ◌+◌, ◌<◌, ◌≤◌, zero, suc, nat_lt, Bool, true, false, Some, List, length, refl, sym, ap, ◌∙◌, arith}
use Rattle.std.specs.Prelude.{map, slice_get, slice_set}
use Rattle.std.specs.List.{AllByRecursion, range_with_len}
use Rattle.std.specs.Option.{option_map_or}
use Rattle.std.proofs.lemmas.List.FromFn.{length-map-range_with_len}
use Rattle.std.proofs.lemmas.Option.{slice_get_past}
use Rattle.pblk_model.specs.declared.shape.Shape.{Shape}
use Rattle.pblk_model.specs.Image.{Image}
use Rattle.pblk_world.specs.World.{Logs}
use Rattle.line_table.specs.declared.row.Row.{Row}
use Rattle.line_table.specs.Rows.{Table, Changes}
use Rattle.core_laws.specs.RowsOf.{row_of_line, rows_of}
use Rattle.core_laws.proofs.PlacedLines.{get_row as row_there}
use Rattle.core_laws.specs.ChangedTables.{with_row}
use Rattle.pblk_model.proofs.Lists.{all_imply}
use Rattle.pblk_model.proofs.Maps.{map_agree, map_same, rows_set}

pub same_table : (s t : Shape) (rows more : List Row) → s ≡ t → rows ≡ more
    → ◌≡◌ {A = Table} (record { shape = s; rows = rows }) (record { shape = t; rows = more })
same_table s t rows more e f = λ i. record { shape = e i; rows = f i }

-- a change of a row in the table is the one table that it leaves
pub changed_is : (old new : Table) (line : ℕ) (change : Row → Row) (row : Row) → slice_get old.rows line ≡ Some row → Changes old new line change
    → new ≡ with_row line change old
changed_is old new line change row there changes =
    same_table new.shape old.shape new.rows (with_row line change old).rows changes.shape
    (changes.rows row there ∙ ap (λ o. option_map_or (λ row. slice_set old.rows line (change row)) o old.rows) (sym there))

pub range_below : (a n : ℕ) → AllByRecursion (λ m. m < a + n) (range_with_len a n)
range_below a zero = tt
range_below a (suc n) = (
  omega arith,
  all_imply (λ (m : ℕ). m < a + 1 + n) (λ (m : ℕ). m < a + suc n) (λ m h. omega arith) (range_with_len (a + 1) n) (range_below (a + 1) n),
)

-- the rows of a function
abbrev pub table_of : Shape → (ℕ → Row) → Table
table_of s f = record { shape = s; rows = map f (range_with_len 0 s.chunks) }

-- one row of it, also where the line isn't one of the drive's
pub table_changes : (s : Shape) (f g : ℕ → Row) (line : ℕ) (change : Row → Row) → g line ≡ change (f line) → ((m : ℕ) → m ≢ line → g m ≡ f m)
    → table_of s g ≡ with_row line change (table_of s f)
table_changes s f g line change here there = go (nat_lt line s.chunks) refl
  where
    go : (b : Bool) → nat_lt line s.chunks ≡ b → table_of s g ≡ with_row line change (table_of s f)
    go true e =
        let inside : line < s.chunks = grind arith in
        let first : 0 + line ≡ line = omega arith in
        let got : slice_get (map f (range_with_len 0 s.chunks)) line ≡ Some (f line) = row_there f s.chunks 0 line inside ∙ ap (λ m. Some (f m)) first in
        same_table s s (table_of s g).rows (with_row line change (table_of s f)).rows refl
        (rows_set f g s.chunks 0 line (change (f line)) inside (ap g first ∙ here) (λ m other. there m (λ e. other (e ∙ sym first)))
        ∙ ap (λ o. option_map_or (λ row. slice_set (table_of s f).rows line (change row)) o (table_of s f).rows) (sym got))
    go false e =
        let past : s.chunks ≤ line = grind arith in
        let count : length (map f (range_with_len 0 s.chunks)) ≡ s.chunks = length-map-range_with_len f 0 s.chunks in
        let same : map g (range_with_len 0 s.chunks) ≡ map f (range_with_len 0 s.chunks) =
        map_agree (λ m. m < 0 + s.chunks) g f (λ m below. there m (λ f. absurd (omega arith))) (range_with_len 0 s.chunks) (range_below 0 s.chunks) in
        same_table s s (table_of s g).rows (with_row line change (table_of s f)).rows refl
        (same ∙ ap (λ o. option_map_or (λ row. slice_set (table_of s f).rows line (change row)) o (table_of s f).rows)
        (sym (slice_get_past (table_of s f).rows line (omega arith))))

pub tables_agree : (s : Shape) (f g : ℕ → Row) → ((m : ℕ) → g m ≡ f m) → table_of s g ≡ table_of s f
tables_agree s f g same = same_table s s (table_of s g).rows (table_of s f).rows refl (map_same g f same (range_with_len 0 s.chunks))

-- the same of the rows of the logs
pub row_changes_any : (i : Image) (logs new : Logs) (line : ℕ) (change : Row → Row) → row_of_line i new line ≡ change (row_of_line i logs line)
    → ((m : ℕ) → m ≢ line → row_of_line i new m ≡ row_of_line i logs m) → rows_of i new ≡ with_row line change (rows_of i logs)
row_changes_any i logs new line change here there = table_changes i.shape (row_of_line i logs) (row_of_line i new) line change here there

pub rows_stay : (i : Image) (logs new : Logs) → ((m : ℕ) → row_of_line i new m ≡ row_of_line i logs m) → rows_of i new ≡ rows_of i logs
rows_stay i logs new same = tables_agree i.shape (row_of_line i logs) (row_of_line i new) same
