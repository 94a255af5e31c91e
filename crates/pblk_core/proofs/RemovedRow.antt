-- Rows of rising lines, without the row of one line.
use Rattle.std.proofs.Common.{◌≡◌, ◌≢◌, ℕ, ◌<◌, ◌==◌, not, zero, suc, Bool, false, cond, Some, List, [], ◌∷◌, ◌++◌, drop, take, refl, sym, ap, ◌∙◌, arith}
use Rattle.std.specs.Prelude.{map, slice_get}
use Rattle.std.specs.List.{AllByRecursion, filter}
use Rattle.std.proofs.lemmas.Option.{none-some, same_Some}
use Rattle.pblk_model.specs.StartRecord.{Row as OlderRow}
use Rattle.pblk_meta.specs.declared.rows.Row.{Row}
use Rattle.pblk_meta.specs.Records.{row_numbers}
use Rattle.pblk_core.specs.Freeing.{HaveRisen}
use Rattle.pblk_model.proofs.Lists.{all_imply}
use Rattle.pblk_model.proofs.Maps.{get_mapped}
use Rattle.pblk_model.proofs.Parts.{all_at}
use Rattle.pblk_model.proofs.Tests.{other_number, same_number}

abbrev is_other : ℕ → OlderRow → Bool
is_other line row = not (row.line == line)

all_other : (line : ℕ) (rows : List OlderRow) → AllByRecursion (λ (row : OlderRow). row.line ≢ line) rows → filter (is_other line) rows ≡ rows
all_other line [] apart = refl
all_other line (row ∷ rows) apart =
    ap (λ b. cond (not b) (row ∷ filter (is_other line) rows) (filter (is_other line) rows)) (other_number row.line line apart.0)
    ∙ ap (λ xs. row ∷ xs) (all_other line rows apart.1)

-- none is of the line
pub none_removed : (line : ℕ) (rows : List Row) → AllByRecursion (λ (row : Row). row.line ≢ line) rows
    → map row_numbers rows ≡ filter (is_other line) (map row_numbers rows)
none_removed line rows apart = sym (all_other line (map row_numbers rows) (mapped rows apart))
  where
    mapped : (rows : List Row) → AllByRecursion (λ (row : Row). row.line ≢ line) rows
        → AllByRecursion (λ (row : OlderRow). row.line ≢ line) (map row_numbers rows)
    mapped [] apart = tt
    mapped (row ∷ rows) apart = (apart.0, mapped rows apart.1)

-- one is of the line
pub one_removed : (line : ℕ) (rows : List Row) (k : ℕ) (row : Row) → HaveRisen (map row_numbers rows) → slice_get rows k ≡ Some row → row.line ≡ line
    → map row_numbers (take k rows ++ drop (suc k) rows) ≡ filter (is_other line) (map row_numbers rows)
one_removed line [] k row risen at its = absurd (none-some row at)
one_removed line (x ∷ rows) zero row risen at its =
    let own : x.line ≡ line = ap (λ (r : Row). r.line) (same_Some x row at) ∙ its in
    let above : AllByRecursion (λ (other : OlderRow). other.line ≢ line) (map row_numbers rows) =
    all_imply (λ (other : OlderRow). x.line < other.line) (λ (other : OlderRow). other.line ≢ line) (λ other low same. absurd (omega arith))
    (map row_numbers rows) risen.0 in
    sym (ap (λ b. cond (not b) (row_numbers x ∷ filter (is_other line) (map row_numbers rows)) (filter (is_other line) (map row_numbers rows)))
    (ap (λ n. n == line) own ∙ same_number line) ∙ all_other line (map row_numbers rows) above)
one_removed line (x ∷ rows) (suc k) row risen at its =
    let low : x.line < row.line =
    all_at (λ (other : OlderRow). x.line < other.line) (map row_numbers rows) k (row_numbers row) (get_mapped row_numbers rows k row at) risen.0 in
    let apart : (x.line == line) ≡ false = other_number x.line line (λ same. absurd (omega arith)) in
    ap (λ xs. row_numbers x ∷ xs) (one_removed line rows k row risen.1 at its)
    ∙ sym (ap (λ b. cond (not b) (row_numbers x ∷ filter (is_other line) (map row_numbers rows)) (filter (is_other line) (map row_numbers rows))) apart)
