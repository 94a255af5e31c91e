-- The rows of older lines, one line after another.
use Rattle.std.proofs.Common.{◌≡◌, ℕ, ◌+◌, zero, suc, if◌then◌else◌, Some, None, Option, List, [], ◌∷◌, ◌++◌, take, refl, sym, ap, ◌∙◌, arith, append-nil, add-zero}
use Rattle.std.specs.Prelude.{map, slice_get}
use Rattle.std.specs.List.{filter_map, cons_option, enumerate_from}
use Rattle.std.specs.Option.{option_map}
use Rattle.std.proofs.lemmas.List.{map-append}
use Rattle.std.proofs.lemmas.Option.{none-some, same_Some}
use Rattle.pblk_model.specs.declared.found.LineRow.{LineRow}
use Rattle.pblk_meta.specs.declared.rows.Row.{Row}
use Rattle.pblk_meta.specs.Records.{row_numbers}
use Rattle.core_laws.specs.OpeningTables.{row_found}
use Rattle.pblk_core.specs.OlderLines.{older_found}

cons_append : {X : Type 0} (o : Option X) (xs ys : List X) → cons_option o (xs ++ ys) ≡ cons_option o xs ++ ys
cons_append None xs ys = refl
cons_append (Some x) xs ys = refl

made_next : {X Y : Type 0} (g : ℕ → X → Option Y) (xs : List X) (n k : ℕ) (x : X) → slice_get xs k ≡ Some x
    → filter_map (λ l. g l.0 l.1) (enumerate_from n (take (suc k) xs)) ≡ filter_map (λ l. g l.0 l.1) (enumerate_from n (take k xs))
    ++ cons_option (g (n + k) x) []
made_next g [] n k x e = absurd (none-some x e)
made_next g (y ∷ ys) n zero x e =
    ap (λ z. cons_option (g n z) []) (same_Some y x e) ∙ ap (λ m. cons_option (g m x) []) (sym (add-zero n))
made_next g (y ∷ ys) n (suc k) x e =
    let next : n + 1 + k ≡ n + suc k = omega arith in
    ap (cons_option (g n y)) (made_next g ys (n + 1) k x e
    ∙ ap (λ m. filter_map (λ l. g l.0 l.1) (enumerate_from (n + 1) (take k ys)) ++ cons_option (g m x) []) next)
    ∙ cons_append (g n y) (filter_map (λ l. g l.0 l.1) (enumerate_from (n + 1) (take k ys))) (cons_option (g (n + suc k) x) [])

pub older_next : (end k : ℕ) (lines : List LineRow) (l : LineRow) → slice_get lines k ≡ Some l
    → older_found end (take (k + 1) lines) ≡ older_found end (take k lines) ++ cons_option (row_found end k l) []
older_next end k lines l there =
    let next : k + 1 ≡ suc k = omega arith in
    let from : 0 + k ≡ k = omega arith in
    ap (λ n. older_found end (take n lines)) next ∙ made_next (row_found end) lines 0 k l there
    ∙ ap (λ n. older_found end (take k lines) ++ cons_option (row_found end n l) []) from

-- a line with a sequence number has a row
pub row_more : (end k : ℕ) (lines : List LineRow) (l : LineRow) (rows : List Row) (row : Row) → slice_get lines k ≡ Some l
    → row_found end k l ≡ Some (row_numbers row)
    → map row_numbers rows ≡ older_found end (take k lines) → map row_numbers (rows ++ row ∷ []) ≡ older_found end (take (k + 1) lines)
row_more end k lines l rows row there is so_far =
    map-append row_numbers rows (row ∷ []) ∙ ap (λ xs. xs ++ row_numbers row ∷ []) so_far
    ∙ sym (older_next end k lines l there ∙ ap (λ o. older_found end (take k lines) ++ cons_option o []) is)

-- and another has none
pub no_row : (end k : ℕ) (lines : List LineRow) (l : LineRow) (rows : List Row) → slice_get lines k ≡ Some l → row_found end k l ≡ None
    → map row_numbers rows ≡ older_found end (take k lines) → map row_numbers rows ≡ older_found end (take (k + 1) lines)
no_row end k lines l rows there is so_far =
    so_far ∙ sym (older_next end k lines l there ∙ ap (λ o. older_found end (take k lines) ++ cons_option o []) is
    ∙ append-nil (older_found end (take k lines)))

pub row_pushed : (end k : ℕ) (lines : List LineRow) (l : LineRow) (rows new : List Row) (seq bound : ℕ) → slice_get lines k ≡ Some l → l.seq ≡ Some seq
    → bound ≡ (if l.young then end else l.bound)
    → new ≡ rows ++ record { line = k; seq = seq; bound = bound } ∷ [] → map row_numbers rows ≡ older_found end (take k lines)
    → map row_numbers new ≡ older_found end (take (k + 1) lines)
row_pushed end k lines l rows new seq bound there numbered ends pushed so_far =
    ap (map row_numbers) pushed
    ∙ row_more end k lines l rows (record { line = k; seq = seq; bound = bound }) there
    (ap (option_map (λ n. record { line = k; seq = n; bound = if l.young then end else l.bound })) numbered
    ∙ ap (λ b. Some (record { line = k; seq = seq; bound = b })) (sym ends)) so_far
