-- Whether a record's rows fit, row by row.
use Rattle.std.proofs.Common.{◌≡◌, ℕ, ◌+◌, ◌<◌, ◌≤◌, ◌^◌, Fits, w32, Bool, true, false, ◌&&◌, ◌==◌, not, nat_le, nat_lt, List, ◌∷◌, length, drop, get_or, sym, ap, ◌∙◌, add-one, drop-cons, arith}
use Rattle.std.proofs.lemmas.List.{drop_all}
use Rattle.pblk_model.specs.declared.shape.Shape.{Shape}
use Rattle.pblk_model.specs.StartRecord.{Row, StartRecord, rows_fit}

abbrev one_fits : Shape → StartRecord → ℕ → Row → Bool
one_fits s r least row = nat_le least row.line && nat_lt row.line s.chunks && not (row.line == r.line)
    && nat_le 1 row.seq && nat_lt row.seq r.first_seq && nat_le row.bound r.front

split_rows : (rows : List Row) (i : ℕ) (row : Row) → i < length rows → row ≡ get_or rows i row → drop i rows ≡ row ∷ drop (i + 1) rows
split_rows rows i row lt row-is = drop-cons rows i row lt ∙ ap (λ k. get_or rows i row ∷ drop k rows) (sym (add-one i))
    ∙ ap (λ (x : Row). x ∷ drop (i + 1) rows) (sym row-is)

pub row_goes_on : (s : Shape) (r : StartRecord) (least line i : ℕ) (row : Row) (rows : List Row) (flag total : Bool) → i < length rows → row ≡ get_or rows i row
    → line ≡ row.line
    → flag ≡ one_fits s r least row → flag ≡ true → rows_fit s r least (drop i rows) ≡ total → rows_fit s r (line + 1) (drop (i + 1) rows) ≡ total
row_goes_on s r least line i row rows flag total lt row-is line-is flag-is fits so_far =
    ap (λ l. rows_fit s r (l + 1) (drop (i + 1) rows)) line-is ∙ sym (ap (λ b. b && rows_fit s r (row.line + 1) (drop (i + 1) rows)) (sym flag-is ∙ fits))
    ∙ sym (ap (rows_fit s r least) (split_rows rows i row lt row-is)) ∙ so_far

pub row_stops : (s : Shape) (r : StartRecord) (least i : ℕ) (row : Row) (rows : List Row) (flag total : Bool) → i < length rows → row ≡ get_or rows i row
    → flag ≡ one_fits s r least row → flag ≡ false → rows_fit s r least (drop i rows) ≡ total → false ≡ total
row_stops s r least i row rows flag total lt row-is flag-is fails so_far =
    sym (ap (λ b. b && rows_fit s r (row.line + 1) (drop (i + 1) rows)) (sym flag-is ∙ fails)) ∙ sym (ap (rows_fit s r least) (split_rows rows i row lt row-is))
    ∙ so_far

pub rows_end : (s : Shape) (r : StartRecord) (least i : ℕ) (rows : List Row) (total : Bool) → length rows ≤ i → rows_fit s r least (drop i rows) ≡ total
    → true ≡ total
rows_end s r least i rows total le so_far = sym (ap (rows_fit s r least) (drop_all i rows le)) ∙ so_far

pub next_line : (a b : ℕ) → a ≡ b → b + 1 < 2 ^ 32 → Fits w32 (a + 1)
next_line a b e low = omega arith
