-- What the loops over rows and pairs keep.
use Rattle.std.proofs.Common.{◌≡◌, ℕ, ◌+◌, ◌-◌, ◌*◌, ◌<◌, ◌≤◌, suc, Bool, true, false, cond, ◌&&◌, Some, None, List, [], ◌∷◌, ◌++◌, map, length, take, drop, refl, sym, ap, ◌∙◌, arith, append_assoc}
use Rattle.std.specs.List.{flat_map}
use Rattle.std.proofs.lemmas.List.{append-nil}
use Rattle.std.specs.Str.{bytes_eq}
use Rattle.std.proofs.lemmas.Bool.{eq-eqb}
use Rattle.std.proofs.lemmas.List.{take_at, length-take, map-append}
use Rattle.std.proofs.Math.Seq.{take-add}
use Rattle.pblk_model.specs.declared.shape.Shape.{Shape}
use Rattle.pblk_model.specs.StartRecord.{Row as OlderLine, row_bytes, rows_in, rows_fit}
use Rattle.pblk_model.specs.Bytes.{zeros}
use Rattle.pblk_meta.specs.declared.rows.Row.{Row}
use Rattle.pblk_meta.specs.declared.start_header.StartHeader.{StartHeader}
use Rattle.pblk_meta.specs.Records.{row_numbers, row_in}
use Rattle.pblk_meta.specs.Headers.{with_rows, row_fits, rows_hold, rows_read}
use Rattle.pblk_meta.proofs.Pieces.{false_differ}
use Rattle.pblk_model.proofs.Bytes.{same_bytes, true_same}
use Rattle.pblk_model.proofs.Tests.{and_refused}

-- ---- rows

-- one more row is read
pub rows_go_on : (front now : List Row) (row : Row) (count i : ℕ) (bytes rest : List ℕ) (total : List OlderLine) → i < count
    → row_numbers row ≡ row_in bytes → rest ≡ drop 24 bytes → now ≡ front ++ row ∷ []
    → map row_numbers front ++ rows_in (count - i) bytes ≡ total → map row_numbers now ++ rows_in (count - (i + 1)) rest ≡ total
unfolding rows_in
rows_go_on front now row count i bytes rest total lt row-is rest-is now-is so_far =
    let k : count - i ≡ suc (count - (i + 1)) = omega arith in
    let step : map row_numbers front ++ rows_in (count - i) bytes ≡ map row_numbers front ++ (row_in bytes ∷ rows_in (count - (i + 1)) (drop 24 bytes)) =
    ap (λ n. map row_numbers front ++ rows_in n bytes) k in
    let more : map row_numbers now ≡ map row_numbers front ++ row_in bytes ∷ [] = ap (map row_numbers) now-is ∙ map-append row_numbers front (row ∷ [])
    ∙ ap (λ (x : OlderLine). map row_numbers front ++ x ∷ []) row-is in
    rw (more, rest-is) (append_assoc (map row_numbers front) (row_in bytes ∷ []) (rows_in (count - (i + 1)) (drop 24 bytes)) ∙ sym step ∙ so_far)

same_front : (p xs ys : List ℕ) → bytes_eq (p ++ xs) (p ++ ys) ≡ bytes_eq xs ys
same_front [] xs ys = refl
same_front (x ∷ p) xs ys = ap (λ b. b && bytes_eq (p ++ xs) (p ++ ys)) (eq-eqb x x refl) ∙ same_front p xs ys

row_length : (x : OlderLine) → length (row_bytes x) ≡ 24
unfolding zeros
row_length x = refl

-- what the first bytes of so many rows are
rows_taken : (n m : ℕ) (b : List ℕ) → n ≡ m → take (24 * suc n) b ≡ take 24 b ++ take (24 * m) (drop 24 b)
rows_taken n m b e = let more : 24 * suc n ≡ 24 + 24 * m = omega arith in ap (λ k. take k b) more ∙ take-add 24 (24 * m) b

-- the rows hold where the first does and the others do
hold_more : (s : Shape) (h : StartHeader) (all : List OlderLine) (least m : ℕ) (b : List ℕ) → row_fits s h least (row_in b) ≡ true
    → bytes_eq (row_bytes (row_in b)) (take 24 b) ≡ true
    → rows_hold s (with_rows h all) least (rows_in (suc m) b) b ≡ rows_hold s (with_rows h all) ((row_in b).line + 1) (rows_in m (drop 24 b)) (drop 24 b)
unfolding rows_hold rows_in
hold_more s h all least m b fits spelled =
    let xs : List OlderLine = rows_in m (drop 24 b) in
    let front : row_bytes (row_in b) ≡ take 24 b = same_bytes (row_bytes (row_in b)) (take 24 b) spelled in
    let text : bytes_eq (row_bytes (row_in b) ++ flat_map row_bytes xs) (take (24 * suc (length xs)) b) ≡ bytes_eq (flat_map row_bytes xs)
    (take (24 * length xs) (drop 24 b)) =
    ap (λ (ys : List ℕ). bytes_eq (row_bytes (row_in b) ++ flat_map row_bytes xs) ys) (rows_taken (length xs) (length xs) b refl)
    ∙ ap (λ (p : List ℕ). bytes_eq (p ++ flat_map row_bytes xs) (take 24 b ++ take (24 * length xs) (drop 24 b))) front
    ∙ same_front (take 24 b) (flat_map row_bytes xs) (take (24 * length xs) (drop 24 b)) in
    ap (λ t. (t && rows_fit s (with_rows h all) ((row_in b).line + 1) xs) && bytes_eq (row_bytes (row_in b) ++ flat_map row_bytes xs)
    (take (24 * suc (length xs)) b)) fits
    ∙ ap (λ t. rows_fit s (with_rows h all) ((row_in b).line + 1) xs && t) text

hold_unfit : (s : Shape) (h : StartHeader) (all : List OlderLine) (least m : ℕ) (b : List ℕ) → row_fits s h least (row_in b) ≡ false
    → rows_hold s (with_rows h all) least (rows_in (suc m) b) b ≡ false
unfolding rows_hold rows_in
hold_unfit s h all least m b unfit =
    let xs : List OlderLine = rows_in m (drop 24 b) in
    ap (λ t. (t && rows_fit s (with_rows h all) ((row_in b).line + 1) xs) && bytes_eq (row_bytes (row_in b) ++ flat_map row_bytes xs)
    (take (24 * suc (length xs)) b)) unfit

hold_misspelled : (s : Shape) (h : StartHeader) (all : List OlderLine) (least m : ℕ) (b : List ℕ) → 24 ≤ length b
    → bytes_eq (row_bytes (row_in b)) (take 24 b) ≡ false → rows_hold s (with_rows h all) least (rows_in (suc m) b) b ≡ false
unfolding rows_hold rows_in
hold_misspelled s h all least m b long misspelled =
    let xs : List OlderLine = rows_in m (drop 24 b) in
    let differ : bytes_eq (row_bytes (row_in b) ++ flat_map row_bytes xs) (take (24 * suc (length xs)) b) ≡ false =
    false_differ (row_bytes (row_in b) ++ flat_map row_bytes xs) (take (24 * suc (length xs)) b) (λ same.
    let parts : row_bytes (row_in b) ++ flat_map row_bytes xs ≡ take 24 b ++ take (24 * length xs) (drop 24 b) = same
    ∙ rows_taken (length xs) (length xs) b refl in
    let front : row_bytes (row_in b) ≡ take 24 b =
    sym (take_at (row_bytes (row_in b)) (flat_map row_bytes xs) 24 (row_length (row_in b))) ∙ ap (λ (ys : List ℕ). take 24 ys) parts
    ∙ take_at (take 24 b) (take (24 * length xs) (drop 24 b)) 24 (simp length-take (omega arith)) in
    let yes : bytes_eq (row_bytes (row_in b)) (take 24 b) ≡ true = true_same (row_bytes (row_in b)) (take 24 b) front in
    absurd cc) in
    ap (λ t. rows_fit s (with_rows h all) least (row_in b ∷ xs) && t) differ ∙ and_refused (rows_fit s (with_rows h all) least (row_in b ∷ xs))

pub hold_goes_on : (s : Shape) (h : StartHeader) (all : List OlderLine) (least next count i : ℕ) (b rest : List ℕ) (total : Bool) → i < count
    → next ≡ (row_in b).line + 1 → rest ≡ drop 24 b
    → row_fits s h least (row_in b) ≡ true → bytes_eq (row_bytes (row_in b)) (take 24 b) ≡ true
    → rows_hold s (with_rows h all) least (rows_in (count - i) b) b ≡ total → rows_hold s (with_rows h all) next (rows_in (count - (i + 1)) rest) rest ≡ total
hold_goes_on s h all least next count i b rest total lt next-is rest-is fits spelled so_far =
    let k : count - i ≡ suc (count - (i + 1)) = omega arith in
    rw (next-is, rest-is) (sym (hold_more s h all least (count - (i + 1)) b fits spelled)
    ∙ ap (λ n. rows_hold s (with_rows h all) least (rows_in n b) b) (sym k) ∙ so_far)

-- so the bytes spell no rows where one doesn't fit or is misspelled
none_read : (t : Bool) (xs : List OlderLine) → t ≡ false → None ≡ cond t (Some xs) None
none_read true xs e = absurd cc
none_read false xs e = refl

pub rows_unfit : (s : Shape) (h : StartHeader) (least i : ℕ) (b bytes : List ℕ) → i < h.rows → row_fits s h least (row_in b) ≡ false
    → rows_hold s (with_rows h (rows_in h.rows bytes)) least (rows_in (h.rows - i) b) b ≡ rows_hold s (with_rows h (rows_in h.rows bytes)) 0
    (rows_in h.rows bytes) bytes
    → None ≡ rows_read s h h.rows bytes
unfolding rows_read
rows_unfit s h least i b bytes lt unfit so_far =
    let k : h.rows - i ≡ suc (h.rows - (i + 1)) = omega arith in
    none_read (rows_hold s (with_rows h (rows_in h.rows bytes)) 0 (rows_in h.rows bytes) bytes) (rows_in h.rows bytes)
    (sym so_far ∙ ap (λ n. rows_hold s (with_rows h (rows_in h.rows bytes)) least (rows_in n b) b) k
    ∙ hold_unfit s h (rows_in h.rows bytes) least (h.rows - (i + 1)) b unfit)

pub rows_misspelled : (s : Shape) (h : StartHeader) (least i : ℕ) (b bytes : List ℕ) → i < h.rows → 24 ≤ length b
    → bytes_eq (row_bytes (row_in b)) (take 24 b) ≡ false
    → rows_hold s (with_rows h (rows_in h.rows bytes)) least (rows_in (h.rows - i) b) b ≡ rows_hold s (with_rows h (rows_in h.rows bytes)) 0
    (rows_in h.rows bytes) bytes
    → None ≡ rows_read s h h.rows bytes
unfolding rows_read
rows_misspelled s h least i b bytes lt long misspelled so_far =
    let k : h.rows - i ≡ suc (h.rows - (i + 1)) = omega arith in
    none_read (rows_hold s (with_rows h (rows_in h.rows bytes)) 0 (rows_in h.rows bytes) bytes) (rows_in h.rows bytes)
    (sym so_far ∙ ap (λ n. rows_hold s (with_rows h (rows_in h.rows bytes)) least (rows_in n b) b) k
    ∙ hold_misspelled s h (rows_in h.rows bytes) least (h.rows - (i + 1)) b long misspelled)

pub rows_are_read : (s : Shape) (h : StartHeader) (rows : List Row) (least i : ℕ) (b bytes : List ℕ) → h.rows ≤ i
    → map row_numbers rows ++ rows_in (h.rows - i) b ≡ rows_in h.rows bytes
    → rows_hold s (with_rows h (rows_in h.rows bytes)) least (rows_in (h.rows - i) b) b ≡ rows_hold s (with_rows h (rows_in h.rows bytes)) 0
    (rows_in h.rows bytes) bytes
    → Some (map row_numbers rows) ≡ rows_read s h h.rows bytes
unfolding rows_read rows_hold rows_in
rows_are_read s h rows least i b bytes le so_far hold =
    let k : h.rows - i ≡ 0 = omega arith in
    let all : map row_numbers rows ≡ rows_in h.rows bytes = sym (append-nil (map row_numbers rows)) ∙ sym (ap (λ n. map row_numbers rows ++ rows_in n b) k)
    ∙ so_far in
    let yes : rows_hold s (with_rows h (rows_in h.rows bytes)) 0 (rows_in h.rows bytes) bytes ≡ true = sym hold
    ∙ ap (λ n. rows_hold s (with_rows h (rows_in h.rows bytes)) least (rows_in n b) b) k in
    ap (λ (xs : List OlderLine). Some xs) all ∙ ap (λ t. cond t (Some (rows_in h.rows bytes)) None) (sym yes)
