-- A listing stands for one list of words and one end.
use Rattle.std.proofs.Common.{◌≡◌, ℕ, ◌+◌, ◌^◌, ◌<◌, Bool, true, false, if◌then◌else◌, List, [], ◌∷◌, ◌++◌, map, length, codes, refl, sym, ap, ◌∙◌, append_assoc, arith, length-append}
use Rattle.std.specs.List.{AllByRecursion, enumerate_from, flat_map}
use Rattle.std.specs.Fmt.{decimal}
use Rattle.std.proofs.lemmas.Grind.{flat_map-append}
use Rattle.std.proofs.lemmas.List.{append-nil}
use Rattle.pblk_model.specs.Text.{Word, Tag, Mixed, word_of, word_text}
use Rattle.pblk_laws.proofs.Fields.{Row, row_text, IsPlain, IsPlainRow, same_rows, plain_decimal}
use Rattle.pblk_laws.proofs.OutcomeRows.{WordFits}
use Rattle.pblk_laws.proofs.TextCuts.{same_decimal}
use Rattle.pblk_laws.proofs.OneTranscript.{same_word}
use Rattle.pblk_laws.proofs.OutcomeBounds.{word_fits}
use Rattle.block_port.specs.Port.{IsSectorSize}
use Rattle.run_report.specs.Listing.{is_blank, sector_line, end_line, listing_of}
use Rattle.run_report.proofs.Blanks.{blank_word}
use Rattle.run_report.proofs.ListedLines.{lines_from}

-- Words.

plain_word : (w : Word) → WordFits w → IsPlain (word_text w)
plain_word (Tag t) h = plain_decimal t h
plain_word Mixed h = (omega arith, (omega arith, (omega arith, (omega arith, (omega arith, tt)))))

-- The lines as rows of words.

abbrev row_of : ℕ → List ℕ → Row
row_of lba sector = record { word = decimal lba; fields = word_text (word_of sector) ∷ [] }

abbrev sector_rows : ℕ × List ℕ → List Row
sector_rows (lba, sector) = if is_blank sector then [] else row_of lba sector ∷ []

abbrev rows_from : ℕ → List (List ℕ) → List Row
rows_from lba sectors = flat_map sector_rows (enumerate_from lba sectors)

abbrev end_row : ℕ → ℕ → Row
end_row end count = record { word = codes "end"; fields = decimal end ∷ codes "sectors" ∷ decimal count ∷ [] }

line_rows : (lba : ℕ) (sector : List ℕ) → sector_line (lba, sector) ≡ flat_map row_text (sector_rows (lba, sector))
line_rows lba sector = by_test (is_blank sector)
  where
    by_test : (b : Bool) → (if b then [] else decimal lba ++ codes " " ++ word_text (word_of sector) ++ 10 ∷ []) ≡ flat_map row_text
        (if b then [] else row_of lba sector ∷ [])
    by_test true = refl
    by_test false = simp append_assoc

lines_rows : (lba : ℕ) (sectors : List (List ℕ)) → lines_from lba sectors ≡ flat_map row_text (rows_from lba sectors)
lines_rows lba [] = refl
lines_rows lba (sector ∷ sectors) =
    ap (λ xs. xs ++ lines_from (lba + 1) sectors) (line_rows lba sector)
    ∙ ap (λ xs. flat_map row_text (sector_rows (lba, sector)) ++ xs) (lines_rows (lba + 1) sectors)
    ∙ sym (flat_map-append row_text (sector_rows (lba, sector)) (rows_from (lba + 1) sectors))

regrouped : (e x s y n : List ℕ) → (((e ++ (x ++ [])) ++ s) ++ (y ++ [])) ++ n ≡ (e ++ ((x ++ (s ++ (y ++ []))) ++ n)) ++ []
regrouped e x s y n = simp (append_assoc, append-nil)

end_rows : (end count : ℕ) → end_line end count ≡ flat_map row_text (end_row end count ∷ [])
end_rows end count = regrouped (codes "end") (32 ∷ decimal end) (codes " sectors") (32 ∷ decimal count) (10 ∷ [])

listing_rows : (sectors : List (List ℕ)) (end : ℕ) → listing_of sectors end ≡ flat_map row_text (rows_from 0 sectors ++ end_row end (length sectors) ∷ [])
listing_rows sectors end =
    ap (λ xs. xs ++ end_line end (length sectors)) (lines_rows 0 sectors)
    ∙ ap (λ xs. flat_map row_text (rows_from 0 sectors) ++ xs) (end_rows end (length sectors))
    ∙ sym (flat_map-append row_text (rows_from 0 sectors) (end_row end (length sectors) ∷ []))

-- The rows have plain words.

all_plain : (xs ys : List Row) → AllByRecursion IsPlainRow xs → AllByRecursion IsPlainRow ys → AllByRecursion IsPlainRow (xs ++ ys)
all_plain [] ys h k = k
all_plain (x ∷ xs) ys h k = (h.0, all_plain xs ys h.1 k)

plain_rows : (lba : ℕ) (sectors : List (List ℕ)) → lba + length sectors < 10 ^ 64 → AllByRecursion IsPlainRow (rows_from lba sectors)
plain_rows lba [] low = tt
plain_rows lba (sector ∷ sectors) low = all_plain (sector_rows (lba, sector)) (rows_from (lba + 1) sectors) (by_test (is_blank sector))
    (plain_rows (lba + 1) sectors (omega (arith, low)))
  where
    by_test : (b : Bool) → AllByRecursion IsPlainRow (if b then [] else row_of lba sector ∷ [])
    by_test true = tt
    by_test false = (record { word = plain_decimal lba (omega (arith, low)); fields = (plain_word (word_of sector) (word_fits sector), tt) }, tt)

plain_end : (end count : ℕ) → end < 10 ^ 64 → count < 10 ^ 64 → IsPlainRow (end_row end count)
plain_end end count h k = record {
  word = (omega arith, (omega arith, (omega arith, tt)));
  fields = (
    plain_decimal end h,
    ((omega arith, (omega arith, (omega arith, (omega arith, (omega arith, (omega arith, (omega arith, tt))))))), (plain_decimal count k, tt)),
  );
}

-- Equal rows are those of equal words.

last_same : (xs ys : List Row) (x y : Row) → xs ++ x ∷ [] ≡ ys ++ y ∷ [] → (xs ≡ ys) × (x ≡ y)
last_same [] [] x y e = (refl, cc)
last_same [] (z ∷ ys) x y e = absurd (omega (arith, ap length e, length-append ys (y ∷ [])))
last_same (z ∷ xs) [] x y e = absurd (omega (arith, ap length e, length-append xs (x ∷ [])))
last_same (z ∷ xs) (v ∷ ys) x y e =
    let tails : xs ++ x ∷ [] ≡ ys ++ y ∷ [] = cc in
    let rest = last_same xs ys x y tails in
    (cc, rest.1)

-- what equal rows have in common
same_fields : (a b u v : List ℕ) (x y : Row) (xs ys : List Row) → x ≡ record {
  word = a;
  fields = u ∷ [];
} → y ≡ record { word = b; fields = v ∷ [] } → x ∷ xs ≡ y ∷ ys → (a ≡ b) × (u ≡ v) × (xs ≡ ys)
same_fields a b u v x y xs ys ex ey e =
    let rows : x ≡ y = cc in
    let fields : u ∷ [] ≡ v ∷ [] = sym (ap (λ (r : Row). r.fields) ex) ∙ ap (λ (r : Row). r.fields) rows ∙ ap (λ (r : Row). r.fields) ey in
    (sym (ap (λ (r : Row). r.word) ex) ∙ ap (λ (r : Row). r.word) rows ∙ ap (λ (r : Row). r.word) ey, cc fields, cc e)

same_ends : (word middle a b u v : List ℕ) (x y : Row) → x ≡ record {
  word = word;
  fields = a ∷ middle ∷ u ∷ [];
} → y ≡ record { word = word; fields = b ∷ middle ∷ v ∷ [] } → x ≡ y → (a ≡ b) × (u ≡ v)
same_ends word middle a b u v x y ex ey e =
    let fields : a ∷ middle ∷ u ∷ [] ≡ b ∷ middle ∷ v ∷ [] = sym (ap (λ (r : Row). r.fields) ex) ∙ ap (λ (r : Row). r.fields) e
    ∙ ap (λ (r : Row). r.fields) ey in
    (cc fields, cc fields)

-- the rows of later sectors don't begin with an earlier one's
no_earlier : (lba first : ℕ) (sector : List ℕ) (sectors : List (List ℕ)) (rest : List Row) → first < lba → lba + length sectors < 10 ^ 64
    → rows_from lba sectors ≡ row_of first sector ∷ rest → ⊥
no_earlier lba first sector [] rest less low e = cc e
no_earlier lba first sector (other ∷ sectors) rest less low e =
    by_test (is_blank other) refl (λ h. no_earlier (lba + 1) first sector sectors rest (omega (arith, less)) (omega (arith, low)) h)
  where
    by_test : (b : Bool) → is_blank other ≡ b → (rows_from (lba + 1) sectors ≡ row_of first sector ∷ rest → ⊥) → ⊥
    by_test true blank later = later (rw blank at e)
    by_test false blank later =
        let there : row_of lba other ∷ rows_from (lba + 1) sectors ≡ row_of first sector ∷ rest = rw blank at e in
        let same = same_fields _ _ _ _ _ _ _ _ refl refl there in
        let numbers = same_decimal lba first (omega (arith, low)) (omega (arith, low, less)) same.0 in
        omega (arith, less, numbers)

joined : (v w : Word) (vs ws : List Word) → v ≡ w → vs ≡ ws → v ∷ vs ≡ w ∷ ws
joined v w vs ws e h = cc

same_listed : (lba : ℕ) (a b : List (List ℕ)) → AllByRecursion (λ s. IsSectorSize (length s)) a → AllByRecursion (λ s. IsSectorSize (length s)) b
    → length a ≡ length b → lba + length a < 10 ^ 64 → rows_from lba a ≡ rows_from lba b → map word_of a ≡ map word_of b
same_listed lba [] [] ha hb long low e = refl
same_listed lba [] (y ∷ b) ha hb long low e = absurd (omega (arith, long))
same_listed lba (x ∷ a) [] ha hb long low e = absurd (omega (arith, long))
same_listed lba (x ∷ a) (y ∷ b) ha hb long low e =
    by_tests (is_blank x) (is_blank y) refl refl (λ h. same_listed (lba + 1) a b ha.1 hb.1 (omega (arith, long)) (omega (arith, low)) h)
  where
    by_tests : (p q : Bool) → is_blank x ≡ p → is_blank y ≡ q → (rows_from (lba + 1) a ≡ rows_from (lba + 1) b → map word_of a ≡ map word_of b)
        → map word_of (x ∷ a) ≡ map word_of (y ∷ b)
    by_tests true true px py further = joined _ _ _ _ (blank_word x ha.0 px ∙ sym (blank_word y hb.0 py)) (further (rw (px, py) at e))
    by_tests true false px py further = absurd (no_earlier (lba + 1) lba y a (rows_from (lba + 1) b) (omega arith) (omega (arith, low)) (rw (px, py) at e))
    by_tests false true px py further = absurd (no_earlier (lba + 1) lba x b (rows_from (lba + 1) a) (omega arith) (omega (arith, low, long))
        (sym (rw (px, py) at e)))
    by_tests false false px py further =
        let there : row_of lba x ∷ rows_from (lba + 1) a ≡ row_of lba y ∷ rows_from (lba + 1) b = rw (px, py) at e in
        let same = same_fields _ _ _ _ _ _ _ _ refl refl there in
        joined _ _ _ _ (same_word (word_of x) (word_of y) (word_fits x) (word_fits y) same.1) (further same.2)

pub one_listing : (a b : List (List ℕ)) (m n : ℕ) → AllByRecursion (λ s. IsSectorSize (length s)) a → AllByRecursion (λ s. IsSectorSize (length s)) b
    → length a < 2 ^ 64 → length b < 2 ^ 64 → m < 2 ^ 64 → n < 2 ^ 64 → listing_of a m ≡ listing_of b n → (map word_of a ≡ map word_of b) × (m ≡ n)
one_listing a b m n ha hb la lb lm ln e =
    let plain : (s : List (List ℕ)) (k : ℕ) → length s < 2 ^ 64 → k < 2 ^ 64 → AllByRecursion IsPlainRow (rows_from 0 s ++ end_row k (length s) ∷ []) =
    λ s k ls lk. all_plain (rows_from 0 s) (end_row k (length s) ∷ []) (plain_rows 0 s (omega (arith, ls)))
    (plain_end k (length s) (omega (arith, lk)) (omega (arith, ls)), tt) in
    let rows = same_rows _ _ (plain a m la lm) (plain b n lb ln) (sym (listing_rows a m) ∙ e ∙ listing_rows b n) in
    let parts = last_same (rows_from 0 a) (rows_from 0 b) (end_row m (length a)) (end_row n (length b)) rows in
    let ends = same_ends _ _ _ _ _ _ _ _ refl refl parts.1 in
    let long = same_decimal (length a) (length b) (omega (arith, la)) (omega (arith, lb)) ends.1 in
    (same_listed 0 a b ha hb long (omega (arith, la)) parts.0, same_decimal m n (omega (arith, lm)) (omega (arith, ln)) ends.0)
