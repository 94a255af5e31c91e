-- The end, and the positions of the records that count.
use Rattle.std.proofs.Common.{◌≡◌, ℕ, ◌+◌, ◌*◌, ◌^◌, ◌<◌, ◌≤◌, ◌==◌, ◌&&◌, nat_lt, nat_le, max, zero, suc, Bool, true, false, cond, ltb, leb, Option, Some, None, List, [], ◌∷◌, length, refl, sym, subst, ap, ◌∙◌, arith, inl, inr, length-append, if◌then◌else◌}
use Rattle.std.specs.List.{AllByRecursion, Contains, filter, filter_map, flat_map, fold, find, list_any, range_with_len}
use Rattle.std.specs.Option.{option_map_or}
use Rattle.std.proofs.lemmas.Bool.{and_parts, or_cases, ltb-true, leb-true, eq-eqb, eqb-true}
use Rattle.std.proofs.lemmas.Option.{none-some}
use Rattle.pblk_model.specs.declared.shape.Shape.{Shape}
use Rattle.pblk_model.specs.Accepted.{IsAccepted}
use Rattle.pblk_model.specs.Image.{Image, IsFit, width}
use Rattle.pblk_model.specs.StartRecord.{Row, StartRecord, rows_fit, start_of}
use Rattle.pblk_model.specs.Records.{Record, record_at, records_after, line_records, records}
use Rattle.pblk_model.specs.Contents.{IsHead, head, is_borne, least_missing, end_after, end, counts, counted_after, counted}
use Rattle.pblk_laws.proofs.Ends.{end_is_end}
use Rattle.pblk_laws.proofs.Heads.{head_is_head, no_head_no_start}
use Rattle.pblk_laws.proofs.Starts.{HasNumbers, numbers, found_is}
use Rattle.pblk_laws.proofs.Widths.{width_within}
use Rattle.pblk_world.specs.Lines.{next_seq}
use Rattle.pblk_world.specs.Starts.{bound_by, row_bound}
use Rattle.world_laws.specs.Finding.{top_of}
use Rattle.world_laws.proofs.WrittenBlocks.{counted_passed}
use Rattle.pblk_model.proofs.Lists.{all_contains, contains_cases, contains_none}
use Rattle.pblk_model.proofs.Maps.{longer_option}
use Rattle.pblk_model.proofs.AcceptedLemmas.{line_is_short}

-- ---- the head's numbers

pub record IsHeadAt (i : Image) (h : StartRecord) : Type 0 where
  pub is_head : IsHead i h.line h
  pub numbers : HasNumbers i.shape h.line (width i h.line) h

pub start_numbers : (i : Image) (line : ℕ) (h : StartRecord) → start_of i line ≡ Some h → HasNumbers i.shape line (width i line) h
start_numbers i line h e = numbers i.shape line (width i line) h (found_is i line h e).0

pub head_at : (i : Image) (h : StartRecord) → head i ≡ Some h → IsHeadAt i h
head_at i h e =
    let is = head_is_head i h e in
    let line : is.0 ≡ h.line = sym (start_numbers i is.0 h is.1.whole).line in
    let here : IsHead i h.line h = subst (λ n. IsHead i n h) line is.1 in
    record { is_head = here; numbers = start_numbers i h.line h here.whole }

-- ---- how many records there are

pub kept_few : {Y : Type 0} (f : ℕ → Option Y) (a n : ℕ) → length (filter_map f (range_with_len a n)) ≤ n
kept_few f a zero = omega arith
kept_few f a (suc n) = let more = kept_few f (a + 1) n in let one = longer_option (f a) (filter_map f (range_with_len (a + 1) n)) in omega arith

pub line_is_few : (i : Image) (line : ℕ) (o : Option StartRecord) → IsAccepted i.shape → IsFit i → length (records_after i line o) ≤ 65536
line_is_few i line None accepted fit = omega arith
line_is_few i line (Some start) accepted fit =
    let few = kept_few (record_at i line start) 0 (width i line * i.shape.clba) in
    let short : width i line * i.shape.clba ≤ 65536 = line_is_short i.shape (width i line) accepted (width_within i line fit) in
    omega arith

pub lines_few : (i : Image) (a n : ℕ) → IsAccepted i.shape → IsFit i → length (flat_map (line_records i) (range_with_len a n)) ≤ n * 65536
lines_few i a zero accepted fit = omega arith
lines_few i a (suc n) accepted fit =
    let more = lines_few i (a + 1) n accepted fit in
    let one : length (line_records i a) ≤ 65536 = line_is_few i a (start_of i a) accepted fit in
    let both = length-append (line_records i a) (flat_map (line_records i) (range_with_len (a + 1) n)) in
    omega arith

pub records_few : (i : Image) → IsAccepted i.shape → IsFit i → length (records i) ≤ 2 ^ 26
records_few i accepted fit =
    let few = lines_few i 0 i.shape.chunks accepted fit in
    let lines : i.shape.chunks ≤ 1024 = accepted.drive.lines_high in
    omega arith

-- ---- the end

missing_low : (borne : ℕ → Bool) (n p : ℕ) → least_missing borne n p ≤ p + n
unfolding least_missing
missing_low borne zero p = omega arith
missing_low borne (suc n) p = go (borne p) (missing_low borne n (p + 1))
  where
    go : (b : Bool) → least_missing borne n (p + 1) ≤ p + 1 + n → cond b (least_missing borne n (p + 1)) p ≤ p + suc n
    go true rest = omega arith
    go false rest = omega arith

end_low : (i : Image) (o : Option StartRecord) → head i ≡ o → IsAccepted i.shape → IsFit i → end_after (records i) o ≤ 2 ^ 62
end_low i None e accepted fit = omega arith
end_low i (Some h) e accepted fit =
    let low = missing_low (is_borne (records i) h) (length (records i)) h.front in
    let few = records_few i accepted fit in
    let front : h.front < 2 ^ 61 = (head_at i h e).numbers.front in
    omega arith

pub end_fits : (i : Image) → IsAccepted i.shape → IsFit i → end i ≤ 2 ^ 62
end_fits i accepted fit = end_low i (head i) refl accepted fit

pub front_low : (i : Image) (h : StartRecord) → head i ≡ Some h → h.front ≤ end i
front_low i h e = (end_is_end i h e).from_front

front_by : (i : Image) (o : Option StartRecord) → head i ≡ o → option_map_or (λ h. h.front) o 0 ≤ end i
front_by i None e = omega arith
front_by i (Some h) e = front_low i h e

pub front_fits : (i : Image) → option_map_or (λ (h : StartRecord). h.front) (head i) 0 ≤ end i
front_fits i = front_by i (head i) refl

-- ---- the rows of the head

abbrev AreBelow : ℕ → List Row → Type 0
AreBelow front rows = AllByRecursion (λ row. row.bound ≤ front) rows

rows_below : (s : Shape) (r : StartRecord) (least : ℕ) (rows : List Row) → rows_fit s r least rows ≡ true → AreBelow r.front rows
rows_below s r least [] e = tt
rows_below s r least (row ∷ rows) e =
    let parts = and_parts _ (rows_fit s r (row.line + 1) rows) e in
    let bounded = and_parts _ (leb row.bound r.front) parts.0 in
    (leb-true row.bound r.front bounded.1, rows_below s r (row.line + 1) rows parts.1)

found_below : (front : ℕ) (p : Row → Bool) (rows : List Row) → AreBelow front rows → option_map_or (λ row. row.bound) (find p rows) 0 ≤ front
found_below front p [] all = omega arith
found_below front p (row ∷ rows) all = go (p row) (found_below front p rows all.1)
  where
    go : (b : Bool) → option_map_or (λ (r : Row). r.bound) (find p rows) 0 ≤ front
        → option_map_or (λ (r : Row). r.bound) (cond b (Some row) (find p rows)) 0 ≤ front
    go true rest = all.0
    go false rest = rest

pub bound_low : (i : Image) (h : StartRecord) (line seq : ℕ) → head i ≡ Some h → row_bound h line seq ≤ end i
bound_low i h line seq e =
    let low = found_below h.front (λ row. (row.line == line) && (row.seq == seq)) h.rows (rows_below i.shape h 0 h.rows (head_at i h e).numbers.rows) in
    let front : h.front ≤ end i = front_low i h e in
    omega arith

-- a start record of an image is older than what comes after its head
pub seq_older : (j : Image) (line : ℕ) (start : StartRecord) → line < j.shape.chunks → start_of j line ≡ Some start → start.seq < next_seq (head j)
seq_older j line start inside is = go (head j) refl
  where
    go : (o : Option StartRecord) → head j ≡ o → start.seq < next_seq o
    go None e = absurd (none-some start (sym (no_head_no_start j line e inside) ∙ is))
    go (Some h) e = elim ((head_at j h e).is_head.greatest line start inside is) [ inl less ↦ omega arith | inr same ↦ omega (arith, same.0) ]

-- no bound is above the end
pub bound_within : (j : Image) (o : Option StartRecord) (first line seq : ℕ) → head j ≡ o → first ≡ end j → bound_by o first line seq ≤ first
bound_within j None first line seq e is = omega arith
bound_within j (Some h) first line seq e is = go (nat_le h.first_seq seq)
  where
    go : (b : Bool) → (if b then first else row_bound h line seq) ≤ first
    go true = omega arith
    go false = let low : row_bound h line seq ≤ end j = bound_low j h line seq e in omega arith

-- ---- records that count are below the end

any_below : (front : ℕ) (r : Record) (rows : List Row) → AreBelow front rows
    → list_any (λ row. (row.line == r.line) && (row.seq == r.seq) && nat_lt r.position row.bound) rows ≡ true → r.position < front
any_below front r [] all e = absurd cc
any_below front r (row ∷ rows) all e =
    elim (or_cases ((row.line == r.line) && (row.seq == r.seq) && nat_lt r.position row.bound)
    (list_any (λ row. (row.line == r.line) && (row.seq == r.seq) && nat_lt r.position row.bound) rows) e) [
      | inl here ↦
          let low : r.position < row.bound = ltb-true r.position row.bound (and_parts _ (ltb r.position row.bound) here).1 in
          let bound : row.bound ≤ front = all.0 in
          omega arith
      | inr later ↦ any_below front r rows all.1 later
    ]

counts_below : (i : Image) (h : StartRecord) (r : Record) → head i ≡ Some h → counts h (end_after (records i) (Some h)) r ≡ true → r.position < end i
counts_below i h r e c = elim (or_cases (nat_le h.first_seq r.seq && nat_lt r.position (end_after (records i) (Some h)))
    (list_any (λ row. (row.line == r.line) && (row.seq == r.seq) && nat_lt r.position row.bound) h.rows) c) [
      | inl young ↦
          let low : r.position < end_after (records i) (Some h) =
          ltb-true r.position (end_after (records i) (Some h)) (and_parts (leb h.first_seq r.seq) (ltb r.position (end_after (records i) (Some h))) young).1 in
          subst (λ o. r.position < end_after (records i) o) (sym e) low
      | inr old ↦
          let low : r.position < h.front = any_below h.front r h.rows (rows_below i.shape h 0 h.rows (head_at i h e).numbers.rows) old in
          let front : h.front ≤ end i = front_low i h e in
          omega arith
    ]

none_counted : (i : Image) (r : Record) → head i ≡ None → Contains (counted i) r → ⊥
none_counted i r e there = contains_none r (subst (λ o. Contains (counted_after (records i) o) r) e there)

pub counted_below : (i : Image) (r : Record) → Contains (counted i) r → r.position < end i
counted_below i r there = go (head i) refl
  where
    go : (o : Option StartRecord) → head i ≡ o → r.position < end i
    go None e = absurd (none_counted i r e there)
    go (Some h) e = counts_below i h r e (all_contains (λ r. counts h (end_after (records i) (Some h)) r ≡ true) (counted i) r (counted_passed i h e) there)

-- ---- tops

top_from : (e top : ℕ) (rs : List Record) → top ≤ e → AllByRecursion (λ r. r.position < e) rs → fold (λ top r. max top (r.position + 1)) top rs ≤ e
top_from e top [] low all = low
top_from e top (r ∷ rs) low all = let here : r.position < e = all.0 in top_from e (max top (r.position + 1)) rs (omega arith) all.1

kept_all : (P : Record → Type 0) (p : Record → Bool) (rs : List Record) → ((r : Record) → Contains rs r → P r) → AllByRecursion P (filter p rs)
kept_all P p [] each = tt
kept_all P p (r ∷ rs) each = go (p r) (kept_all P p rs (λ x there. each x (contains_later r x rs there)))
  where
    use_first : Contains (r ∷ rs) r
    use_first = (0, omega arith, refl)

    contains_later : (x y : Record) (ys : List Record) → Contains ys y → Contains (x ∷ ys) y
    contains_later x y ys (k, inside, e) = (suc k, omega arith, e)

    go : (b : Bool) → AllByRecursion P (filter p rs) → AllByRecursion P (cond b (r ∷ filter p rs) (filter p rs))
    go true rest = (each r use_first, rest)
    go false rest = rest

pub top_low : (i : Image) (line : ℕ) → top_of (counted i) line ≤ end i
top_low i line = top_from (end i) 0 (filter (λ (r : Record). r.line == line) (counted i)) (omega arith)
    (kept_all (λ r. r.position < end i) (λ r. r.line == line) (counted i) (λ r there. counted_below i r there))

-- a record of the line is below its top
top_rises : (top : ℕ) (rs : List Record) → top ≤ fold (λ top r. max top (r.position + 1)) top rs
top_rises top [] = omega arith
top_rises top (r ∷ rs) = let rest = top_rises (max top (r.position + 1)) rs in omega arith

one_more : (line top : ℕ) (x : Record) (rs : List Record) (r : Record) (b : Bool)
    → ((above : ℕ) → r.position < fold (λ top (y : Record). max top (y.position + 1)) above (filter (λ (y : Record). y.line == line) rs))
    → r.position < fold (λ top (y : Record). max top (y.position + 1)) top
    (cond b (x ∷ filter (λ (y : Record). y.line == line) rs) (filter (λ (y : Record). y.line == line) rs))
one_more line top x rs r true rest = rest (max top (x.position + 1))
one_more line top x rs r false rest = rest top

below_from : (line top : ℕ) (rs : List Record) (r : Record) → Contains rs r → r.line ≡ line
    → r.position < fold (λ top r. max top (r.position + 1)) top (filter (λ r. r.line == line) rs)
below_from line top [] r there e = absurd (contains_none r there)
below_from line top (x ∷ rs) r there e = elim (contains_cases x r rs there) [
  | inl same ↦
      let hit : (x.line == line) ≡ true = eq-eqb x.line line (ap (λ (y : Record). y.line) same ∙ e) in
      let at : x.position ≡ r.position = ap (λ (y : Record). y.position) same in
      let rest = top_rises (max top (x.position + 1)) (filter (λ (y : Record). y.line == line) rs) in
      subst (λ b. r.position < fold (λ top (y : Record). max top (y.position + 1)) top
      (cond b (x ∷ filter (λ (y : Record). y.line == line) rs) (filter (λ (y : Record). y.line == line) rs))) (sym hit) (omega arith)
  | inr later ↦ one_more line top x rs r (x.line == line) (λ above. below_from line above rs r later e)
]

pub below_top : (rs : List Record) (r : Record) → Contains rs r → r.position < top_of rs r.line
below_top rs r there = below_from r.line 0 rs r there refl

-- a line without records has the top 0
none_of : (line : ℕ) (rs : List Record) → ((r : Record) → Contains rs r → r.line ≡ line → ⊥) → filter (λ (r : Record). r.line == line) rs ≡ []
none_of line [] none = refl
none_of line (x ∷ rs) none = go (x.line == line) refl (none_of line rs (λ r there e. none r (suc there.0, omega (arith, there.1), there.2) e))
  where
    go : (b : Bool) → (x.line == line) ≡ b → filter (λ (r : Record). r.line == line) rs ≡ []
        → cond b (x ∷ filter (λ (r : Record). r.line == line) rs) (filter (λ (r : Record). r.line == line) rs) ≡ []
    go true e rest = absurd (none x (0, omega arith, refl) (eqb-true x.line line e))
    go false e rest = rest

pub no_top : (rs : List Record) (line : ℕ) → ((r : Record) → Contains rs r → r.line ≡ line → ⊥) → top_of rs line ≡ 0
no_top rs line none = ap (fold (λ top (r : Record). max top (r.position + 1)) 0) (none_of line rs none)
