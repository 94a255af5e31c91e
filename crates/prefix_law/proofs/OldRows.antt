-- Which records of a found image a start record of the next mount counts by its rows: those that
-- count there.
use Rattle.std.proofs.Common.{◌≡◌, ℕ, ◌+◌, ◌<◌, ◌≤◌, ◌==◌, ◌&&◌, nat_lt, nat_le, zero, suc, Bool, true, false, cond, Some, None, Option, List, [], ◌∷◌, refl, sym, subst, ap, ap₂, ◌∙◌, arith, inl, inr, not, zero-add}
use Rattle.std.specs.Prelude.{slice_get, if◌then◌else◌}
use Rattle.std.specs.List.{Contains, find, filter, range_with_len}
use Rattle.std.specs.Option.{option_map_or}
use Rattle.std.proofs.lemmas.Bool.{and_parts, eqb-true, lt-leb, ltb-true, leb-true}
use Rattle.std.proofs.lemmas.Option.{same_Some, none-some}
use Rattle.pblk_model.specs.declared.shape.Shape.{Shape}
use Rattle.pblk_model.specs.Image.{Image, width}
use Rattle.pblk_model.specs.StartRecord.{Row, StartRecord, start_of, rows_fit}
use Rattle.pblk_model.specs.Records.{Record, records}
use Rattle.pblk_model.specs.Contents.{head, end, end_after, counts, counted, counted_after}
use Rattle.pblk_world.specs.Starts.{row_bound, bound_by}
use Rattle.pblk_laws.proofs.Heads.{head_is_head}
use Rattle.pblk_laws.proofs.Starts.{numbers, found_is}
use Rattle.prefix_law.specs.Assembled.{by_row}
use Rattle.prefix_law.specs.AfterMount.{start_row, start_rows}
use Rattle.prefix_law.proofs.Among.{made_into, made_from}
use Rattle.prefix_law.proofs.Assembly.{CountsBy, counts_by, counts_young, counts_row}
use Rattle.prefix_law.proofs.RecordLines.{range_is, IsAt, record_is_at}
use Rattle.pblk_model.proofs.Lists.{IsAmong, contains_none, later}
use Rattle.pblk_model.proofs.Maps.{any_found, any_member, found_passes, range_get, filtered_from, filtered_into}
use Rattle.pblk_model.proofs.Options.{some_value}
use Rattle.pblk_model.proofs.Tests.{and_both, both, le_true, lt_true, same_number}

-- ---- the rows of a start record

-- what holds of each row: its line is at least so much, it is older than the mount, and its bound
-- is at most the front
pub record IsRowOf (r : StartRecord) (least : ℕ) (row : Row) : Type 0 where
  pub low : least ≤ row.line
  pub older : row.seq < r.first_seq
  pub bound : row.bound ≤ r.front

row_parts : (s : Shape) (r : StartRecord) (least : ℕ) (row : Row) (rows : List Row) → rows_fit s r least (row ∷ rows) ≡ true
    → IsRowOf r least row × (rows_fit s r (row.line + 1) rows ≡ true)
row_parts s r least row rows h =
    let p6 = and_parts _ (rows_fit s r (row.line + 1) rows) h in
    let p5 = and_parts _ (nat_le row.bound r.front) p6.0 in
    let p4 = and_parts _ (nat_lt row.seq r.first_seq) p5.0 in
    let p3 = and_parts _ (nat_le 1 row.seq) p4.0 in
    let p2 = and_parts _ (not (row.line == r.line)) p3.0 in
    let p1 = and_parts (nat_le least row.line) (nat_lt row.line s.chunks) p2.0 in
    (record { low = leb-true least row.line p1.0; older = ltb-true row.seq r.first_seq p4.1; bound = leb-true row.bound r.front p5.1 }, p6.1)

pub row_is : (s : Shape) (r : StartRecord) (least : ℕ) (rows : List Row) (k : ℕ) (row : Row) → rows_fit s r least rows ≡ true
    → slice_get rows k ≡ Some row → IsRowOf r least row
row_is s r least [] k row fits there = absurd (none-some row there)
row_is s r least (x ∷ rows) zero row fits there = subst (IsRowOf r least) (same_Some x row there) (row_parts s r least x rows fits).0
row_is s r least (x ∷ rows) (suc k) row fits there =
    let parts = row_parts s r least x rows fits in
    let rest : IsRowOf r (x.line + 1) row = row_is s r (x.line + 1) rows k row parts.1 there in
    record { low = (let a = parts.0.low in let b = rest.low in omega arith); older = rest.older; bound = rest.bound }

abbrev pub is_row_for : ℕ → ℕ → Row → Bool
is_row_for line seq row = (row.line == line) && (row.seq == seq)

-- no two rows are of one line
row_found : (s : Shape) (r : StartRecord) (least : ℕ) (rows : List Row) (k : ℕ) (row : Row) → rows_fit s r least rows ≡ true
    → slice_get rows k ≡ Some row → find (is_row_for row.line row.seq) rows ≡ Some row
row_found s r least [] k row fits there = absurd (none-some row there)
row_found s r least (x ∷ rows) zero row fits there =
    let same : x ≡ row = same_Some x row there in
    let is : is_row_for row.line row.seq x ≡ true =
    ap (is_row_for row.line row.seq) same ∙ ap₂ (λ a b. a && b) (same_number row.line) (same_number row.seq) in
    ap (λ b. cond b (Some x) (find (is_row_for row.line row.seq) rows)) is ∙ ap Some same
row_found s r least (x ∷ rows) (suc k) row fits there =
    let parts = row_parts s r least x rows fits in
    let rest : IsRowOf r (x.line + 1) row = row_is s r (x.line + 1) rows k row parts.1 there in
    let after : x.line + 1 ≤ row.line = rest.low in
    by (is_row_for row.line row.seq x) refl after (row_found s r (x.line + 1) rows k row parts.1 there) where
      by : (b : Bool) → is_row_for row.line row.seq x ≡ b → x.line + 1 ≤ row.line → find (is_row_for row.line row.seq) rows ≡ Some row
          → cond b (Some x) (find (is_row_for row.line row.seq) rows) ≡ Some row
      by true is after rest =
          let same : x.line ≡ row.line = eqb-true x.line row.line (both (x.line == row.line) (x.seq == row.seq) is).0 in absurd (omega arith)
      by false is after rest = rest

-- the row that is found is one
find_is : (f : Row → Bool) (rows : List Row) (row : Row) → find f rows ≡ Some row → IsAmong rows row × (f row ≡ true)
find_is f [] row e = absurd (none-some row e)
find_is f (x ∷ rows) row e = by (f x) refl e (λ h. find_is f rows row h) where
  by : (b : Bool) → f x ≡ b → cond b (Some x) (find f rows) ≡ Some row → (find f rows ≡ Some row → IsAmong rows row × (f row ≡ true))
      → IsAmong (x ∷ rows) row × (f row ≡ true)
  by true is h rest = let same : x ≡ row = same_Some x row h in ((0, h), ap f (sym same) ∙ is)
  by false is h rest = let r = rest h in (later x rows row r.0, r.1)

-- ---- by a row

-- the row by which a record counts
pub record IsByRow (rows : List Row) (r : Record) (row : Row) : Type 0 where
  pub there : IsAmong rows row
  pub line : row.line ≡ r.line
  pub seq : row.seq ≡ r.seq
  pub below : r.position < row.bound

pub by_row_is : (h : StartRecord) (r : Record) → by_row h r ≡ true → (row : Row) × IsByRow h.rows r row
by_row_is h r is =
    let test : Row → Bool = λ row. (row.line == r.line) && (row.seq == r.seq) && nat_lt r.position row.bound in
    let at = some_value (find test h.rows) (sym (any_found test h.rows) ∙ is) in
    let its = found_passes test h.rows at.0 at.1 in
    let p = both ((at.0.line == r.line) && (at.0.seq == r.seq)) (nat_lt r.position at.0.bound) its.0 in
    let q = both (at.0.line == r.line) (at.0.seq == r.seq) p.0 in
    (at.0, record { there = its.1; line = eqb-true at.0.line r.line q.0; seq = eqb-true at.0.seq r.seq q.1; below = ltb-true r.position at.0.bound p.1 })

pub is_by_row : (h : StartRecord) (r : Record) (row : Row) → IsByRow h.rows r row → by_row h r ≡ true
is_by_row h r row is =
    let line = ap (λ n. n == r.line) is.line ∙ same_number r.line in
    let seq = ap (λ n. n == r.seq) is.seq ∙ same_number r.seq in
    any_member (λ (x : Row). (x.line == r.line) && (x.seq == r.seq) && nat_lt r.position x.bound) h.rows is.there.0 row is.there.1
    (and_both ((row.line == r.line) && (row.seq == r.seq)) (nat_lt r.position row.bound) (and_both (row.line == r.line) (row.seq == r.seq) line seq)
    (lt_true r.position row.bound is.below))

-- ---- the rows of the found image

module _ (b : Image) where
  -- the head's rows
  head_rows : (h : StartRecord) (k : ℕ) (row : Row) → head b ≡ Some h → slice_get h.rows k ≡ Some row → IsRowOf h 0 row
  head_rows h k row e there =
      let is = head_is_head b h e in
      let n = numbers b.shape is.0 (width b is.0) h (found_is b is.0 h is.1.whole).0 in
      row_is b.shape h 0 h.rows k row n.rows there

  head_row_found : (h : StartRecord) (k : ℕ) (row : Row) → head b ≡ Some h → slice_get h.rows k ≡ Some row
      → find (is_row_for row.line row.seq) h.rows ≡ Some row
  head_row_found h k row e there =
      let is = head_is_head b h e in
      let n = numbers b.shape is.0 (width b is.0) h (found_is b is.0 h is.1.whole).0 in
      row_found b.shape h 0 h.rows k row n.rows there

  -- a row is of a line with a start record, and each such line has one

  abbrev row_with : ℕ → StartRecord → Row
  row_with line start = record { line = line; seq = start.seq; bound = bound_by (head b) (end b) line start.seq }

  pub record IsRowFound (row : Row) : Type 0 where
    pub line : ℕ
    pub start : StartRecord
    pub in_range : line < b.shape.chunks
    pub whole : start_of b line ≡ Some start
    pub is : row_with line start ≡ row

  pub row_from : (row : Row) → IsAmong (start_rows b) row → IsRowFound row
  row_from row at =
      let made = made_from (λ line. start_row b line (start_of b line)) (range_with_len 0 b.shape.chunks) row at in
      let which = range_is b.shape.chunks made.0 made.1 made.2 in
      let same : made.1 ≡ made.0 = which.0 in
      let low : made.0 < b.shape.chunks = which.1 in
      by made.1 (omega arith) (start_of b made.1) refl made.3 where
        by : (line : ℕ) → line < b.shape.chunks → (o : Option StartRecord) → start_of b line ≡ o → start_row b line o ≡ Some row → IsRowFound row
        by line range None e is = absurd (none-some row is)
        by line range (Some start) e is = record { line = line; start = start; in_range = range; whole = e; is = same_Some (row_with line start) row is }

  row_into : (line : ℕ) (start : StartRecord) → line < b.shape.chunks → start_of b line ≡ Some start → IsAmong (start_rows b) (row_with line start)
  row_into line start range e =
      made_into (λ l. start_row b l (start_of b l)) (range_with_len 0 b.shape.chunks) line line (row_with line start)
      (range_get 0 b.shape.chunks line range ∙ ap (λ m. Some m) (zero-add line)) (ap (start_row b line) e)

  -- ---- what counts by a row counts in the found image, and the other way round

  counted_are : (h : StartRecord) → head b ≡ Some h → counted b ≡ filter (counts h (end b)) (records b)
  counted_are h is = ap (counted_after (records b)) is ∙ ap (λ p. filter (counts h p) (records b)) (sym (ap (end_after (records b)) is))

  pub counts_still : (r : Record) (row : Row) → Contains (records b) r → IsByRow (start_rows b) r row → Contains (counted b) r
  counts_still r row there by_it = by (head b) refl below where
    found : IsRowFound row
    found = row_from row by_it.there

    lines : found.line ≡ r.line
    lines = ap (λ (x : Row). x.line) found.is ∙ by_it.line

    seqs : found.start.seq ≡ r.seq
    seqs = ap (λ (x : Row). x.seq) found.is ∙ by_it.seq

    below : r.position < bound_by (head b) (end b) found.line found.start.seq
    below = let bounds = ap (λ (x : Row). x.bound) found.is in let low = by_it.below in omega arith

    is_counted : (h : StartRecord) → head b ≡ Some h → counts h (end b) r ≡ true → Contains (counted b) r
    is_counted h e c = subst (λ rs. Contains rs r) (sym (counted_are h e)) (filtered_into (counts h (end b)) (records b) r there c)

    by_find : (h : StartRecord) → (o : Option Row) → find (is_row_for found.line found.start.seq) h.rows ≡ o
        → r.position < option_map_or (λ (x : Row). x.bound) o 0 → by_row h r ≡ true
    by_find h None f low = absurd (omega arith)
    by_find h (Some x) f low =
        let at = find_is (is_row_for found.line found.start.seq) h.rows x f in
        let q = both (x.line == found.line) (x.seq == found.start.seq) at.1 in
        is_by_row h r x (record {
          there = at.0;
          line = eqb-true x.line found.line q.0 ∙ lines;
          seq = eqb-true x.seq found.start.seq q.1 ∙ seqs;
          below = low;
        })

    by_mount : (h : StartRecord) → head b ≡ Some h → (c : Bool) → nat_le h.first_seq found.start.seq ≡ c
        → r.position < (if c then end b else row_bound h found.line found.start.seq) → Contains (counted b) r
    by_mount h e true mount low =
        is_counted h e (counts_young h (end b) r (let old = leb-true h.first_seq found.start.seq mount in let same = seqs in omega arith) low)
    by_mount h e false mount low = is_counted h e (counts_row h (end b) r (by_find h (find (is_row_for found.line found.start.seq) h.rows) refl low))

    by : (o : Option StartRecord) → head b ≡ o → r.position < bound_by o (end b) found.line found.start.seq → Contains (counted b) r
    by None e low = absurd (omega arith)
    by (Some h) e low = by_mount h e (nat_le h.first_seq found.start.seq) refl low

  -- what a counted record is
  pub record IsOldCounted (r : Record) : Type 0 where
    pub there : Contains (records b) r
    pub row : Row
    pub by_it : IsByRow (start_rows b) r row

  pub counted_by_row : (r : Record) → Contains (counted b) r → IsOldCounted r
  counted_by_row r there = by (head b) refl where
    mounted : (h : StartRecord) (line seq : ℕ) → h.first_seq ≤ seq → bound_by (Some h) (end b) line seq ≡ end b
    mounted h line seq mount = ap (λ c. if c then end b else row_bound h line seq) (le_true h.first_seq seq mount)

    not_mounted : (h : StartRecord) (line seq : ℕ) → seq < h.first_seq → bound_by (Some h) (end b) line seq ≡ row_bound h line seq
    not_mounted h line seq old = ap (λ c. if c then end b else row_bound h line seq) (lt-leb h.first_seq seq old)

    bound_of : (h : StartRecord) (line seq : ℕ) → head b ≡ Some h → line ≡ r.line → seq ≡ r.seq → CountsBy h (end b) r
        → r.position < bound_by (Some h) (end b) line seq
    bound_of h line seq e lines seqs (inl (mount, low)) = let is = mounted h line seq (omega arith) in omega arith
    bound_of h line seq e lines seqs (inr row) =
        let x = by_row_is h r row in
        let at = x.1.there in
        let of : IsRowOf h 0 x.0 = head_rows h at.0 x.0 e at.1 in
        let older : x.0.seq < h.first_seq = of.older in
        let same_line : x.0.line ≡ line = x.1.line ∙ sym lines in
        let same_seq : x.0.seq ≡ seq = x.1.seq ∙ sym seqs in
        let found : find (is_row_for line seq) h.rows ≡ Some x.0 =
        ap (λ l. find (is_row_for l seq) h.rows) (sym same_line) ∙ ap (λ q. find (is_row_for x.0.line q) h.rows) (sym same_seq)
        ∙ head_row_found h at.0 x.0 e at.1 in
        let bound : row_bound h line seq ≡ x.0.bound = ap (λ (o : Option Row). option_map_or (λ (y : Row). y.bound) o 0) found in
        let is = not_mounted h line seq (omega arith) in
        let low : r.position < x.0.bound = x.1.below in
        omega arith

    by : (o : Option StartRecord) → head b ≡ o → IsOldCounted r
    by None e = absurd (contains_none r (subst (λ rs. Contains rs r) (ap (counted_after (records b)) e) there))
    by (Some h) e =
        let parts = filtered_from (counts h (end b)) (records b) r (subst (λ rs. Contains rs r) (counted_are h e) there) in
        let at : IsAt b r = record_is_at b r parts.0 in
        record {
          there = parts.0;
          row = row_with r.line at.start;
          by_it = record {
            there = row_into r.line at.start at.in_range at.whole;
            line = refl;
            seq = sym at.seq;
            below =
                subst (λ o. r.position < bound_by o (end b) r.line at.start.seq) (sym e)
                (bound_of h r.line at.start.seq e refl (sym at.seq) (counts_by h (end b) r parts.1));
          };
        }
