-- A line's records are those of its blocks, and what is found of lines is found line by line.
use Rattle.std.proofs.Common.{◌≡◌, ℕ, ◌+◌, ◌-◌, ◌*◌, ◌<◌, ◌≤◌, zero, suc, min, inl, inr, Bool, true, false, cond, List, [], ◌∷◌, ◌++◌, length, map, take, drop, Option, Some, None, refl, sym, ap, ◌∙◌, subst, arith, append-nil, append_assoc, zero-add}
use Rattle.std.specs.List.{cons_option, filter_map, flat_map, range_with_len}
use Rattle.std.specs.Option.{is_some, option_and_then, option_map, option_map_or, IfSome}
use Rattle.std.proofs.lemmas.Bool.{lt-ltb, le-ltb, cases_lt}
use Rattle.std.proofs.lemmas.Option.{none-some, same_Some, slice_get_past}
use Rattle.std.proofs.lemmas.List.{map-append}
use Rattle.pblk_model.specs.declared.shape.Shape.{Shape}
use Rattle.pblk_model.specs.declared.chunk.Mark.{Mark}
use Rattle.pblk_model.specs.Accepted.{IsAccepted}
use Rattle.pblk_model.specs.Chunk.{Block}
use Rattle.pblk_model.specs.LineOrder.{line_order, start_len, end_len}
use Rattle.pblk_model.specs.Image.{Image, IsFit, line_units, width, block_at}
use Rattle.pblk_model.specs.StartRecord.{StartRecord, written_run, start_of}
use Rattle.pblk_model.specs.EndRecord.{EndRecord, end_of}
use Rattle.pblk_model.specs.Records.{Record, bears, mark_at, named, record_at, records_after, line_records}
use Rattle.pblk_model.specs.Contents.{head, later_start, head_to}
use Rattle.pblk_model.proofs.OrderedBlocks.{order_length}
use Rattle.pblk_model.proofs.Maps.{length_mapped, range_last, made_last}
use Rattle.pblk_model.proofs.Parts.{take_all}
use Rattle.pblk_laws.proofs.LineUnits.{line_units_count, no_block_past}
use Rattle.pblk_laws.proofs.Runs.{run_none}
use Rattle.pblk_meta.specs.declared.start_record.StartRecord.{StartRecord as Start}
use Rattle.pblk_meta.specs.Records.{start_numbers}
use Rattle.world_laws.specs.Finding.{is_full}
use Rattle.scan_recovery.specs.declared.starts.LineStart.{LineStart}
use Rattle.scan_recovery.specs.declared.starts.Starts.{Starts}
use Rattle.scan_recovery.specs.declared.survey.SeenLine.{SeenLine}
use Rattle.scan_recovery.specs.declared.survey.Survey.{Survey}
use Rattle.scan_recovery.specs.declared.counting.Count.{Count}
use Rattle.scan_recovery.specs.declared.mount.Mount.{Mount}
use Rattle.scan_recovery.specs.Mounts.{IsCount, IsMountOf, head_of, marked}
use Rattle.scan_recovery.specs.Reading.{blocks_at, front_blocks, tail_blocks, line_len, mark_of, pair_at, records_to, run_of, start_from, start_among, end_from, end_among}
use Rattle.scan_recovery.specs.Starts.{is_later, line_start, IsFront, IsStarts}
use Rattle.scan_recovery.specs.Survey.{IsCountTo, IsSeen, IsSurvey, records_before, seen_line}
use Rattle.scan_recovery.specs.Tally.{HasStartFits}
use Rattle.scan_recovery.specs.Traces.{without_sector}
use Rattle.scan_recovery.proofs.Founds.{there}
use Rattle.pblk_model.specs.Tables.{IsTable}
use Rattle.pblk_model.proofs.TableLemmas.{table_push}
use Rattle.pblk_model.proofs.ContentsLemmas.{head_one}

-- Runs of a line.

run_by : (o : Option Block) (bs : List (Option Block)) (r : Option (List Block)) → run_of bs ≡ r
    → run_of (o ∷ bs) ≡ option_and_then (λ b. option_map (λ rest. b ∷ rest) r) o
run_by None bs r e = refl
run_by (Some b) bs r e = ap (option_map (λ rest. b ∷ rest)) e

run_range : (i : Image) (line a n : ℕ) → run_of (map (block_at i line) (range_with_len a n)) ≡ written_run i line a n
unfolding written_run
run_range i line a zero = refl
run_range i line a (suc n) = run_by (block_at i line a) (map (block_at i line) (range_with_len (a + 1) n)) (written_run i line (a + 1) n)
    (run_range i line (a + 1) n)

pub past_line : (i : Image) (line a : ℕ) → IsAccepted i.shape → IsFit i → width i line * i.shape.clba ≤ a → block_at i line a ≡ None
past_line i line a accepted fit past =
    no_block_past i line a fit accepted.drive.ws_opt accepted.drive.whole_stripes
    (slice_get_past (line_order i.shape (line_units i line)) a
    (omega (
      arith,
      order_length i.shape (line_units i line) accepted.drive.ws_opt accepted.drive.whole_stripes,
      ap (λ n. n * i.shape.clba) (line_units_count i line),
    )))

-- The start record.

pub start_of_front : (i : Image) (line : ℕ) → IsAccepted i.shape → IsFit i → start_among i.shape line (width i line) (front_blocks i line) ≡ start_of i line
unfolding start_among blocks_at
start_of_front i line accepted fit =
    let m : ℕ = line_len i line in
    let n : ℕ = start_len i.shape in
    let bs : List (Option Block) = map (block_at i line) (range_with_len 0 (min n m)) in
    let len : length bs ≡ min n m = length_mapped (block_at i line) 0 (min n m) in
    elim (cases_lt m n) [
      | inl short ↦
          let past : block_at i line (0 + m) ≡ None = past_line i line (0 + m) accepted fit (omega arith) in
          ap (λ b. cond b None (start_from i.shape line (width i line) (run_of (take n bs)))) (lt-ltb (length bs) n (omega arith))
          ∙ sym (ap (start_from i.shape line (width i line)) (run_none i line 0 n m short past))
      | inr long ↦
          let all : min n m ≡ n = omega arith in
          ap (λ b. cond b None (start_from i.shape line (width i line) (run_of (take n bs)))) (le-ltb (length bs) n (omega arith))
          ∙ ap (start_from i.shape line (width i line))
          (ap run_of (take_all bs n (omega arith) ∙ ap (λ k. map (block_at i line) (range_with_len 0 k)) all) ∙ run_range i line 0 n)
    ]

-- The end record.

pub end_of_tail : (i : Image) (line : ℕ) (start : StartRecord) → IsAccepted i.shape → IsFit i
    → end_among i.shape line (width i line) start.seq (tail_blocks i line) ≡ end_of i line start
unfolding end_among blocks_at
end_of_tail i line start accepted fit =
    let m : ℕ = line_len i line in
    let n : ℕ = end_len i.shape (width i line) in
    let bs : List (Option Block) = map (block_at i line) (range_with_len (m - n) (m - (m - n))) in
    let len : length bs ≡ m - (m - n) = length_mapped (block_at i line) (m - n) (m - (m - n)) in
    elim (cases_lt m n) [
      | inl short ↦
          let past : block_at i line ((m - n) + m) ≡ None = past_line i line ((m - n) + m) accepted fit (omega arith) in
          ap (λ b. cond b None (end_from i.shape line (width i line) start.seq (run_of (drop (length bs - n) bs)))) (lt-ltb (length bs) n (omega arith))
          ∙ sym (ap (end_from i.shape line (width i line) start.seq) (run_none i line (m - n) n m short past))
      | inr long ↦
          let rest : m - (m - n) ≡ n = omega arith in
          let none : length bs - n ≡ 0 = omega arith in
          ap (λ b. cond b None (end_from i.shape line (width i line) start.seq (run_of (drop (length bs - n) bs)))) (le-ltb (length bs) n (omega arith))
          ∙ ap (λ k. end_from i.shape line (width i line) start.seq (run_of (drop k bs))) none
          ∙ ap (end_from i.shape line (width i line) start.seq)
          (ap (λ k. run_of (map (block_at i line) (range_with_len (m - n) k))) rest ∙ run_range i line (m - n) n)
    ]

-- The records.

-- the mark that a block counts with says what it bears
pub record_marked : (i : Image) (line : ℕ) (start : StartRecord) (e : Option EndRecord) (a : ℕ) → e ≡ end_of i line start
    → option_map without_sector (record_at i line start a) ≡ option_and_then (marked i.shape line start.seq a) (mark_of i line e a)
record_marked i line start e a e-is = rw e-is (by (block_at i line a)) where
  named_as : (b : Block) (m : Mark) (o : Option (Option ℕ))
      → option_map without_sector (option_map (λ lba. record { line = line; seq = start.seq; at = a; position = m.position; lba = lba; sector = b.sector }) o)
      ≡ option_map (λ lba. record { line = line; seq = start.seq; at = a; position = m.position; lba = lba; sector = [] }) o
  named_as b m None = refl
  named_as b m (Some lba) = refl

  with_mark : (b : Block) (o : Option Mark)
      → option_map without_sector (option_and_then (bears i.shape line start.seq a b) o) ≡ option_and_then (marked i.shape line start.seq a) o
  with_mark b None = refl
  with_mark b (Some m) = named_as b m (named i.shape m)

  by : (o : Option Block)
      → option_map without_sector (option_and_then
      (λ block. option_and_then (bears i.shape line start.seq a block) (mark_at i.shape (end_of i line start) a block)) o)
      ≡ option_and_then (marked i.shape line start.seq a) (option_and_then (mark_at i.shape (end_of i line start) a) o)
  by None = refl
  by (Some b) = with_mark b (mark_at i.shape (end_of i line start) a b)

pub records_one : (i : Image) (line : ℕ) (start : StartRecord) (e : Option EndRecord) (a : ℕ) (o : Option Mark) → e ≡ end_of i line start
    → o ≡ mark_of i line e a → records_to i line start (a + 1) ≡ records_to i line start a
    ++ cons_option (option_and_then (marked i.shape line start.seq a) o) []
records_one i line start e a o e-is o-is =
    made_last (λ k. option_map without_sector (record_at i line start k)) a
    ∙ ap (λ x. records_to i line start a ++ cons_option x [])
    (record_marked i line start e a e-is ∙ ap (option_and_then (marked i.shape line start.seq a)) (sym o-is))

thin_option : (o : Option Record) (rs : List Record) → cons_option (option_map without_sector o) (map without_sector rs) ≡ map without_sector (cons_option o rs)
thin_option None rs = refl
thin_option (Some r) rs = refl

thin_filter : (f : ℕ → Option Record) (xs : List ℕ) → filter_map (λ a. option_map without_sector (f a)) xs ≡ map without_sector (filter_map f xs)
thin_filter f [] = refl
thin_filter f (x ∷ xs) = ap (cons_option (option_map without_sector (f x))) (thin_filter f xs) ∙ thin_option (f x) (filter_map f xs)

pub records_all : (i : Image) (line : ℕ) (start : StartRecord) (n : ℕ) → start_of i line ≡ Some start → n ≡ line_len i line
    → records_to i line start n ≡ map without_sector (line_records i line)
records_all i line start n is n-is =
    ap (records_to i line start) n-is ∙ thin_filter (record_at i line start) (range_with_len 0 (line_len i line))
    ∙ sym (ap (λ o. map without_sector (records_after i line o)) is)

-- One line more.

pub flat_one : {X : Type 0} (f : ℕ → List X) (xs : List ℕ) (y : ℕ) → flat_map f (xs ++ y ∷ []) ≡ flat_map f xs ++ f y
flat_one f [] y = append-nil (f y)
flat_one f (x ∷ xs) y = ap (λ zs. f x ++ zs) (flat_one f xs y) ∙ sym (append_assoc (f x) (flat_map f xs) (f y))

pub lines_more : (i : Image) (n : ℕ) → records_before i (n + 1) ≡ records_before i n ++ map without_sector (line_records i n)
lines_more i n =
    ap (λ xs. map without_sector (flat_map (line_records i) xs)) (range_last 0 n)
    ∙ ap (map without_sector) (flat_one (line_records i) (range_with_len 0 n) (0 + n))
    ∙ map-append without_sector (flat_map (line_records i) (range_with_len 0 n)) (line_records i (0 + n))
    ∙ ap (λ k. map without_sector (flat_map (line_records i) (range_with_len 0 n)) ++ map without_sector (line_records i k)) (zero-add n)

pub head_none : (i : Image) (n : ℕ) → start_of i n ≡ None → head_to i (n + 1) ≡ head_to i n
head_none i n none = head_one i n ∙ ap (λ o. option_map_or (later_start (head_to i n)) o (head_to i n)) none

by_later : (o : Option StartRecord) (r : StartRecord) → later_start o r ≡ cond (is_later o r.seq) (Some r) o
by_later None r = refl
by_later (Some best) r = refl

pub head_some : (i : Image) (n : ℕ) (r : StartRecord) (b : Bool) → start_of i n ≡ Some r → is_later (head_to i n) r.seq ≡ b
    → head_to i (n + 1) ≡ cond b (Some r) (head_to i n)
head_some i n r b some later = head_one i n ∙ ap (λ o. option_map_or (later_start (head_to i n)) o (head_to i n)) some ∙ by_later (head_to i n) r
    ∙ ap (λ x. cond x (Some r) (head_to i n)) later

-- The fronts.

head_by : (b : Bool) (start : Start) (o : Option Start)
    → option_map start_numbers (cond b (Some start) o) ≡ cond b (Some (start_numbers start)) (option_map start_numbers o)
head_by true start o = refl
head_by false start o = refl

fits_by : (b : Bool) (start : Start) (o : Option Start) → HasStartFits start → IfSome o HasStartFits → IfSome (cond b (Some start) o) HasStartFits
fits_by true start o h k = h
fits_by false start o h k = k

module _ (i : Image) (s : Shape) (line g : ℕ) (used : Bool) (bs : List (Option Block)) (shape : i.shape ≡ s) (accepted : IsAccepted s) (fit : IsFit i)
    (is : IsFront i line g used bs) where
  accepted' : IsAccepted i.shape
  accepted' = subst IsAccepted (sym shape) accepted

  start_is : (o : Option StartRecord) → o ≡ start_among s line g bs → start_of i line ≡ o
  start_is o h =
      sym (h ∙ ap (λ x. start_among x line g bs) (sym shape) ∙ ap (λ x. start_among i.shape line x bs) is.width_is
      ∙ ap (start_among i.shape line (width i line)) is.blocks_are ∙ start_of_front i line accepted' fit)

  row_is : (o : Option StartRecord) → start_of i line ≡ o → ◌≡◌ {A = LineStart} (record { seq = option_map (λ r. r.seq) o; used = used }) (line_start i line)
  unfolding line_start
  row_is o h = rw (h, is.used_is) refl

  pub starts_none : (old new : Starts) → None ≡ start_among s line g bs → IsStarts i line old
      → new.lines.items ≡ old.lines.items ++ record { seq = None; used = used } ∷ [] → new.head ≡ old.head → IsStarts i (line + 1) new
  starts_none old new h was lines head =
      let none : start_of i line ≡ None = start_is None h in
      record {
        lines = subst (IsTable (line + 1) (line_start i)) (sym lines)
            (table_push line (line_start i) old.lines.items (record { seq = None; used = used }) was.lines (row_is None none));
        head = ap (option_map start_numbers) head ∙ was.head ∙ sym (head_none i line none);
        fits = subst (λ o. IfSome o HasStartFits) (sym head) was.fits;
      }

  pub starts_some : (old new : Starts) (start : Start) (b : Bool) → Some (start_numbers start) ≡ start_among s line g bs → HasStartFits start
      → IsStarts i line old → new.lines.items ≡ old.lines.items ++ record { seq = Some start.seq; used = used } ∷ []
      → is_later (option_map start_numbers old.head) start.seq ≡ b → new.head ≡ cond b (Some start) old.head → IsStarts i (line + 1) new
  starts_some old new start b h fits was lines later head =
      let some : start_of i line ≡ Some (start_numbers start) = start_is (Some (start_numbers start)) h in
      record {
        lines = subst (IsTable (line + 1) (line_start i)) (sym lines)
            (table_push line (line_start i) old.lines.items (record { seq = Some start.seq; used = used }) was.lines
            (row_is (Some (start_numbers start)) some));
        head = ap (option_map start_numbers) head ∙ head_by b start old.head ∙ ap (λ o. cond b (Some (start_numbers start)) o) was.head
            ∙ sym (head_some i line (start_numbers start) b some (ap (λ o. is_later o start.seq) (sym was.head) ∙ later));
        fits = subst (λ o. IfSome o HasStartFits) (sym head) (fits_by b start old.head fits was.fits);
      }

pub starts_new : (i : Image) (v : Starts) → v.lines.items ≡ [] → v.head ≡ None → IsStarts i 0 v
unfolding head_to
starts_new i v lines head = record {
  lines = subst (IsTable 0 (line_start i)) (sym lines) (record { count = refl; each = λ k below. absurd (omega arith) });
  head = ap (option_map start_numbers) head;
  fits = subst (λ o. IfSome o HasStartFits) (sym head) tt;
}

-- all of them have the head
pub head_all : (i : Image) (n : ℕ) (v : Starts) → IsStarts i n v → n ≡ i.shape.chunks → option_map start_numbers v.head ≡ head i
unfolding head_to
head_all i n v h n-is = h.head ∙ ap (head_to i) n-is

-- The survey.

pub count_new : (i : Image) (sectors lines : ℕ) (c : Count) → i.shape.capacity ≡ sectors → i.shape.chunks ≡ lines
    → ((o : Option StartRecord) → IsCount sectors lines o [] c) → IsCountTo i 0 c
count_new i sectors lines c cap chunks count =
    subst (λ n. IsCount n i.shape.chunks (head i) [] c) (sym cap) (subst (λ n. IsCount sectors n (head i) [] c) (sym chunks) (count (head i)))

pub survey_new : (i : Image) (sectors lines : ℕ) (v : Survey) → i.shape.capacity ≡ sectors → i.shape.chunks ≡ lines → v.lines.items ≡ []
    → ((o : Option StartRecord) → IsCount sectors lines o [] v.count) → IsSurvey i 0 v
survey_new i sectors lines v cap chunks none count = record {
  lines = subst (IsTable 0 (seen_line i)) (sym none) (record { count = refl; each = λ k below. absurd (omega arith) });
  count = count_new i sectors lines v.count cap chunks count;
}

pub seen_more : (i : Image) (line : ℕ) (start : LineStart) (full : Bool) (old now : List SeenLine) → IsSeen i line start full → IsTable line (seen_line i) old
    → now ≡ old ++ record { seq = start.seq; full = full; used = start.used } ∷ [] → IsTable (line + 1) (seen_line i) now
unfolding seen_line line_start
seen_more i line start full old now is table now-is =
    let row : ◌≡◌ {A = SeenLine} (record { seq = start.seq; full = full; used = start.used }) (seen_line i line) =
    ap (λ (x : LineStart). record { seq = x.seq; full = full; used = x.used }) is.start_is
    ∙ ap (λ b. record { seq = (line_start i line).seq; full = b; used = (line_start i line).used }) is.full_is in
    subst (IsTable (line + 1) (seen_line i)) (sym now-is)
    (table_push line (seen_line i) old (record { seq = start.seq; full = full; used = start.used }) table row)

-- a line is passed whose start record isn't whole
pub count_passed : (i : Image) (line : ℕ) (c : Count) → start_of i line ≡ None → IsCountTo i line c → IsCountTo i (line + 1) c
count_passed i line c none was =
    subst (λ xs. IsCount i.shape.capacity i.shape.chunks (head i) xs c)
    (sym (lines_more i line ∙ ap (λ o. records_before i line ++ map without_sector (records_after i line o)) none ∙ append-nil (records_before i line))) was

-- the start record of a line that has a sequence number
pub start_there : (i : Image) (line seq : ℕ) → option_map (λ r. r.seq) (start_of i line) ≡ Some seq
    → (start : StartRecord) × (start_of i line ≡ Some start) × (start.seq ≡ seq)
start_there i line seq is = by (start_of i line) refl is where
  by : (o : Option StartRecord) → start_of i line ≡ o → option_map (λ r. r.seq) o ≡ Some seq
      → (start : StartRecord) × (start_of i line ≡ Some start) × (start.seq ≡ seq)
  by None e h = absurd (none-some seq h)
  by (Some r) e h = (r, e, same_Some r.seq seq h)

pub seq_is : (i : Image) (line seq : ℕ) (start : StartRecord) → option_map (λ r. r.seq) (start_of i line) ≡ Some seq → start_of i line ≡ Some start
    → start.seq ≡ seq
seq_is i line seq start is there = same_Some start.seq seq (sym (ap (option_map (λ (r : StartRecord). r.seq)) there) ∙ is)

-- what is counted so far, where the first addresses of a line were
abbrev pub IsCountAt : Image → ℕ → StartRecord → ℕ → Count → Type 0
IsCountAt i line start at c = IsCount i.shape.capacity i.shape.chunks (head i) (records_before i line ++ records_to i line start at) c

pub count_first : (i : Image) (line : ℕ) (start : StartRecord) (c : Count) → IsCountTo i line c → IsCountAt i line start 0 c
count_first i line start c was =
    subst (λ xs. IsCount i.shape.capacity i.shape.chunks (head i) xs c) (sym (append-nil (records_before i line))) was

-- a line's records were counted, address after address
pub count_through : (i : Image) (line : ℕ) (start : StartRecord) (n : ℕ) (c : Count) → start_of i line ≡ Some start → n ≡ line_len i line
    → IsCountAt i line start n c → IsCountTo i (line + 1) c
count_through i line start n c is n-is was =
    subst (λ xs. IsCount i.shape.capacity i.shape.chunks (head i) xs c)
    (ap (λ xs. records_before i line ++ xs) (records_all i line start n is n-is) ∙ sym (lines_more i line)) was

-- one address more, where nothing is written
pub count_unwritten : (i : Image) (line : ℕ) (start : StartRecord) (at : ℕ) (c : Count) → block_at i line at ≡ None → IsCountAt i line start at c
    → IsCountAt i line start (at + 1) c
count_unwritten i line start at c none was =
    let silent : None ≡ mark_of i line (end_of i line start) at = sym (ap (option_and_then (mark_at i.shape (end_of i line start) at)) none) in
    subst (λ xs. IsCount i.shape.capacity i.shape.chunks (head i) (records_before i line ++ xs) c)
    (sym (records_one i line start (end_of i line start) at None refl silent ∙ append-nil (records_to i line start at))) was

module _ (i : Image) (line : ℕ) (start : StartRecord) (e : Option EndRecord) (at : ℕ) (m : Mount) (s : Shape) (seq : ℕ) (mark : Option Mark) (old new : Count)
    (mount : IsMountOf i m) (shape : s ≡ i.shape) (seq-is : start.seq ≡ seq) (e-is : end_of i line start ≡ e) (mark-is : mark ≡ mark_of i line e at) where
  -- one address more, whose block counts with this mark
  pub count_marked : ((sectors : ℕ) (rs : List Record) → IsCount sectors (length m.rows.items) (head_of m) rs old
      → IsCount sectors (length m.rows.items) (head_of m) (rs ++ cons_option (option_and_then (marked s line seq at) mark) []) new)
      → IsCountAt i line start at old → IsCountAt i line start (at + 1) new
  count_marked step was =
      let before : List Record = records_before i line in
      let front : List Record = records_to i line start at in
      let more : List Record = cons_option (option_and_then (marked s line seq at) mark) [] in
      let at_mount : IsCount i.shape.capacity (length m.rows.items) (head_of m) (before ++ front) old =
      subst (λ n. IsCount i.shape.capacity n (head_of m) (before ++ front) old) (sym mount.lines)
      (subst (λ o. IsCount i.shape.capacity i.shape.chunks o (before ++ front) old) (sym mount.head_is) was) in
      let now = subst (λ n. IsCount i.shape.capacity n (head i) ((before ++ front) ++ more) new) mount.lines
      (subst (λ o. IsCount i.shape.capacity (length m.rows.items) o ((before ++ front) ++ more) new) mount.head_is
      (step i.shape.capacity (before ++ front) at_mount)) in
      let same : more ≡ cons_option (option_and_then (marked i.shape line start.seq at) mark) [] =
      ap (λ x. cons_option (option_and_then (marked x line seq at) mark) []) shape
      ∙ ap (λ x. cons_option (option_and_then (marked i.shape line x at) mark) []) (sym seq-is) in
      subst (λ xs. IsCount i.shape.capacity i.shape.chunks (head i) xs new)
      (append_assoc before front more
      ∙ ap (λ xs. before ++ xs) (ap (λ xs. front ++ xs) same ∙ sym (records_one i line start e at mark (sym e-is) mark-is))) now

-- what calls ask of the mount
pub mount_line : (i : Image) (m : Mount) (line : ℕ) → IsMountOf i m → line < i.shape.chunks → line < length m.rows.items
mount_line i m line mount inside = omega (arith, mount.lines)

pub mount_tops : (i : Image) (m : Mount) (rs : List Record) (c : Count) → IsMountOf i m → IsCount i.shape.capacity i.shape.chunks (head i) rs c
    → length c.tally.tops.items ≡ length m.rows.items
mount_tops i m rs c mount count = count.tally.tops.count ∙ sym mount.lines

-- the pair of a written block
pub pair_is : (i : Image) (line at : ℕ) (e : EndRecord) (b : Block) → block_at i line at ≡ Some b → pair_at i.shape e at ≡ mark_of i line (Some e) at
pair_is i line at e b is = sym (ap (option_and_then (mark_at i.shape (Some e) at)) is)

-- the mark of a block of a line without an end record
pub own_is : (i : Image) (line at : ℕ) (o : Option Block) → block_at i line at ≡ o → option_map (λ b. b.mark) o ≡ mark_of i line None at
own_is i line at o is = own o ∙ sym (ap (option_and_then (mark_at i.shape None at)) is) where
  own : (o : Option Block) → option_map (λ b. b.mark) o ≡ option_and_then (mark_at i.shape None at) o
  own None = refl
  own (Some b) = refl

-- What a line's front tells, and whether the line is full.

pub seq_line : (i : Image) (line : ℕ) (start : LineStart) (o : Option ℕ) → start ≡ line_start i line → start.seq ≡ o
    → option_map (λ r. r.seq) (start_of i line) ≡ o
unfolding line_start
seq_line i line start o is seq-is = sym (ap (λ (x : LineStart). x.seq) is) ∙ seq-is

no_start : (o : Option StartRecord) → option_map (λ r. r.seq) o ≡ None → o ≡ None
no_start None h = refl
no_start (Some r) h = absurd (none-some r.seq (sym h))

pub none_there : (i : Image) (line : ℕ) (start : LineStart) → start ≡ line_start i line → start.seq ≡ None → start_of i line ≡ None
none_there i line start is none = no_start (start_of i line) (seq_line i line start None is none)

pub not_full : (i : Image) (line : ℕ) → start_of i line ≡ None → is_full i line ≡ false
not_full i line none = ap (λ o. option_map_or (λ start. is_some (end_of i line start)) o false) none

pub full_is : (i : Image) (line : ℕ) (start : StartRecord) (o : Option EndRecord) → start_of i line ≡ Some start → end_of i line start ≡ o
    → is_full i line ≡ is_some o
full_is i line start o is end = ap (λ o. option_map_or (λ start. is_some (end_of i line start)) o false) is ∙ ap is_some end

pub end_read : (i : Image) (line : ℕ) (start : StartRecord) (s : Shape) (g seq : ℕ) (bs : List (Option Block)) (o : Option EndRecord) → IsAccepted i.shape
    → IsFit i → s ≡ i.shape → g ≡ width i line → start.seq ≡ seq → bs ≡ tail_blocks i line → o ≡ end_among s line g seq bs → o ≡ end_of i line start
end_read i line start s g seq bs o accepted fit shape wide seq-is blocks is =
    is ∙ ap (λ x. end_among x line g seq bs) shape ∙ ap (λ x. end_among i.shape line x seq bs) wide
    ∙ ap (λ x. end_among i.shape line (width i line) x bs) (sym seq-is) ∙ ap (end_among i.shape line (width i line) start.seq) blocks
    ∙ end_of_tail i line start accepted fit

-- How many blocks stand at a line's front and at its end, as the code counts them.

pub start_few : (s t : Shape) (n len to : ℕ) → t ≡ s → n ≡ start_len t → to ≡ min n len → to - 0 ≤ start_len s
start_few s t n len to shape n-is to-is = let same : start_len t ≡ start_len s = ap start_len shape in omega (arith, same, n-is, to-is)

pub front_count : (i : Image) (line : ℕ) (t : Shape) (n len to : ℕ) → t ≡ i.shape → n ≡ start_len t → len ≡ line_len i line → to ≡ min n len
    → to - 0 ≡ min (start_len i.shape) (line_len i line)
front_count i line t n len to shape n-is len-is to-is =
    let same : start_len t ≡ start_len i.shape = ap start_len shape in omega (arith, same, n-is, len-is, to-is)

pub end_few : (s t : Shape) (g width n len from : ℕ) → t ≡ s → g ≡ width → n ≡ end_len t g → from ≡ len - n → len - from ≤ end_len s width
end_few s t g width n len from shape wide n-is from-is =
    let same : end_len t g ≡ end_len s width = ap (λ x. end_len x g) shape ∙ ap (end_len s) wide in omega (arith, same, n-is, from-is)

pub tail_is : (i : Image) (line : ℕ) (t : Shape) (g n len from : ℕ) → t ≡ i.shape → g ≡ width i line → n ≡ end_len t g → len ≡ line_len i line
    → from ≡ len - n → blocks_at i line from (len - from) ≡ tail_blocks i line
tail_is i line t g n len from shape wide n-is len-is from-is =
    let same : end_len t g ≡ end_len i.shape (width i line) = ap (λ x. end_len x g) shape ∙ ap (end_len i.shape) wide in
    let first : from ≡ line_len i line - end_len i.shape (width i line) = omega (arith, same, n-is, len-is, from-is) in
    ap (λ k. blocks_at i line k (len - k)) first
    ∙ ap (λ m. blocks_at i line (line_len i line - end_len i.shape (width i line)) (m - (line_len i line - end_len i.shape (width i line)))) len-is
