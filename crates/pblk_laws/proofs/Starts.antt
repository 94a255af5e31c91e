-- Start records: what is spelled is read, and what is read was spelled.
use Rattle.std.proofs.Common.{◌≡◌, ℕ, ◌+◌, ◌-◌, ◌*◌, ◌^◌, ◌<◌, ◌≤◌, zero, suc, Bool, true, cond, ◌&&◌, not, eqb, ltb, leb, Option, Some, None, List, [], ◌∷◌, ◌++◌, length, drop, refl, sym, ap, ◌∙◌, subst, arith, length-append}
use Rattle.std.proofs.lemmas.List.{length-replicate}
use Rattle.std.specs.List.{AllByRecursion, slice_get, flat_map}
use Rattle.std.specs.Option.{option_and_then}
use Rattle.std.specs.Str.{bytes_eq}
use Rattle.std.specs.Int.{w32, bytes_low_first}
use Rattle.std.proofs.lemmas.Bool.{and_parts, and_from, eqb-true, eq-eqb, ltb-true, leb-true}
use Rattle.std.proofs.lemmas.Option.{cond_some, none-some}
use Rattle.std.proofs.lemmas.Slice.Eq.{bytes_eq-Decides}
use Rattle.std.proofs.lemmas.Nat.{from_le_bytes-to_le_bytes_4, from_le_bytes-to_le_bytes_8}
use Rattle.pblk_model.specs.declared.shape.Shape.{Shape}
use Rattle.pblk_model.specs.declared.chunk.Mark.{Mark}
use Rattle.pblk_model.specs.Accepted.{IsAccepted}
use Rattle.pblk_model.specs.Bytes.{le16, le32, le64, zeros, number_at, padded_to}
use Rattle.pblk_model.specs.Chunk.{Block}
use Rattle.pblk_model.specs.LineOrder.{start_len}
use Rattle.pblk_model.specs.Marks.{meta_lba, meta_mark}
use Rattle.pblk_model.specs.Image.{Image, width, block_at}
use Rattle.pblk_model.specs.StartRecord.{Row, StartRecord, magic, row_bytes, start_bytes, rows_fit, start_fits, rows_in, start_in, read_start, written_run, have_meta, marked_start, start_of}
use Rattle.pblk_laws.specs.StartBlocks.{AreStart}
use Rattle.pblk_model.proofs.LeastLengths.{start_len_least, sector_at_least}
use Rattle.pblk_laws.proofs.Runs.{run_some, run_is}
use Rattle.pblk_model.proofs.Lists.{all_append, all_replicated}
use Rattle.pblk_model.proofs.Numbers.{byte_is}

-- The numbers fit their fields.

pub record RowFits (r : Row) : Type 0 where
  pub line : r.line < 2 ^ 32
  pub seq : r.seq < 2 ^ 64
  pub bound : r.bound < 2 ^ 64

pub record FitsFields (r : StartRecord) : Type 0 where
  pub line : r.line < 2 ^ 32
  pub width : r.width < 2 ^ 32
  pub seq : r.seq < 2 ^ 64
  pub first_seq : r.first_seq < 2 ^ 64
  pub front : r.front < 2 ^ 64
  pub capacity : r.capacity < 2 ^ 64
  pub count : length r.rows < 2 ^ 32
  pub rows : AllByRecursion RowFits r.rows

-- Whether a record's numbers are those of a line.
pub record HasNumbers (s : Shape) (l g : ℕ) (r : StartRecord) : Type 0 where
  pub line : r.line ≡ l
  pub width : r.width ≡ g
  pub capacity : r.capacity ≡ s.capacity
  pub some_first : 1 ≤ r.first_seq
  pub first_seq : r.first_seq ≤ r.seq
  pub seq : r.seq < 2 ^ 61
  pub front : r.front < 2 ^ 61
  pub few : length r.rows ≤ s.chunks - 1
  pub rows : rows_fit s r 0 r.rows ≡ true

pub numbers : (s : Shape) (line g : ℕ) (r : StartRecord) → start_fits s line g r ≡ true → HasNumbers s line g r
numbers s line g r h =
    let p8 = and_parts _ (rows_fit s r 0 r.rows) h in
    let p7 = and_parts _ (leb (length r.rows) (s.chunks - 1)) p8.0 in
    let p6 = and_parts _ (ltb r.front (2 ^ 61)) p7.0 in
    let p5 = and_parts _ (ltb r.seq (2 ^ 61)) p6.0 in
    let p4 = and_parts _ (leb r.first_seq r.seq) p5.0 in
    let p3 = and_parts _ (leb 1 r.first_seq) p4.0 in
    let p2 = and_parts _ (eqb r.capacity s.capacity) p3.0 in
    let p1 = and_parts (eqb r.line line) (eqb r.width g) p2.0 in
    record {
      line = eqb-true r.line line p1.0;
      width = eqb-true r.width g p1.1;
      capacity = eqb-true r.capacity s.capacity p2.1;
      some_first = leb-true 1 r.first_seq p3.1;
      first_seq = leb-true r.first_seq r.seq p4.1;
      seq = ltb-true r.seq (2 ^ 61) p5.1;
      front = ltb-true r.front (2 ^ 61) p6.1;
      few = leb-true (length r.rows) (s.chunks - 1) p7.1;
      rows = p8.1;
    }

pub rows_fit_fields : (s : Shape) (r : StartRecord) (least : ℕ) (rows : List Row) → s.chunks < 2 ^ 32 → r.first_seq < 2 ^ 64 → r.front < 2 ^ 64
    → rows_fit s r least rows ≡ true → AllByRecursion RowFits rows
rows_fit_fields s r least [] lines first front h = tt
rows_fit_fields s r least (row ∷ rows) lines first front h =
    let p6 = and_parts _ (rows_fit s r (row.line + 1) rows) h in
    let p5 = and_parts _ (leb row.bound r.front) p6.0 in
    let p4 = and_parts _ (ltb row.seq r.first_seq) p5.0 in
    let p3 = and_parts _ (leb 1 row.seq) p4.0 in
    let p2 = and_parts _ (not (eqb row.line r.line)) p3.0 in
    let p1 = and_parts (leb least row.line) (ltb row.line s.chunks) p2.0 in
    let below : row.line < s.chunks = ltb-true row.line s.chunks p1.1 in
    let older : row.seq < r.first_seq = ltb-true row.seq r.first_seq p4.1 in
    let bounded : row.bound ≤ r.front = leb-true row.bound r.front p5.1 in (
      record { line = omega arith; seq = omega arith; bound = omega arith },
      rows_fit_fields s r (row.line + 1) rows lines first front p6.1,
    )

pub fields_fit : (s : Shape) (line g : ℕ) (r : StartRecord) → IsAccepted s → line < s.chunks → g < 2 ^ 32 → start_fits s line g r ≡ true → FitsFields r
fields_fit s line g r accepted inside wide h =
    let n = numbers s line g r h in
    let lines : s.chunks ≤ 1024 = accepted.drive.lines_high in
    let sectors : s.capacity < 2 ^ 40 = accepted.target.capacity_number in
    record {
      line = omega arith;
      width = omega arith;
      seq = omega arith;
      first_seq = omega arith;
      front = omega arith;
      capacity = omega arith;
      count = omega arith;
      rows = rows_fit_fields s r 0 r.rows (omega arith) (omega arith) (omega arith) n.rows;
    }

-- What stands at the fields' places.

same_row : (x : Row) (line seq bound : ℕ) → line ≡ x.line → seq ≡ x.seq → bound ≡ x.bound → ◌≡◌ {A = Row} (record { line = line; seq = seq; bound = bound }) x
same_row x line seq bound p q r = rw (p, q, r) refl

pub rows_back : (rows : List Row) (rest : List ℕ) → AllByRecursion RowFits rows → rows_in (length rows) (flat_map row_bytes rows ++ rest) ≡ rows
unfolding rows_in zeros
rows_back [] rest h = refl
rows_back (row ∷ rows) rest h =
    let first = same_row row _ _ _ (from_le_bytes-to_le_bytes_4 row.line h.0.line) (from_le_bytes-to_le_bytes_8 row.seq h.0.seq)
    (from_le_bytes-to_le_bytes_8 row.bound h.0.bound) in
    ap (λ x. x ∷ rows_in (length rows) (flat_map row_bytes rows ++ rest)) first ∙ ap (λ xs. row ∷ xs) (rows_back rows rest h.1)

same_start : (x : StartRecord) (line width seq first_seq front capacity : ℕ) (rows : List Row) → line ≡ x.line → width ≡ x.width → seq ≡ x.seq
    → first_seq ≡ x.first_seq → front ≡ x.front → capacity ≡ x.capacity → rows ≡ x.rows
    → ◌≡◌ {A = StartRecord} (record { line = line; width = width; seq = seq; first_seq = first_seq; front = front; capacity = capacity; rows = rows }) x
same_start x line width seq first_seq front capacity rows p q r s t u v = rw (p, q, r, s, t, u, v) refl

-- the record's spelling, before what fills up its blocks
abbrev pub spelled : StartRecord → List ℕ
spelled r = le32 magic ++ le16 1 ++ le16 1 ++ le32 r.line ++ le32 r.width ++ le64 r.seq ++ le64 r.first_seq ++ le64 r.front
    ++ le64 r.capacity ++ le32 (length r.rows) ++ zeros 12 ++ flat_map row_bytes r.rows

pub rows_at : (r : StartRecord) (pad : List ℕ) → FitsFields r → rows_in (number_at w32 48 (spelled r ++ pad)) (drop 64 (spelled r ++ pad)) ≡ r.rows
unfolding zeros
rows_at r pad h =
    let count : number_at w32 48 (spelled r ++ pad) ≡ length r.rows = from_le_bytes-to_le_bytes_4 (length r.rows) h.count in
    ap (λ n. rows_in n (flat_map row_bytes r.rows ++ pad)) count ∙ rows_back r.rows pad h.rows

pub start_back : (r : StartRecord) (pad : List ℕ) → FitsFields r → start_in (spelled r ++ pad) ≡ r
unfolding zeros
start_back r pad h = same_start r _ _ _ _ _ _ _
    (from_le_bytes-to_le_bytes_4 r.line h.line)
    (from_le_bytes-to_le_bytes_4 r.width h.width)
    (from_le_bytes-to_le_bytes_8 r.seq h.seq)
    (from_le_bytes-to_le_bytes_8 r.first_seq h.first_seq)
    (from_le_bytes-to_le_bytes_8 r.front h.front)
    (from_le_bytes-to_le_bytes_8 r.capacity h.capacity)
    (rows_at r pad h)

-- Reading.

chosen : {A : Type 0} (fits same : A → Bool) (x r : A) → x ≡ r → fits r ≡ true → same r ≡ true → cond (fits x && same x) (Some x) None ≡ Some r
chosen fits same x r e p q =
    let all : (fits x && same x) ≡ true = and_from (fits x) (same x) (ap fits e ∙ p) (ap same e ∙ q) in
    ap (λ b. cond b (Some x) None) all ∙ ap Some e

pub read_back : (s : Shape) (line g : ℕ) (r : StartRecord) → FitsFields r → start_fits s line g r ≡ true → read_start s line g (start_bytes s r) ≡ Some r
read_back s line g r fields fits =
    chosen (start_fits s line g) (λ x. bytes_eq (start_bytes s x) (start_bytes s r)) (start_in (start_bytes s r)) r
    (start_back r (zeros (start_len s * s.sector - length (spelled r))) fields) fits ((bytes_eq-Decides (start_bytes s r) (start_bytes s r)).1 refl)

pub read_spelled : (s : Shape) (line g : ℕ) (r : StartRecord) (bytes : List ℕ) → read_start s line g bytes ≡ Some r
    → (bytes ≡ start_bytes s r) × (start_fits s line g r ≡ true)
read_spelled s line g r bytes h =
    let read = cond_some (start_fits s line g (start_in bytes) && bytes_eq (start_bytes s (start_in bytes)) bytes) (start_in bytes) r h in
    let tests = and_parts (start_fits s line g (start_in bytes)) (bytes_eq (start_bytes s (start_in bytes)) bytes) read.0 in (
      sym ((bytes_eq-Decides (start_bytes s (start_in bytes)) bytes).0 tests.1) ∙ ap (start_bytes s) read.1,
      subst (λ x. start_fits s line g x ≡ true) read.1 tests.0,
    )

-- Blocks.

pub marked : (seq : ℕ) (blocks : List Block) → AllByRecursion (λ b. b.mark ≡ meta_mark seq) blocks → have_meta seq blocks ≡ true
marked seq [] h = refl
marked seq (b ∷ bs) h =
    let lba : eqb b.mark.lba meta_lba ≡ true = eq-eqb b.mark.lba meta_lba (ap (λ (m : Mark). m.lba) h.0) in
    let position : eqb b.mark.position seq ≡ true = eq-eqb b.mark.position seq (ap (λ (m : Mark). m.position) h.0) in
    and_from _ (have_meta seq bs) (and_from _ _ lba position) (marked seq bs h.1)

marked_some : (blocks : List Block) (o : Option StartRecord) (r : StartRecord) → o ≡ Some r → have_meta r.seq blocks ≡ true → marked_start blocks o ≡ Some r
marked_some blocks o r e h = ap (marked_start blocks) e ∙ ap (λ b. cond b (Some r) None) h

pub found : (i : Image) (line : ℕ) (r : StartRecord) (blocks : List Block) → length blocks ≡ start_len i.shape
    → ((k : ℕ) → k < start_len i.shape → block_at i line k ≡ slice_get blocks k)
    → read_start i.shape line (width i line) (flat_map (λ (b : Block). b.sector) blocks) ≡ Some r
    → have_meta r.seq blocks ≡ true → start_of i line ≡ Some r
found i line r blocks counted each read marks =
    let run : written_run i line 0 (length blocks) ≡ Some blocks =
    run_some i line 0 blocks (λ k h. subst (λ x. block_at i line x ≡ slice_get blocks k) (omega arith) (each k (omega arith))) in
    let whole : written_run i line 0 (start_len i.shape) ≡ Some blocks = subst (λ n. written_run i line 0 n ≡ Some blocks) counted run in
    ap (option_and_then (λ blocks. marked_start blocks (read_start i.shape line (width i line) (flat_map (λ (b : Block). b.sector) blocks)))) whole
    ∙ marked_some blocks (read_start i.shape line (width i line) (flat_map (λ (b : Block). b.sector) blocks)) r read marks

same_mark : (m : Mark) (lba position : ℕ) → m.lba ≡ lba → m.position ≡ position → ◌≡◌ {A = Mark} m (record { lba = lba; position = position })
same_mark m lba position p q = rw (sym p, sym q) refl

pub marks_of : (seq : ℕ) (blocks : List Block) → have_meta seq blocks ≡ true → AllByRecursion (λ b. b.mark ≡ meta_mark seq) blocks
marks_of seq [] h = tt
marks_of seq (b ∷ bs) h =
    let parts = and_parts (eqb b.mark.lba meta_lba && eqb b.mark.position seq) (have_meta seq bs) h in
    let both = and_parts (eqb b.mark.lba meta_lba) (eqb b.mark.position seq) parts.0 in
    (same_mark b.mark meta_lba seq (eqb-true b.mark.lba meta_lba both.0) (eqb-true b.mark.position seq both.1), marks_of seq bs parts.1)

marked_is : (blocks : List Block) (o : Option StartRecord) (r : StartRecord) → marked_start blocks o ≡ Some r → (o ≡ Some r) × (have_meta r.seq blocks ≡ true)
marked_is blocks None r h = absurd (none-some r h)
marked_is blocks (Some x) r h =
    let parts = cond_some (have_meta x.seq blocks) x r h in
    (ap Some parts.1, subst (λ (y : StartRecord). have_meta y.seq blocks ≡ true) parts.1 parts.0)

start_from : (i : Image) (line : ℕ) (r : StartRecord) (run : Option (List Block))
    → option_and_then (λ blocks. marked_start blocks (read_start i.shape line (width i line) (flat_map (λ (b : Block). b.sector) blocks))) run ≡ Some r
    → (blocks : List Block) × (run ≡ Some blocks)
    × (marked_start blocks (read_start i.shape line (width i line) (flat_map (λ (b : Block). b.sector) blocks)) ≡ Some r)
start_from i line r None h = absurd (none-some r h)
start_from i line r (Some blocks) h = (blocks, refl, h)

pub found_is : (i : Image) (line : ℕ) (r : StartRecord) → start_of i line ≡ Some r
    → (start_fits i.shape line (width i line) r ≡ true) × (blocks : List Block) × AreStart i line r blocks
found_is i line r h =
    let from = start_from i line r (written_run i line 0 (start_len i.shape)) h in
    let run = run_is i line 0 (start_len i.shape) from.0 from.1 in
    let marks = marked_is from.0 (read_start i.shape line (width i line) (flat_map (λ (b : Block). b.sector) from.0)) r from.2 in
    let read = read_spelled i.shape line (width i line) r (flat_map (λ (b : Block). b.sector) from.0) marks.0 in (
      read.1,
      from.0,
      record {
        count = run.count;
        written = λ k below. subst (λ x. block_at i line x ≡ slice_get from.0 k) (omega arith) (run.written k below);
        bytes = read.0;
        marks = marks_of r.seq from.0 marks.1;
      },
    )

-- How long the spelling is, and that it is made of bytes.

rows_length : (rows : List Row) → length (flat_map row_bytes rows) ≡ 24 * length rows
unfolding zeros
rows_length [] = refl
rows_length (row ∷ rows) = let rest : length (flat_map row_bytes rows) ≡ 24 * length rows = rows_length rows in omega arith

pub spelled_length : (r : StartRecord) → length (spelled r) ≡ 64 + 24 * length r.rows
unfolding zeros
spelled_length r = let rows : length (flat_map row_bytes r.rows) ≡ 24 * length r.rows = rows_length r.rows in omega arith

pub padded_length : (n : ℕ) (bytes : List ℕ) → length bytes ≤ n → length (padded_to n bytes) ≡ n
unfolding zeros
padded_length n bytes h = simp (length-append, length-replicate) (omega arith)

pub start_bytes_length : (s : Shape) (line g : ℕ) (r : StartRecord) → IsAccepted s → start_fits s line g r ≡ true
    → length (start_bytes s r) ≡ start_len s * s.sector
start_bytes_length s line g r accepted fits =
    let n = numbers s line g r fits in
    let holds : 64 + 24 * (s.chunks - 1) ≤ start_len s * s.sector =
    (start_len_least s accepted.drive.ws_opt (omega (arith, sector_at_least s accepted))).holds in
    let few : length r.rows ≤ s.chunks - 1 = n.few in
    padded_length (start_len s * s.sector) (spelled r) (omega (arith, spelled_length r))

-- each number of a list is a byte
pub record AreBytes (xs : List ℕ) : Type 0 where
  pub each : AllByRecursion (λ x. x < 256) xs

low_bytes : (i k n : ℕ) → AllByRecursion (λ x. x < 256) (bytes_low_first i k n)
low_bytes i zero n = tt
low_bytes i (suc k) n = (byte_is i n, low_bytes (suc i) k n)

pub two : (n : ℕ) → AreBytes (le16 n)
two n = record { each = low_bytes 0 2 n }

pub four : (n : ℕ) → AreBytes (le32 n)
four n = record { each = low_bytes 0 4 n }

pub eight : (n : ℕ) → AreBytes (le64 n)
eight n = record { each = low_bytes 0 8 n }

pub some_zeros : (n : ℕ) → AreBytes (zeros n)
unfolding zeros
some_zeros n = record { each = all_replicated (λ x. x < 256) n 0 (omega arith) }

pub ◌then◌ : {xs ys : List ℕ} → AreBytes xs → AreBytes ys → AreBytes (xs ++ ys)
◌then◌ {xs} {ys} h k = record { each = all_append (λ x. x < 256) xs ys h.each k.each }

infixl 5 ◌then◌
rows_are : (rows : List Row) → AreBytes (flat_map row_bytes rows)
rows_are [] = record { each = tt }
rows_are (row ∷ rows) = (four row.line then some_zeros 4 then eight row.seq then eight row.bound) then rows_are rows

pub start_bytes_are : (s : Shape) (r : StartRecord) → AllByRecursion (λ x. x < 256) (start_bytes s r)
start_bytes_are s r =
    let text : AreBytes (spelled r) =
    four magic then two 1 then two 1 then four r.line then four r.width then eight r.seq then eight r.first_seq then eight r.front
    then eight r.capacity then four (length r.rows) then some_zeros 12 then rows_are r.rows in
    all_append (λ x. x < 256) (spelled r) (zeros (start_len s * s.sector - length (spelled r))) text.each
    (some_zeros (start_len s * s.sector - length (spelled r))).each
