-- Lines of two images over one shape: their units, their blocks, and their records.
use Rattle.std.proofs.Common.{◌≡◌, ℕ, ◌+◌, ◌-◌, ◌*◌, ◌<◌, ◌≤◌, zero, suc, Bool, true, false, cond, Option, Some, None, List, [], ◌∷◌, ◌++◌, map, length, refl, sym, ap, ◌∙◌, subst, arith}
use Rattle.std.specs.List.{AllByRecursion, slice_get, filter, filter_map, flat_map, fold, enumerate_from, range_with_len, cons_option}
use Rattle.std.specs.Option.{option_and_then, option_map_or}
use Rattle.std.proofs.Math.Path.{fun_ext}
use Rattle.std.proofs.lemmas.Option.{none-some, same_Some}
use Rattle.pblk_model.specs.declared.shape.Shape.{Shape}
use Rattle.pblk_model.specs.Bytes.{zeros}
use Rattle.pblk_model.specs.Chunk.{Chunk, Block}
use Rattle.pblk_model.specs.LineOrder.{start_len, end_len, column_of, block_of}
use Rattle.pblk_model.specs.Marks.{meta_mark}
use Rattle.pblk_model.specs.Image.{Image, is_online_in, line_chunks, line_units, width, block_at}
use Rattle.pblk_model.specs.StartRecord.{StartRecord, read_start, written_run, marked_start, start_of}
use Rattle.pblk_model.specs.EndRecord.{EndRecord, end_of}
use Rattle.pblk_model.specs.Records.{Record, mark_at, bears, record_at, records_after, line_records, records}
use Rattle.pblk_model.specs.Contents.{later_start, head, end_after, counted_after, counted, winner}
use Rattle.pblk_laws.specs.LineBlocks.{chunk_in, written_at}
use Rattle.pblk_laws.specs.StartBlocks.{AreStart}
use Rattle.pblk_laws.specs.EndBlocks.{IsEndOf, AreEnd}
use Rattle.pblk_laws.proofs.LineUnits.{line_units_count, line_units_chunks}
use Rattle.pblk_laws.proofs.Runs.{run_some}
use Rattle.pblk_laws.proofs.Starts.{found_is}
use Rattle.pblk_laws.proofs.EndSpelling.{end_found, end_written}
use Rattle.world_laws.specs.SameImages.{HoldsTheSame}
use Rattle.pblk_model.proofs.Parts.{all_get}

abbrev pub img : Shape → List (List Chunk) → Image
img s us = record { shape = s; units = us }

-- an image is that of its shape and its units
pub same_img : (j : Image) (s : Shape) → j.shape ≡ s → j ≡ img s j.units
same_img j s e = ap (λ (x : Shape). img x j.units) e

-- The units of a line.

abbrev is_on : ℕ → ℕ × List Chunk → Bool
is_on line unit = option_map_or (λ (c : Chunk). is_online_in c.state) (slice_get unit.1 line) false

abbrev on_at : ℕ → List (List Chunk) → ℕ → Bool
on_at line us k = option_map_or (λ (chunks : List Chunk). is_on line (k, chunks)) (slice_get us k) false

firsts : (b : Bool) (n : ℕ) (xs ys : List Chunk) (rest more : List (ℕ × List Chunk))
    → map (λ (u : ℕ × List Chunk). u.0) rest ≡ map (λ (u : ℕ × List Chunk). u.0) more
    → map (λ (u : ℕ × List Chunk). u.0) (cond b ((n, xs) ∷ rest) rest) ≡ map (λ (u : ℕ × List Chunk). u.0) (cond b ((n, ys) ∷ more) more)
firsts true n xs ys rest more e = ap (λ ns. n ∷ ns) e
firsts false n xs ys rest more e = e

same_units : (line n : ℕ) (us vs : List (List Chunk)) → length vs ≡ length us → ((k : ℕ) → on_at line vs k ≡ on_at line us k)
    → map (λ (u : ℕ × List Chunk). u.0) (filter (is_on line) (enumerate_from n vs)) ≡ map (λ (u : ℕ × List Chunk). u.0)
    (filter (is_on line) (enumerate_from n us))
same_units line n [] [] e h = refl
same_units line n [] (v ∷ vs) e h = absurd (omega arith)
same_units line n (u ∷ us) [] e h = absurd (omega arith)
same_units line n (u ∷ us) (v ∷ vs) e h =
    ap (λ b. map (λ (u : ℕ × List Chunk). u.0)
    (cond b ((n, v) ∷ filter (is_on line) (enumerate_from (n + 1) vs)) (filter (is_on line) (enumerate_from (n + 1) vs)))) (h 0)
    ∙ firsts (is_on line (n, u)) n v u (filter (is_on line) (enumerate_from (n + 1) vs)) (filter (is_on line) (enumerate_from (n + 1) us))
    (same_units line (n + 1) us vs (omega arith) (λ k. h (suc k)))

-- whether a unit has a chunk of the line, by that chunk
on_chunk : (line k : ℕ) (o : Option (List Chunk))
    → option_map_or (λ (chunks : List Chunk). is_on line (k, chunks)) o false ≡ option_map_or (λ (c : Chunk). is_online_in c.state)
    (option_and_then (λ chunks. slice_get chunks line) o) false
on_chunk line k None = refl
on_chunk line k (Some chunks) = refl

-- The units of a line, and the block at a line address by them.

pub units_same : (s : Shape) (us vs : List (List Chunk)) (l : ℕ) → length vs ≡ length us
    → ((k : ℕ) → option_map_or (λ (c : Chunk). is_online_in c.state) (chunk_in (img s vs) l k) false ≡ option_map_or (λ (c : Chunk). is_online_in c.state)
    (chunk_in (img s us) l k) false)
    → line_units (img s vs) l ≡ line_units (img s us) l
units_same s us vs l count h = same_units l 0 us vs count (λ k. on_chunk l k (slice_get vs k) ∙ h k ∙ sym (on_chunk l k (slice_get us k)))

pub width_same : (s : Shape) (us vs : List (List Chunk)) (l : ℕ) → line_units (img s vs) l ≡ line_units (img s us) l → width (img s vs) l ≡ width (img s us) l
width_same s us vs l same = sym (line_units_count (img s vs) l) ∙ ap length same ∙ line_units_count (img s us) l

-- the block of this number in a unit's chunk of the line
abbrev pub read_by : Image → ℕ → ℕ → Option ℕ → Option Block
read_by i l b o = option_and_then (λ u. written_at i l (u, b)) o

pub line_block : (i : Image) (l a : ℕ)
    → block_at i l a ≡ read_by i l (block_of i.shape (width i l) a) (slice_get (line_units i l) (column_of i.shape (width i l) a))
line_block i l a = ap (option_and_then (λ (c : Chunk). slice_get c.blocks (block_of i.shape (width i l) a)))
    (line_units_chunks i l (column_of i.shape (width i l) a))
    ∙ through (block_of i.shape (width i l) a) (slice_get (line_units i l) (column_of i.shape (width i l) a)) where
      through : (b : ℕ) (o : Option ℕ) → option_and_then (λ (c : Chunk). slice_get c.blocks b) (option_and_then (chunk_in i l) o) ≡ read_by i l b o
      through b None = refl
      through b (Some u) = refl

-- the block of the one, at the place where that of the other is
pub block_there : (s : Shape) (us vs : List (List Chunk)) (l a : ℕ) → line_units (img s vs) l ≡ line_units (img s us) l
    → block_at (img s vs) l a ≡ read_by (img s vs) l (block_of s (width (img s us) l) a)
    (slice_get (line_units (img s us) l) (column_of s (width (img s us) l) a))
block_there s us vs l a same =
    line_block (img s vs) l a
    ∙ ap (λ g. read_by (img s vs) l (block_of s g a) (slice_get (line_units (img s vs) l) (column_of s g a))) (width_same s us vs l same)
    ∙ ap (λ xs. read_by (img s vs) l (block_of s (width (img s us) l) a) (slice_get xs (column_of s (width (img s us) l) a))) same

-- Lists.

pub all_there : (P : Chunk → Type 0) (line : ℕ) (us : List (List Chunk)) (unit : ℕ) (c : Chunk)
    → AllByRecursion P (filter (λ c. is_online_in c.state) (filter_map (λ unit. slice_get unit line) us))
    → option_and_then (λ chunks. slice_get chunks line) (slice_get us unit) ≡ Some c → is_online_in c.state ≡ true → P c
all_there P line [] unit c h there on = absurd (none-some c there)
all_there P line (u ∷ us) zero c h there on = here (slice_get u line) h there where
  kept : (b : Bool) (rest : List Chunk) → b ≡ true → AllByRecursion P (cond b (c ∷ rest) rest) → P c
  kept true rest e k = k.0
  kept false rest e k = absurd cc

  here : (o : Option Chunk) → AllByRecursion P (filter (λ c. is_online_in c.state) (cons_option o (filter_map (λ unit. slice_get unit line) us))) → o ≡ Some c
      → P c
  here None k e = absurd (none-some c e)
  here (Some d) k e = kept (is_online_in c.state) (filter (λ c. is_online_in c.state) (filter_map (λ unit. slice_get unit line) us)) on
      (subst (λ (x : Chunk). AllByRecursion P (filter (λ c. is_online_in c.state) (x ∷ filter_map (λ unit. slice_get unit line) us))) (same_Some d c e) k)
all_there P line (u ∷ us) (suc unit) c h there on = all_there P line us unit c (rest (slice_get u line) h) there on where
  dropped : (b : Bool) (d : Chunk) (more : List Chunk) → AllByRecursion P (cond b (d ∷ more) more) → AllByRecursion P more
  dropped true d more k = k.1
  dropped false d more k = k

  rest : (o : Option Chunk) → AllByRecursion P (filter (λ c. is_online_in c.state) (cons_option o (filter_map (λ unit. slice_get unit line) us)))
      → AllByRecursion P (filter (λ c. is_online_in c.state) (filter_map (λ unit. slice_get unit line) us))
  rest None k = k
  rest (Some d) k = dropped (is_online_in d.state) d (filter (λ c. is_online_in c.state) (filter_map (λ unit. slice_get unit line) us)) k

pub both_ways : {X : Type 0} (o p : Option X) → ((x : X) → o ≡ Some x → p ≡ Some x) → ((x : X) → p ≡ Some x → o ≡ Some x) → o ≡ p
both_ways None None f g = refl
both_ways None (Some y) f g = g y refl
both_ways (Some x) p f g = sym (f x refl)

-- A start record that stands in one image stands in another that has the line's width and the
-- record's blocks.

pub there : (blocks : List Block) (k n : ℕ) → length blocks ≡ n → k < n → (b : Block) × (slice_get blocks k ≡ Some b)
there [] k n e h = absurd (omega arith)
there (b ∷ blocks) zero n e h = (b, refl)
there (b ∷ blocks) (suc k) n e h = there blocks k (length blocks) refl (omega arith)

abbrev start_with : Shape → ℕ → ℕ → List Block → Option StartRecord
start_with s l g blocks = marked_start blocks (read_start s l g (flat_map (λ b. b.sector) blocks))

pub start_carry : (s : Shape) (us vs : List (List Chunk)) (l : ℕ) (r : StartRecord) → width (img s vs) l ≡ width (img s us) l → start_of (img s us) l ≡ Some r
    → ((a : ℕ) (b : Block) → block_at (img s us) l a ≡ Some b → b.mark ≡ meta_mark r.seq → block_at (img s vs) l a ≡ Some b) → start_of (img s vs) l ≡ Some r
start_carry s us vs l r same e carry =
    let f = found_is (img s us) l r e in
    let blocks : List Block = f.1 in
    let are : AreStart (img s us) l r blocks = f.2 in
    let n : ℕ = start_len s in
    let each : (k : ℕ) → k < n → block_at (img s us) l k ≡ slice_get blocks k = are.written in
    let run_u : written_run (img s us) l 0 n ≡ Some blocks =
    subst (λ m. written_run (img s us) l 0 m ≡ Some blocks) are.count
    (run_some (img s us) l 0 blocks (λ k h. subst (λ x. block_at (img s us) l x ≡ slice_get blocks k) (omega arith) (each k (omega (arith, are.count))))) in
    let moved : (k : ℕ) → k < n → block_at (img s vs) l k ≡ slice_get blocks k =
    λ k h. (let b = there blocks k n are.count h in carry k b.0 (each k h ∙ b.1)
    (all_get (λ (b : Block). b.mark ≡ meta_mark r.seq) blocks k b.0 are.marks b.1) ∙ sym b.1) in
    let run_v : written_run (img s vs) l 0 n ≡ Some blocks =
    subst (λ m. written_run (img s vs) l 0 m ≡ Some blocks) are.count
    (run_some (img s vs) l 0 blocks
    (λ k h. subst (λ x. block_at (img s vs) l x ≡ slice_get blocks k) (omega arith) (moved k (omega (arith, are.count))))) in
    ap (option_and_then (start_with s l (width (img s vs) l))) run_v ∙ ap (λ g. start_with s l g blocks) same
    ∙ sym (ap (option_and_then (start_with s l (width (img s us) l))) run_u) ∙ e

pub end_carry : (s : Shape) (us vs : List (List Chunk)) (l : ℕ) (start : StartRecord) (r : EndRecord) → width (img s vs) l ≡ width (img s us) l
    → end_of (img s us) l start ≡ Some r
    → ((a : ℕ) (b : Block) → block_at (img s us) l a ≡ Some b → b.mark ≡ meta_mark r.seq → block_at (img s vs) l a ≡ Some b)
    → end_of (img s vs) l start ≡ Some r
end_carry s us vs l start r same e carry =
    let w = end_written (img s us) l start r e in
    let is : IsEndOf (img s us) l start r = w.0 in
    let blocks : List Block = w.1 in
    let are : AreEnd (img s us) l r blocks = w.2 in
    end_found (img s vs) l start r blocks
    (record { line_is = is.line_is; width_is = is.width_is ∙ sym same; seq_is = is.seq_is; fits = is.fits })
    (record {
      count = are.count ∙ ap (end_len s) (sym same);
      written = λ k h.
          let h' : k < end_len s (width (img s us) l) = subst (λ g. k < end_len s g) same h in
          let b = there blocks k (end_len s (width (img s us) l)) are.count h' in
          let here : block_at (img s vs) l (width (img s us) l * s.clba - end_len s (width (img s us) l) + k) ≡ slice_get blocks k =
          carry (width (img s us) l * s.clba - end_len s (width (img s us) l) + k) b.0 (are.written k h' ∙ b.1)
          (all_get (λ (b : Block). b.mark ≡ meta_mark r.seq) blocks k b.0 are.marks b.1) ∙ sym b.1 in
          subst (λ g. block_at (img s vs) l (g * s.clba - end_len s g + k) ≡ slice_get blocks k) (sym same) here;
      bytes = are.bytes;
      marks = are.marks;
    })

-- A line whose chunks are the same is the same.

module _ (s : Shape) (us vs : List (List Chunk)) (l : ℕ) (count : length vs ≡ length us)
    (chunks : (u : ℕ) → chunk_in (img s vs) l u ≡ chunk_in (img s us) l u) where
  pub same_line_units : line_units (img s vs) l ≡ line_units (img s us) l
  same_line_units = units_same s us vs l count (λ k. ap (λ o. option_map_or (λ (c : Chunk). is_online_in c.state) o false) (chunks k))

  pub same_width : width (img s vs) l ≡ width (img s us) l
  same_width = width_same s us vs l same_line_units

  read_same : (b : ℕ) (o : Option ℕ) → read_by (img s vs) l b o ≡ read_by (img s us) l b o
  read_same b None = refl
  read_same b (Some u) = ap (option_and_then (λ (c : Chunk). slice_get c.blocks b)) (chunks u)

  pub same_block : (a : ℕ) → block_at (img s vs) l a ≡ block_at (img s us) l a
  same_block a = block_there s us vs l a same_line_units
      ∙ read_same (block_of s (width (img s us) l) a) (slice_get (line_units (img s us) l) (column_of s (width (img s us) l) a))
      ∙ sym (line_block (img s us) l a)

  pub same_chunk : (k : ℕ) → slice_get (line_chunks (img s vs) l) k ≡ slice_get (line_chunks (img s us) l) k
  same_chunk k =
      line_units_chunks (img s vs) l k ∙ ap (λ xs. option_and_then (chunk_in (img s vs) l) (slice_get xs k)) same_line_units
      ∙ ap (λ f. option_and_then f (slice_get (line_units (img s us) l) k)) (fun_ext chunks) ∙ sym (line_units_chunks (img s us) l k)

  pub same_start : start_of (img s vs) l ≡ start_of (img s us) l
  same_start = both_ways (start_of (img s vs) l) (start_of (img s us) l)
      (λ r e. start_carry s vs us l r (sym same_width) e (λ a b h mark. sym (same_block a) ∙ h))
      (λ r e. start_carry s us vs l r same_width e (λ a b h mark. same_block a ∙ h))

  pub same_end : (start : StartRecord) → end_of (img s vs) l start ≡ end_of (img s us) l start
  same_end start = both_ways (end_of (img s vs) l start) (end_of (img s us) l start)
      (λ r e. end_carry s vs us l start r (sym same_width) e (λ a b h mark. sym (same_block a) ∙ h))
      (λ r e. end_carry s us vs l start r same_width e (λ a b h mark. same_block a ∙ h))

  same_record : (start : StartRecord) (a : ℕ) → record_at (img s vs) l start a ≡ record_at (img s us) l start a
  same_record start a =
      ap (λ e. option_and_then (λ block. option_and_then (bears s l start.seq a block) (mark_at s e a block)) (block_at (img s vs) l a)) (same_end start)
      ∙ ap (λ o. option_and_then (λ block. option_and_then (bears s l start.seq a block) (mark_at s (end_of (img s us) l start) a block)) o) (same_block a)

  same_after : (o : Option StartRecord) → records_after (img s vs) l o ≡ records_after (img s us) l o
  same_after None = refl
  same_after (Some start) =
      ap (λ n. filter_map (record_at (img s vs) l start) (range_with_len 0 (n * s.clba))) same_width
      ∙ ap (λ f. filter_map f (range_with_len 0 (width (img s us) l * s.clba))) (fun_ext (same_record start))

  pub same_records : line_records (img s vs) l ≡ line_records (img s us) l
  same_records = ap (records_after (img s vs) l) same_start ∙ same_after (start_of (img s us) l)

-- Images with the same start records and the same records.

lines_same : (f g : ℕ → List Record) (n a m : ℕ) → a + n ≤ m → ((l : ℕ) → l < m → f l ≡ g l) → flat_map f (range_with_len a n) ≡ flat_map g (range_with_len a n)
lines_same f g zero a m within h = refl
lines_same f g (suc n) a m within h = ap (λ xs. xs ++ flat_map f (range_with_len (a + 1) n)) (h a (omega arith))
    ∙ ap (λ ys. g a ++ ys) (lines_same f g n (a + 1) m (omega arith) h)

pub holds_the_same : (s : Shape) (us vs : List (List Chunk)) → ((l : ℕ) → start_of (img s vs) l ≡ start_of (img s us) l)
    → ((l : ℕ) → l < s.chunks → line_records (img s vs) l ≡ line_records (img s us) l) → HoldsTheSame (img s us) (img s vs)
holds_the_same s us vs starts lines =
    let rs : records (img s vs) ≡ records (img s us) = lines_same (line_records (img s vs)) (line_records (img s us)) s.chunks 0 s.chunks (omega arith) lines in
    let h : head (img s vs) ≡ head (img s us) = ap (λ f. fold later_start None (filter_map f (range_with_len 0 s.chunks))) (fun_ext starts) in
    let cs : counted (img s vs) ≡ counted (img s us) = ap (λ xs. counted_after xs (head (img s vs))) rs ∙ ap (counted_after (records (img s us))) h in
    record {
      shape = refl;
      starts = starts;
      records = rs;
      head = h;
      end = ap (λ xs. end_after xs (head (img s vs))) rs ∙ ap (end_after (records (img s us))) h;
      counted = cs;
      contents = ap (λ xs. map (λ lba. option_map_or (λ (r : Record). r.sector) (winner xs lba) (zeros s.sector)) (range_with_len 0 s.capacity)) cs;
    }
