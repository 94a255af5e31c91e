-- A parity has one spelling, which is refused for nothing and is that of no other parity.
use Rattle.std.proofs.Common.{◌≡◌, ℕ, ◌+◌, ◌*◌, ◌^◌, ◌<◌, ◌≤◌, List, [], ◌++◌, length, take, drop, get_or, refl, sym, ap, ap₂, ◌∙◌, subst, arith, length-append}
use Rattle.std.specs.Int.{w32}
use Rattle.std.specs.List.{AllByRecursion, flat_map, range_with_len, sum_by}
use Rattle.std.proofs.lemmas.Nat.{from_le_bytes-to_le_bytes_4}
use Rattle.std.proofs.lemmas.Option.{same_Some}
use Rattle.pblk_model.specs.declared.shape.Shape.{Shape}
use Rattle.pblk_model.specs.declared.chunk.ChunkState.{ChunkState}
use Rattle.pblk_model.specs.Accepted.{IsAccepted}
use Rattle.pblk_model.specs.Bytes.{le32, le64, number_at}
use Rattle.pblk_model.specs.Chunk.{Block, IsBlock}
use Rattle.pblk_model.specs.Descriptor.{state_code, state_in}
use Rattle.pblk_model.specs.ImageFile.{block_bytes}
use Rattle.pblk_model.specs.Shape.{units}
use Rattle.pblk_model.proofs.AcceptedLemmas.{unit_few}
use Rattle.pblk_model.proofs.DescriptorLemmas.{state_back}
use Rattle.pblk_model.proofs.ImageFileLemmas.{block_length}
use Rattle.pblk_model.proofs.Lists.{all_of, all_weaker}
use Rattle.pblk_model.proofs.Maps.{flat_length, length_of_sum}
use Rattle.pblk_model.proofs.Parts.{all_get, got_within, take_front}
use Rattle.pblk_laws.proofs.ImageBytesFlat.{sum_of_range}
use Rattle.pblk_laws.proofs.ImageBytesPieces.{Paired, Piece, cut, cut_flat, paired_from, piece_in_piece, piece_of_flat, slice_of_piece}
use Rattle.stripe_parity.specs.declared.error.ParityErr.{ParityErr}
use Rattle.stripe_parity.specs.declared.error.ParityErr.TheVariants as errors
use Rattle.stripe_parity.specs.declared.kept.KeptChunk.{KeptChunk}
use Rattle.stripe_parity.specs.ParityBytes.{BeginsAs, EndsWithin, InHeader, InKept, InRows, IsFileRefusal, IsKeptPart, header_bytes, kept_bytes, kept_end, parity_bytes, rows_length}
use Rattle.stripe_parity.specs.ParityFile.{IsKept, IsParity, ParityFile, greatest_pointer}
use Rattle.stripe_parity.proofs.KeptChunks.{kept_pointer_fits}
use Rattle.pblk_laws.proofs.ImageBytesOne.{le64_same, regroup, same_block}

pub le32_same : (m n : ℕ) → m < 2 ^ 32 → n < 2 ^ 32 → le32 m ≡ le32 n → m ≡ n
le32_same m n h k e = sym (from_le_bytes-to_le_bytes_4 m h) ∙ (ap (number_at w32 0) e ∙ from_le_bytes-to_le_bytes_4 n k)

pub code_same : (a b : ChunkState) → state_code a ≡ state_code b → a ≡ b
code_same a b e = same_Some a b (sym (state_back a) ∙ (ap state_in e ∙ state_back b))

-- What is kept of chunks.

pub pointer_below : (s : Shape) (k : KeptChunk) → IsAccepted s → IsKept s k → k.pointer < 2 ^ 32
pointer_below s k accepted is =
    let within = (kept_pointer_fits s k is).within in
    let few = unit_few s accepted in
    let some : 8 ≤ s.chunks = accepted.drive.lines_low in
    let one : s.clba ≤ s.chunks * s.clba = grind (arith, some) in
    omega (arith, within, few, one)

-- two that a drive of this shape may have
abbrev AreKeptOf : Shape → KeptChunk → KeptChunk → Type 0
AreKeptOf s a b = IsKept s a × IsKept s b

pub kept_same : (a b : KeptChunk) → a.state ≡ b.state → a.pointer ≡ b.pointer → a ≡ b
kept_same a b p q = ap₂ (λ (s : ChunkState) (n : ℕ). record { state = s; pointer = n }) p q

kept_cut : (s : Shape) → IsAccepted s → (a b : KeptChunk) (r t : List ℕ) → AreKeptOf s a b → kept_bytes a ++ r ≡ kept_bytes b ++ t → (a ≡ b) × (r ≡ t)
kept_cut s accepted a b r t are e =
    let c = cut (kept_bytes a) (kept_bytes b) r t refl e in (
      kept_same a b (code_same a.state b.state (ap (λ l. get_or l 0 0) c.0))
          (le32_same a.pointer b.pointer (pointer_below s a accepted are.0) (pointer_below s b accepted are.1) (ap (drop 4) c.0)),
      c.1,
    )

all_kept_cut : (s : Shape) → IsAccepted s → (a b : List (List KeptChunk)) (r t : List ℕ) → Paired (Paired (AreKeptOf s)) a b
    → flat_map (flat_map kept_bytes) a ++ r ≡ flat_map (flat_map kept_bytes) b ++ t → (a ≡ b) × (r ≡ t)
all_kept_cut s accepted a b r t are e =
    cut_flat (Paired (AreKeptOf s)) (flat_map kept_bytes) (cut_flat (AreKeptOf s) kept_bytes (kept_cut s accepted)) a b r t are e

units_paired : (s : Shape) (a b : List (List KeptChunk)) → length a ≡ length b → AllByRecursion (λ of. length of ≡ s.chunks) a
    → AllByRecursion (λ of. length of ≡ s.chunks) b
    → AllByRecursion (AllByRecursion (IsKept s)) a → AllByRecursion (AllByRecursion (IsKept s)) b → Paired (Paired (AreKeptOf s)) a b
units_paired s a b many a-long b-long a-fit b-fit = paired_from (Paired (AreKeptOf s)) a b many (λ unit us vs i k.
    let left : length us ≡ s.chunks = all_get (λ (of : List KeptChunk). length of ≡ s.chunks) a unit us a-long i in
    let right : length vs ≡ s.chunks = all_get (λ (of : List KeptChunk). length of ≡ s.chunks) b unit vs b-long k in
    paired_from (AreKeptOf s) us vs (left ∙ sym right) (λ chunk x y j l. (
      all_get (IsKept s) us chunk x (all_get (AllByRecursion (IsKept s)) a unit us a-fit i) j,
      all_get (IsKept s) vs chunk y (all_get (AllByRecursion (IsKept s)) b unit vs b-fit k) l,
    )))

-- Blocks.

abbrev AreBlocksOf : Shape → Block → Block → Type 0
AreBlocksOf s a b = IsBlock s a × IsBlock s b

block_cut : (s : Shape) (a b : Block) (r t : List ℕ) → AreBlocksOf s a b → block_bytes a ++ r ≡ block_bytes b ++ t → (a ≡ b) × (r ≡ t)
block_cut s a b r t are e =
    let al = le64 a.mark.lba in
    let aq = le64 a.mark.position in
    let bl = le64 b.mark.lba in
    let bp = le64 b.mark.position in
    let first = cut a.sector b.sector (al ++ (aq ++ r)) (bl ++ (bp ++ t)) (are.0.size ∙ sym are.1.size)
    (sym (regroup a.sector al aq r) ∙ (e ∙ regroup b.sector bl bp t)) in
    let second = cut al bl (aq ++ r) (bp ++ t) refl first.1 in
    let third = cut aq bp r t refl second.1 in (
      same_block a b first.0 (le64_same a.mark.lba b.mark.lba are.0.lba are.1.lba second.0)
          (le64_same a.mark.position b.mark.position are.0.position are.1.position third.0),
      third.1,
    )

rows_cut : (s : Shape) (a b : List (List Block)) (r t : List ℕ) → Paired (Paired (AreBlocksOf s)) a b
    → flat_map (flat_map block_bytes) a ++ r ≡ flat_map (flat_map block_bytes) b ++ t → (a ≡ b) × (r ≡ t)
rows_cut s a b r t are e = cut_flat (Paired (AreBlocksOf s)) (flat_map block_bytes) (cut_flat (AreBlocksOf s) block_bytes (block_cut s)) a b r t are e

rows_paired : (s : Shape) (p q : ParityFile) → IsParity p → IsParity q → p.shape ≡ s → q.shape ≡ s → p.chunks ≡ q.chunks
    → Paired (Paired (AreBlocksOf s)) p.rows q.rows
rows_paired s p q is js p-shape q-shape same =
    paired_from (Paired (AreBlocksOf s)) p.rows q.rows (is.rows_are ∙ (ap (λ (x : Shape). x.chunks) (p-shape ∙ sym q-shape) ∙ sym js.rows_are))
    (λ chunk us vs i k.
    paired_from (AreBlocksOf s) us vs (is.lengths chunk us i ∙ (ap (λ ks. greatest_pointer ks chunk) same ∙ sym (js.lengths chunk vs k))) (λ n x y j l. (
      subst (λ (z : Shape). IsBlock z x) p-shape (all_get (IsBlock p.shape) us n x (all_get (AllByRecursion (IsBlock p.shape)) p.rows chunk us is.blocks i) j),
      subst (λ (z : Shape). IsBlock z y) q-shape (all_get (IsBlock q.shape) vs n y (all_get (AllByRecursion (IsBlock q.shape)) q.rows chunk vs js.blocks k) l),
    )))

-- One parity.

parity_same : (p q : ParityFile) → p.shape ≡ q.shape → p.chunks ≡ q.chunks → p.rows ≡ q.rows → p ≡ q
parity_same p q a b c =
    let made : Shape → List (List KeptChunk) → List (List Block) → ParityFile = λ s ks rs. record { shape = s; chunks = ks; rows = rs } in
    ap (λ s. made s p.chunks p.rows) a ∙ (ap (λ ks. made q.shape ks p.rows) b ∙ ap (λ rs. made q.shape q.chunks rs) c)

all_kept_of : (s : Shape) (p : ParityFile) → IsParity p → p.shape ≡ s → AllByRecursion (AllByRecursion (IsKept s)) p.chunks
all_kept_of s p is shape = subst (λ (z : Shape). AllByRecursion (AllByRecursion (IsKept z)) p.chunks) shape is.each

all_long : (s : Shape) (p : ParityFile) → IsParity p → p.shape ≡ s → AllByRecursion (λ of. length of ≡ s.chunks) p.chunks
all_long s p is shape = subst (λ (z : Shape). AllByRecursion (λ (of : List KeptChunk). length of ≡ z.chunks) p.chunks) shape is.chunks_are

pub one_parity : (p q : ParityFile) → IsParity p → IsParity q → p.shape ≡ q.shape → parity_bytes p ≡ parity_bytes q → p ≡ q
one_parity p q is js shape e =
    let s = q.shape in
    let head = cut (header_bytes p.shape) (header_bytes s) (flat_map (flat_map kept_bytes) p.chunks ++ flat_map (flat_map block_bytes) p.rows)
    (flat_map (flat_map kept_bytes) q.chunks ++ flat_map (flat_map block_bytes) q.rows) refl e in
    let paired = units_paired s p.chunks q.chunks (is.units_are ∙ (ap units shape ∙ sym js.units_are)) (all_long s p is shape) js.chunks_are
    (all_kept_of s p is shape) js.each in
    let kept = all_kept_cut s js.accepted p.chunks q.chunks (flat_map (flat_map block_bytes) p.rows) (flat_map (flat_map block_bytes) q.rows) paired head.1 in
    let rows = rows_cut s p.rows q.rows [] [] (rows_paired s p q is js shape refl kept.0) (ap (λ (w : List ℕ). w ++ []) kept.1) in
    parity_same p q shape kept.0 rows.0

-- Lengths.

unit_length : (of : List KeptChunk) → length (flat_map kept_bytes of) ≡ 8 * length of
unit_length of = flat_length kept_bytes 8 of (all_of (λ k. length (kept_bytes k) ≡ 8) (λ k. refl) of)

all_units_length : (s : Shape) (kept : List (List KeptChunk)) → AllByRecursion (λ of. length of ≡ s.chunks) kept
    → AllByRecursion (λ of. length (flat_map kept_bytes of) ≡ 8 * s.chunks) kept
all_units_length s kept all =
    all_weaker (λ (of : List KeptChunk). length of ≡ s.chunks) (λ (of : List KeptChunk). length (flat_map kept_bytes of) ≡ 8 * s.chunks) kept
    (λ of is. unit_length of ∙ ap (λ n. 8 * n) is) all

kept_length : (p : ParityFile) → IsParity p → 32 + length (flat_map (flat_map kept_bytes) p.chunks) ≡ kept_end p.shape
kept_length p is =
    let s = p.shape in
    let long : length (flat_map (flat_map kept_bytes) p.chunks) ≡ 8 * s.chunks * length p.chunks =
    flat_length (flat_map kept_bytes) (8 * s.chunks) p.chunks (all_units_length s p.chunks is.chunks_are) in
    let all : 8 * s.chunks * length p.chunks ≡ 8 * (length p.chunks * s.chunks) = grind arith in
    ap (λ n. 32 + n) (long ∙ all ∙ ap (λ n. 8 * (n * s.chunks)) is.units_are)

row_length : (s : Shape) (row : List Block) → AllByRecursion (IsBlock s) row → length (flat_map block_bytes row) ≡ (s.sector + 16) * length row
row_length s row all = flat_length block_bytes (s.sector + 16) row
    (all_weaker (IsBlock s) (λ (b : Block). length (block_bytes b) ≡ s.sector + 16) row (λ b is. block_length s.sector b is.size) all)

rows_long : (p : ParityFile) → IsParity p → length (flat_map (flat_map block_bytes) p.rows) ≡ rows_length p.shape p.chunks
rows_long p is =
    let s = p.shape in
    let each = all_weaker (AllByRecursion (IsBlock s)) (λ (row : List Block). length (flat_map block_bytes row) ≡ (s.sector + 16) * length row) p.rows
    (row_length s) is.blocks in
    let sum : sum_by (greatest_pointer p.chunks) (range_with_len 0 (length p.rows)) ≡ sum_by (λ (row : List Block). length row) p.rows =
    sum_of_range (λ (row : List Block). length row) (greatest_pointer p.chunks) p.rows (λ n row there. sym (is.lengths n row there)) in
    length_of_sum (flat_map block_bytes) (s.sector + 16) (λ (row : List Block). length row) p.rows each
    ∙ ap (λ n. (s.sector + 16) * n) (sym sum ∙ ap (λ n. sum_by (greatest_pointer p.chunks) (range_with_len 0 n)) is.rows_are)

-- the front ends where the states and write pointers do
front_length : (p : ParityFile) → IsParity p → length (header_bytes p.shape ++ flat_map (flat_map kept_bytes) p.chunks) ≡ kept_end p.shape
front_length p is = length-append (header_bytes p.shape) (flat_map (flat_map kept_bytes) p.chunks) ∙ kept_length p is

file_length : (p : ParityFile) → IsParity p → length (parity_bytes p) ≡ kept_end p.shape + rows_length p.shape p.chunks
file_length p is =
    length-append (header_bytes p.shape ++ flat_map (flat_map kept_bytes) p.chunks) (flat_map (flat_map block_bytes) p.rows)
    ∙ ap₂ (λ (m n : ℕ). m + n) (front_length p is) (rows_long p is)

-- it begins as no other parity of its shape
begins_once : (p : ParityFile) (kept : List (List KeptChunk)) → IsParity p → BeginsAs p.shape (parity_bytes p) kept → kept ≡ p.chunks
begins_once p kept is h =
    let s = p.shape in
    let of = flat_map (flat_map kept_bytes) p.chunks in
    let front : take (kept_end s) (parity_bytes p) ≡ header_bytes s ++ of =
    take_front (header_bytes s ++ of) (flat_map (flat_map block_bytes) p.rows) (kept_end s) (front_length p is) in
    let head = cut (header_bytes s) (header_bytes s) (flat_map (flat_map kept_bytes) kept) of refl (sym h.bytes ∙ front) in
    let paired = units_paired s kept p.chunks (h.units_are ∙ sym is.units_are) h.chunks_are is.chunks_are h.each is.each in
    (all_kept_cut s is.accepted kept p.chunks [] [] paired (ap (λ (w : List ℕ). w ++ []) head.1)).0

-- No refusal but want of memory.

at_place : (unit chunk chunks : ℕ) → 32 + (8 * chunks * unit + 8 * chunk) ≡ 32 + 8 * (unit * chunks + chunk)
at_place unit chunk chunks = grind arith

part_there : (p : ParityFile) (unit chunk : ℕ) → IsParity p → unit < units p.shape → chunk < p.shape.chunks → IsKeptPart p.shape (parity_bytes p) unit chunk
part_there p unit chunk is unit-low chunk-low =
    let s = p.shape in
    let (of, of-there) = got_within p.chunks unit (omega (arith, unit-low, is.units_are)) in
    let long : length of ≡ s.chunks = all_get (λ (ks : List KeptChunk). length ks ≡ s.chunks) p.chunks unit of is.chunks_are of-there in
    let (k, k-there) = got_within of chunk (omega (arith, chunk-low, long)) in
    let fits = all_get (IsKept s) of chunk k (all_get (AllByRecursion (IsKept s)) p.chunks unit of is.each of-there) k-there in
    let all = flat_map (flat_map kept_bytes) p.chunks in
    let unit-piece = piece_of_flat (flat_map kept_bytes) (8 * s.chunks) p.chunks unit of (all_units_length s p.chunks is.chunks_are) of-there in
    let chunk-piece = piece_of_flat kept_bytes 8 of chunk k (all_of (λ x. length (kept_bytes x) ≡ 8) (λ x. refl) of) k-there in
    let within : Piece all (kept_bytes k) (8 * s.chunks * unit + 8 * chunk) =
    piece_in_piece all (flat_map kept_bytes of) (kept_bytes k) (8 * s.chunks * unit) (8 * chunk) unit-piece chunk-piece in
    let whole : Piece (parity_bytes p) all 32 = record { before = header_bytes s; after = flat_map (flat_map block_bytes) p.rows; is = refl; count = refl } in
    let piece = piece_in_piece (parity_bytes p) all (kept_bytes k) 32 (8 * s.chunks * unit + 8 * chunk) whole within in
    let at = 32 + 8 * (unit * s.chunks + chunk) in
    (k, fits, slice_of_piece (parity_bytes p) (kept_bytes k) (32 + (8 * s.chunks * unit + 8 * chunk)) at (at + 8) piece (at_place unit chunk s.chunks) refl)

long_enough : (p : ParityFile) → IsParity p → EndsWithin p.shape (parity_bytes p) → ⊥
long_enough p is (InHeader short) = omega (arith, short, file_length p is)
long_enough p is (InKept header short) = omega (arith, short, file_length p is)
long_enough p is (InRows kept begins short) =
    let same = begins_once p kept is begins in
    let shorter : length (parity_bytes p) < kept_end p.shape + rows_length p.shape p.chunks =
    subst (λ ks. length (parity_bytes p) < kept_end p.shape + rows_length p.shape ks) same short in
    omega (arith, shorter, file_length p is)

refused_for_memory : (p : ParityFile) (e : ParityErr) → IsParity p → IsFileRefusal p.shape (parity_bytes p) e → e ≡ errors.Memory
refused_for_memory p errors.Magic is (long, other) = absurd (other refl)
refused_for_memory p errors.Version is (long, magic, other) = absurd (other refl)
refused_for_memory p errors.Numbers is (long, magic, version, other) = absurd (other refl)
refused_for_memory p (errors.Short bytes) is (at, ends) = absurd (long_enough p is ends)
refused_for_memory p errors.Long is (kept, begins, more) =
    let same = begins_once p kept is begins in
    let longer : kept_end p.shape + rows_length p.shape p.chunks < length (parity_bytes p) =
    subst (λ ks. kept_end p.shape + rows_length p.shape ks < length (parity_bytes p)) same more in
    absurd (omega (arith, longer, file_length p is))
refused_for_memory p (errors.State unit chunk) is refused = absurd (refused.not (part_there p unit chunk is refused.unit_within refused.chunk_within))
refused_for_memory p (errors.Differs unit chunk) is refused = absurd refused
refused_for_memory p (errors.Drive unit event) is refused = absurd refused
refused_for_memory p errors.Memory is refused = refl

pub never_refused : (p : ParityFile) (s : Shape) (b : List ℕ) (e : ParityErr) → IsParity p → p.shape ≡ s → parity_bytes p ≡ b → IsFileRefusal s b e
    → e ≡ errors.Memory
never_refused p s b e is shape same refused =
    refused_for_memory p e is (subst (λ (z : Shape). IsFileRefusal z (parity_bytes p) e) (sym shape)
    (subst (λ (x : List ℕ). IsFileRefusal s x e) (sym same) refused))
