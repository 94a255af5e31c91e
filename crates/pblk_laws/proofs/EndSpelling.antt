-- End records: what is spelled is read, and what is read was spelled.
use Rattle.std.proofs.Common.{◌≡◌, ℕ, ◌+◌, ◌-◌, ◌*◌, ◌^◌, ◌<◌, ◌≤◌, Bool, true, false, cond, Option, Some, None, List, [], ◌∷◌, ◌++◌, length, drop, refl, sym, ap, ◌∙◌, subst, arith}
use Rattle.std.specs.List.{AllByRecursion, flat_map}
use Rattle.std.specs.Option.{option_and_then}
use Rattle.std.specs.Str.{bytes_eq}
use Rattle.std.specs.Int.{w64, from_le_bytes, to_le_bytes}
use Rattle.std.proofs.lemmas.Option.{cond_some, none-some}
use Rattle.std.proofs.lemmas.Slice.Eq.{bytes_eq-Decides}
use Rattle.std.proofs.lemmas.Nat.{from_le_bytes-to_le_bytes_8}
use Rattle.pblk_model.specs.declared.shape.Shape.{Shape}
use Rattle.pblk_model.specs.declared.chunk.Mark.{Mark}
use Rattle.pblk_model.specs.Accepted.{IsAccepted}
use Rattle.pblk_model.specs.Bytes.{le16, le32, le64, zeros}
use Rattle.pblk_model.specs.Chunk.{Block}
use Rattle.pblk_model.specs.LineOrder.{start_len, end_len, data_len}
use Rattle.pblk_model.specs.Image.{Image, width}
use Rattle.pblk_model.specs.StartRecord.{StartRecord, magic, written_run, have_meta}
use Rattle.pblk_model.specs.EndRecord.{EndRecord, pair_bytes, end_bytes, pairs_in, end_in, read_end, end_of}
use Rattle.pblk_laws.specs.EndBlocks.{FitsBytes, IsEndRecord, IsEndOf, AreEnd}
use Rattle.pblk_model.proofs.LeastLengths.{end_len_least, sector_at_least}
use Rattle.pblk_laws.proofs.Runs.{run_some, run_is}
use Rattle.pblk_laws.proofs.Starts.{marked, marks_of, padded_length, AreBytes, two, four, eight, some_zeros, ◌then◌}
use Rattle.pblk_model.proofs.Lists.{all_append}
use Rattle.pblk_model.proofs.Numbers.{byte_is}
use Rattle.pblk_model.proofs.Tests.{data_within}
use Rattle.pblk_model.proofs.EndRecordLemmas.{length-pairs_in, pairs_length}

-- What stands at the fields' places.

same_mark : (m : Mark) (lba position : ℕ) → lba ≡ m.lba → position ≡ m.position → ◌≡◌ {A = Mark} (record { lba = lba; position = position }) m
same_mark m lba position p q = rw (p, q) refl

pairs_back : (pairs : List Mark) (rest : List ℕ) → AllByRecursion FitsBytes pairs → pairs_in (length pairs) (flat_map pair_bytes pairs ++ rest) ≡ pairs
unfolding pairs_in
pairs_back [] rest h = refl
pairs_back (m ∷ ms) rest h =
    let first = same_mark m _ _ (from_le_bytes-to_le_bytes_8 m.lba h.0.lba) (from_le_bytes-to_le_bytes_8 m.position h.0.position) in
    ap (λ x. x ∷ pairs_in (length ms) (flat_map pair_bytes ms ++ rest)) first ∙ ap (λ xs. m ∷ xs) (pairs_back ms rest h.1)

-- the record's spelling, before what fills up its blocks
abbrev pub end_spelled : EndRecord → List ℕ
end_spelled r = le32 magic ++ le16 1 ++ le16 2 ++ le32 r.line ++ le32 r.width ++ le64 r.seq ++ le32 (length r.pairs) ++ zeros 4
    ++ flat_map pair_bytes r.pairs

same_end : (x : EndRecord) (line g seq : ℕ) (pairs : List Mark) → line ≡ x.line → g ≡ x.width → seq ≡ x.seq → pairs ≡ x.pairs
    → ◌≡◌ {A = EndRecord} (record { line = line; width = g; seq = seq; pairs = pairs }) x
same_end x line g seq pairs p q r t = rw (p, q, r, t) refl

-- the pairs stand behind the header
pairs_place : (s : Shape) (line g seq : ℕ) (r : EndRecord) (pad : List ℕ)
    → (end_in s line g seq (end_spelled r ++ pad)).pairs ≡ pairs_in (data_len s g) (flat_map pair_bytes r.pairs ++ pad)
unfolding zeros
pairs_place s line g seq r pad = refl

end_back : (s : Shape) (r : EndRecord) (pad : List ℕ) → IsEndRecord s r → end_in s r.line r.width r.seq (end_spelled r ++ pad) ≡ r
end_back s r pad h =
    let pairs : (end_in s r.line r.width r.seq (end_spelled r ++ pad)).pairs ≡ r.pairs =
    pairs_place s r.line r.width r.seq r pad ∙ ap (λ n. pairs_in n (flat_map pair_bytes r.pairs ++ pad)) (sym h.count) ∙ pairs_back r.pairs pad h.marks in
    same_end r _ _ _ _ refl refl refl pairs

-- Reading.

chosen : {A : Type 0} (same : A → Bool) (x r : A) → x ≡ r → same r ≡ true → cond (same x) (Some x) None ≡ Some r
chosen same x r e q = ap (λ b. cond b (Some x) None) (ap same e ∙ q) ∙ ap Some e

pub read_end_back : (s : Shape) (r : EndRecord) → IsEndRecord s r → read_end s r.line r.width r.seq (end_bytes s r) ≡ Some r
read_end_back s r h =
    chosen (λ x. bytes_eq (end_bytes s x) (end_bytes s r)) (end_in s r.line r.width r.seq (end_bytes s r)) r
    (end_back s r (zeros (end_len s r.width * s.sector - length (end_spelled r))) h) ((bytes_eq-Decides (end_bytes s r) (end_bytes s r)).1 refl)

pub eight_below : (n : ℕ) → from_le_bytes w64 (to_le_bytes w64 n) < 2 ^ 64
eight_below n = omega (arith, byte_is 0 n, byte_is 1 n, byte_is 2 n, byte_is 3 n, byte_is 4 n, byte_is 5 n, byte_is 6 n, byte_is 7 n)

same_heads : (m x : Mark) (ms xs : List Mark) → x ∷ xs ≡ m ∷ ms → (x ≡ m) × (xs ≡ ms)
same_heads m x ms xs e = (cc, cc)

fits_of : (m : Mark) (a b : ℕ) → ◌≡◌ {A = Mark} (record { lba = a; position = b }) m → a < 2 ^ 64 → b < 2 ^ 64 → FitsBytes m
fits_of m a b e ha hb = record {
  lba = subst (λ (x : ℕ). x < 2 ^ 64) (ap (λ (x : Mark). x.lba) e) ha;
  position = subst (λ (x : ℕ). x < 2 ^ 64) (ap (λ (x : Mark). x.position) e) hb;
}

-- marks that stand at their places are numbers of eight bytes
marks_fit : (pairs : List Mark) (rest : List ℕ) → pairs_in (length pairs) (flat_map pair_bytes pairs ++ rest) ≡ pairs → AllByRecursion FitsBytes pairs
unfolding pairs_in
marks_fit [] rest h = tt
marks_fit (m ∷ ms) rest h =
    let parts = same_heads m (record { lba = from_le_bytes w64 (to_le_bytes w64 m.lba); position = from_le_bytes w64 (to_le_bytes w64 m.position) }) ms
    (pairs_in (length ms) (flat_map pair_bytes ms ++ rest)) h in
    (fits_of m _ _ parts.0 (eight_below m.lba) (eight_below m.position), marks_fit ms rest parts.1)

pub record IsReadEnd (s : Shape) (line g seq : ℕ) (r : EndRecord) (bytes : List ℕ) : Type 0 where
  pub spelled : bytes ≡ end_bytes s r
  pub line_is : r.line ≡ line
  pub width_is : r.width ≡ g
  pub seq_is : r.seq ≡ seq
  pub fits : IsEndRecord s r

read_fits : (s : Shape) (line g seq : ℕ) (bytes : List ℕ) → end_bytes s (end_in s line g seq bytes) ≡ bytes → IsEndRecord s (end_in s line g seq bytes)
read_fits s line g seq bytes same =
    let r : EndRecord = end_in s line g seq bytes in
    let pad : List ℕ = zeros (end_len s g * s.sector - length (end_spelled r)) in
    let count : length (pairs_in (data_len s g) (drop 32 bytes)) ≡ data_len s g = length-pairs_in (data_len s g) (drop 32 bytes) in
    let back : pairs_in (data_len s g) (flat_map pair_bytes r.pairs ++ pad) ≡ r.pairs = sym (pairs_place s line g seq r pad)
    ∙ ap (λ (xs : List ℕ). pairs_in (data_len s g) (drop 32 xs)) same in
    record {
      count = count;
      marks = marks_fit r.pairs pad (ap (λ n. pairs_in n (flat_map pair_bytes r.pairs ++ pad)) count ∙ back);
    }

pub read_end_spelled : (s : Shape) (line g seq : ℕ) (r : EndRecord) (bytes : List ℕ) → read_end s line g seq bytes ≡ Some r → IsReadEnd s line g seq r bytes
read_end_spelled s line g seq r bytes h =
    let read = cond_some (bytes_eq (end_bytes s (end_in s line g seq bytes)) bytes) (end_in s line g seq bytes) r h in
    let same : end_bytes s (end_in s line g seq bytes) ≡ bytes = (bytes_eq-Decides (end_bytes s (end_in s line g seq bytes)) bytes).0 read.0 in
    subst (λ (x : EndRecord). IsReadEnd s line g seq x bytes) read.1 (record {
      spelled = sym same;
      line_is = refl;
      width_is = refl;
      seq_is = refl;
      fits = read_fits s line g seq bytes same;
    })

-- Blocks.

-- what the blocks of a line's end give
unfoldable end_with : Image → ℕ → StartRecord → List Block → Option EndRecord
end_with i line start blocks = cond (have_meta start.seq blocks) (read_end i.shape line (width i line) start.seq (flat_map (λ b. b.sector) blocks)) None

end_of_is : (i : Image) (line : ℕ) (start : StartRecord)
    → end_of i line start ≡ option_and_then (end_with i line start)
    (written_run i line (width i line * i.shape.clba - end_len i.shape (width i line)) (end_len i.shape (width i line)))
unfolding end_with
end_of_is i line start = refl

with_blocks : (i : Image) (line : ℕ) (start : StartRecord) (r : EndRecord) (blocks : List Block) → IsEndOf i line start r → AreEnd i line r blocks
    → end_with i line start blocks ≡ Some r
unfolding end_with
with_blocks i line start r blocks is are =
    let marks : have_meta start.seq blocks ≡ true = subst (λ (q : ℕ). have_meta q blocks ≡ true) is.seq_is (marked r.seq blocks are.marks) in
    let own : read_end i.shape r.line r.width r.seq (flat_map (λ (b : Block). b.sector) blocks) ≡ Some r = ap (read_end i.shape r.line r.width r.seq) are.bytes
    ∙ read_end_back i.shape r is.fits in
    let lines : read_end i.shape line r.width r.seq (flat_map (λ (b : Block). b.sector) blocks) ≡ Some r =
    subst (λ (l : ℕ). read_end i.shape l r.width r.seq (flat_map (λ (b : Block). b.sector) blocks) ≡ Some r) is.line_is own in
    let widths : read_end i.shape line (width i line) r.seq (flat_map (λ (b : Block). b.sector) blocks) ≡ Some r =
    subst (λ (g : ℕ). read_end i.shape line g r.seq (flat_map (λ (b : Block). b.sector) blocks) ≡ Some r) is.width_is lines in
    let seqs : read_end i.shape line (width i line) start.seq (flat_map (λ (b : Block). b.sector) blocks) ≡ Some r =
    subst (λ (q : ℕ). read_end i.shape line (width i line) q (flat_map (λ (b : Block). b.sector) blocks) ≡ Some r) is.seq_is widths in
    ap (λ b. cond b (read_end i.shape line (width i line) start.seq (flat_map (λ (b : Block). b.sector) blocks)) None) marks ∙ seqs

pub end_found : (i : Image) (line : ℕ) (start : StartRecord) (r : EndRecord) (blocks : List Block) → IsEndOf i line start r → AreEnd i line r blocks
    → end_of i line start ≡ Some r
end_found i line start r blocks is are =
    let first : ℕ = width i line * i.shape.clba - end_len i.shape (width i line) in
    let run : written_run i line first (length blocks) ≡ Some blocks = run_some i line first blocks (λ k below. are.written k (omega (arith, are.count))) in
    let whole : written_run i line first (end_len i.shape (width i line)) ≡ Some blocks = subst (λ n. written_run i line first n ≡ Some blocks) are.count run in
    end_of_is i line start ∙ ap (option_and_then (end_with i line start)) whole ∙ with_blocks i line start r blocks is are

run_of : (f : List Block → Option EndRecord) (run : Option (List Block)) (r : EndRecord) → option_and_then f run ≡ Some r
    → (blocks : List Block) × (run ≡ Some blocks) × (f blocks ≡ Some r)
run_of f None r h = absurd (none-some r h)
run_of f (Some blocks) r h = (blocks, refl, h)

pub end_written : (i : Image) (line : ℕ) (start : StartRecord) (r : EndRecord) → end_of i line start ≡ Some r
    → IsEndOf i line start r × (blocks : List Block) × AreEnd i line r blocks
unfolding end_with
end_written i line start r h =
    let first : ℕ = width i line * i.shape.clba - end_len i.shape (width i line) in
    let from = run_of (end_with i line start) (written_run i line first (end_len i.shape (width i line))) r (sym (end_of_is i line start) ∙ h) in
    let run = run_is i line first (end_len i.shape (width i line)) from.0 from.1 in
    let test = cond_read (have_meta start.seq from.0) (read_end i.shape line (width i line) start.seq (flat_map (λ (b : Block). b.sector) from.0)) r from.2 in
    let read : IsReadEnd i.shape line (width i line) start.seq r (flat_map (λ (b : Block). b.sector) from.0) =
    read_end_spelled i.shape line (width i line) start.seq r (flat_map (λ (b : Block). b.sector) from.0) test.1 in (
      record { line_is = read.line_is; width_is = read.width_is; seq_is = read.seq_is; fits = read.fits },
      from.0,
      record {
        count = run.count;
        written = run.written;
        bytes = read.spelled;
        marks = marks_of r.seq from.0 (subst (λ (q : ℕ). have_meta q from.0 ≡ true) (sym read.seq_is) test.0);
      },
    ) where
      cond_read : (b : Bool) (o : Option EndRecord) (r : EndRecord) → cond b o None ≡ Some r → (b ≡ true) × (o ≡ Some r)
      cond_read true o r e = (refl, e)
      cond_read false o r e = absurd (none-some r e)

-- How long the spelling is, and that it is made of bytes.

pub end_spelled_length : (r : EndRecord) → length (end_spelled r) ≡ 32 + 16 * length r.pairs
unfolding zeros
end_spelled_length r = let pairs : length (flat_map pair_bytes r.pairs) ≡ 16 * length r.pairs = pairs_length r.pairs in omega arith

pub end_bytes_length : (s : Shape) (r : EndRecord) → IsAccepted s → IsEndRecord s r → length (end_bytes s r) ≡ end_len s r.width * s.sector
end_bytes_length s r accepted fits =
    let holds : 32 + 16 * (r.width * s.clba - start_len s - end_len s r.width) ≤ end_len s r.width * s.sector =
    (end_len_least s r.width accepted.drive.ws_opt (omega (arith, sector_at_least s accepted))).holds in
    let few : length r.pairs ≤ r.width * s.clba - start_len s - end_len s r.width = data_within _ _ (length r.pairs) fits.count in
    padded_length (end_len s r.width * s.sector) (end_spelled r) (omega (arith, end_spelled_length r))

pairs_are : (pairs : List Mark) → AreBytes (flat_map pair_bytes pairs)
pairs_are [] = record { each = tt }
pairs_are (m ∷ ms) = (eight m.lba then eight m.position) then pairs_are ms

pub end_bytes_are : (s : Shape) (r : EndRecord) → AllByRecursion (λ x. x < 256) (end_bytes s r)
end_bytes_are s r =
    let text : AreBytes (end_spelled r) =
    four magic then two 1 then two 2 then four r.line then four r.width then eight r.seq then four
    (length r.pairs) then some_zeros 4 then pairs_are r.pairs in
    all_append (λ x. x < 256) (end_spelled r) (zeros (end_len s r.width * s.sector - length (end_spelled r))) text.each
    (some_zeros (end_len s r.width * s.sector - length (end_spelled r))).each
