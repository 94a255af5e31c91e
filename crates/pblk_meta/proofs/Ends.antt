-- When bytes are an end record.
use Rattle.std.proofs.Common.{◌≡◌, ℕ, ◌+◌, ◌-◌, ◌*◌, ◌≤◌, zero, suc, true, false, cond, ◌==◌, Some, None, List, ◌++◌, length, take, drop, refl, sym, ap, ◌∙◌, arith, append_assoc, length-append, length-drop}
use Rattle.std.specs.List.{flat_map, list_all}
use Rattle.std.specs.Str.{bytes_eq}
use Rattle.std.specs.Int.{w64}
use Rattle.std.proofs.lemmas.Option.{cond_some}
use Rattle.std.proofs.lemmas.List.{drop-drop}
use Rattle.std.proofs.Math.Seq.{take-add}
use Rattle.pblk_model.specs.declared.shape.Shape.{Shape}
use Rattle.pblk_model.specs.declared.chunk.Mark.{Mark}
use Rattle.pblk_model.specs.Accepted.{IsAccepted}
use Rattle.pblk_model.specs.LineOrder.{start_len, end_len, data_len, HoldsEnd}
use Rattle.pblk_model.specs.Bytes.{le16, le32, le64, zeros, number_at}
use Rattle.pblk_model.specs.StartRecord.{magic}
use Rattle.pblk_model.specs.EndRecord.{EndRecord as End, pair_bytes, pairs_in, end_in, end_bytes, read_end}
use Rattle.pblk_laws.specs.EndBlocks.{IsEndRecord}
use Rattle.pblk_meta.specs.declared.end_record.EndRecord.{EndRecord}
use Rattle.pblk_meta.specs.Records.{end_numbers}
use Rattle.pblk_meta.specs.Headers.{end_header, end_read}
use Rattle.pblk_meta.proofs.Pieces.{taken, joined, front_of, rest_of, are_zeros, no_zeros, AreBytes, rest_bytes, le64_back}
use Rattle.pblk_model.proofs.Bytes.{same_bytes, true_same}
use Rattle.pblk_model.proofs.Options.{none_unless}
use Rattle.pblk_model.proofs.Tests.{data_within}
use Rattle.pblk_model.proofs.EndRecordLemmas.{length-pairs_in, pairs_length}

-- ---- the spelling in its three parts

abbrev text : End → List ℕ
text r = le32 magic ++ le16 1 ++ le16 2 ++ le32 r.line ++ le32 r.width ++ le64 r.seq ++ le32 (length r.pairs) ++ zeros 4
    ++ flat_map pair_bytes r.pairs

text_is : (r : End) (n : ℕ) → length r.pairs ≡ n → text r ≡ end_header r.line r.width r.seq n ++ flat_map pair_bytes r.pairs
unfolding end_header zeros
text_is r n e = counted (length r.pairs) ∙ ap (λ m. end_header r.line r.width r.seq m ++ flat_map pair_bytes r.pairs) e where
  counted : (m : ℕ) → le32 magic ++ le16 1 ++ le16 2 ++ le32 r.line ++ le32 r.width ++ le64 r.seq ++ le32 m ++ zeros 4
      ++ flat_map pair_bytes r.pairs ≡ end_header r.line r.width r.seq m ++ flat_map pair_bytes r.pairs
  counted m = refl

header_length : (line g seq n : ℕ) → length (end_header line g seq n) ≡ 32
unfolding end_header zeros
header_length line g seq n = refl

text_length : (r : End) (n : ℕ) → length r.pairs ≡ n → length (text r) ≡ 32 + 16 * n
text_length r n e = ap length (text_is r n e) ∙ length-append (end_header r.line r.width r.seq n) (flat_map pair_bytes r.pairs)
    ∙ omega (arith, header_length r.line r.width r.seq n, pairs_length r.pairs)

-- how many zeros are behind the marks
abbrev left : Shape → ℕ → ℕ → ℕ
left s g n = end_len s g * s.sector - (32 + 16 * n)

bytes_are : (s : Shape) (r : End) (n : ℕ) → length r.pairs ≡ n
    → end_bytes s r ≡ end_header r.line r.width r.seq n ++ (flat_map pair_bytes r.pairs ++ zeros (left s r.width n))
bytes_are s r n e =
    ap (λ (xs : List ℕ). xs ++ zeros (end_len s r.width * s.sector - length (text r))) (text_is r n e)
    ∙ ap (λ m. (end_header r.line r.width r.seq n ++ flat_map pair_bytes r.pairs) ++ zeros (end_len s r.width * s.sector - m)) (text_length r n e)
    ∙ append_assoc (end_header r.line r.width r.seq n) (flat_map pair_bytes r.pairs) (zeros (left s r.width n))

-- header, marks and zeros, written one after another
pub assembled : (s : Shape) (r : EndRecord) (pairs : List Mark) (a b c : List ℕ) (stop n : ℕ) → pairs ≡ r.pairs
    → take 32 a ≡ end_header r.line r.width r.seq (length pairs) → take stop b ≡ take 32 a ++ flat_map pair_bytes pairs
    → take (length b) c ≡ take stop b ++ zeros (length b - stop)
    → stop ≡ 32 + 16 * length pairs → length b ≡ n → length c ≡ length b → n ≡ end_len s r.width * s.sector → c ≡ end_bytes s (end_numbers r)
assembled s r pairs a b c stop n pairs-is header_there pairs_there zeros_there stop-is long same size =
    let whole : c ≡ take stop b ++ zeros (length b - stop) = taken c (take stop b ++ zeros (length b - stop)) (length b) same zeros_there in
    let place : length b - stop ≡ left s r.width (length pairs) = omega arith in
    let front : take stop b ≡ end_header r.line r.width r.seq (length pairs) ++ flat_map pair_bytes pairs = pairs_there
    ∙ ap (λ (xs : List ℕ). xs ++ flat_map pair_bytes pairs) header_there in
    let count : length r.pairs ≡ length pairs = ap length (sym pairs-is) in
    whole ∙ ap (λ (xs : List ℕ). xs ++ zeros (length b - stop)) front
    ∙ ap (λ m. (end_header r.line r.width r.seq (length pairs) ++ flat_map pair_bytes pairs) ++ zeros m) place
    ∙ append_assoc (end_header r.line r.width r.seq (length pairs)) (flat_map pair_bytes pairs) (zeros (left s r.width (length pairs)))
    ∙ ap (λ (ms : List Mark). end_header r.line r.width r.seq (length pairs) ++ (flat_map pair_bytes ms ++ zeros (left s r.width (length pairs)))) pairs-is
    ∙ sym (bytes_are s (end_numbers r) (length pairs) count)

-- ---- the record that is read

-- the marks' bytes are those that they were read of
pairs_again : (n : ℕ) (b : List ℕ) → AreBytes b → 16 * n ≤ length b → flat_map pair_bytes (pairs_in n b) ≡ take (16 * n) b
unfolding pairs_in
pairs_again zero b h long = refl
pairs_again (suc n) b h long =
    let first : le64 (number_at w64 0 b) ≡ take 8 b = le64_back 0 b h (omega arith) in
    let second : le64 (number_at w64 8 b) ≡ take 8 (drop 8 b) = le64_back 8 b h (omega arith) in
    let front : le64 (number_at w64 0 b) ++ le64 (number_at w64 8 b) ≡ take 16 b = ap (λ (xs : List ℕ). xs ++ le64 (number_at w64 8 b)) first
    ∙ ap (λ (xs : List ℕ). take 8 b ++ xs) second ∙ sym (take-add 8 8 b) in
    let rest : flat_map pair_bytes (pairs_in n (drop 16 b)) ≡ take (16 * n) (drop 16 b) =
    pairs_again n (drop 16 b) (rest_bytes 16 b h) (simp length-drop (omega arith)) in
    let more : 16 * suc n ≡ 16 + 16 * n = omega arith in
    ap (λ (xs : List ℕ). xs ++ flat_map pair_bytes (pairs_in n (drop 16 b))) front ∙ ap (λ (xs : List ℕ). take 16 b ++ xs) rest ∙ sym (take-add 16 (16 * n) b)
    ∙ ap (λ k. take k b) (sym more)

-- the marks behind the header
abbrev pairs_of : Shape → ℕ → List ℕ → List Mark
pairs_of s g b = pairs_in (data_len s g) (drop 32 b)

pairs_count : (s : Shape) (g : ℕ) (b : List ℕ) → length (pairs_of s g b) ≡ data_len s g
pairs_count s g b = length-pairs_in (data_len s g) (drop 32 b)

was_read : (s : Shape) (line g seq : ℕ) (b : List ℕ) (r : End) → end_read s line g seq b ≡ Some r → end_bytes s (end_in s line g seq b) ≡ b
unfolding end_read
was_read s line g seq b r h =
    same_bytes (end_bytes s (end_in s line g seq b)) b (cond_some (bytes_eq (end_bytes s (end_in s line g seq b)) b) (end_in s line g seq b) r h).0

is_read : (s : Shape) (line g seq : ℕ) (b : List ℕ) → end_bytes s (end_in s line g seq b) ≡ b → Some (end_in s line g seq b) ≡ end_read s line g seq b
unfolding end_read
is_read s line g seq b h = ap (λ t. cond t (Some (end_in s line g seq b)) None) (sym (true_same (end_bytes s (end_in s line g seq b)) b h))

-- each test that fails is one of a record that is read
abbrev pub SizeLaw : Type 0
SizeLaw = (s : Shape) (r : End) → IsAccepted s → IsEndRecord s r → length (end_bytes s r) ≡ end_len s r.width * s.sector

abbrev pub ReadLaw : Type 0
ReadLaw = (s : Shape) (line g seq : ℕ) (r : End) (bytes : List ℕ) → read_end s line g seq bytes ≡ Some r → IsEndRecord s r

pub other_size : (s : Shape) (line g seq : ℕ) (b : List ℕ) → SizeLaw → ReadLaw → IsAccepted s → (length b ≡ end_len s g * s.sector → ⊥)
    → None ≡ end_read s line g seq b
unfolding end_read
other_size s line g seq b sizes reads accepted differs =
    none_unless (read_end s line g seq b) (λ r e.
    let same : end_bytes s (end_in s line g seq b) ≡ b = was_read s line g seq b r e in
    let own : read_end s line g seq b ≡ Some (end_in s line g seq b) = sym (is_read s line g seq b same) in
    differs (ap length (sym same) ∙ sizes s (end_in s line g seq b) accepted (reads s line g seq (end_in s line g seq b) b own)))

-- what a record that is read stands in
record Parts (s : Shape) (line g seq : ℕ) (b : List ℕ) : Type 0 where
  header : end_header line g seq (data_len s g) ≡ take 32 b
  pairs : flat_map pair_bytes (pairs_of s g b) ≡ take (16 * data_len s g) (drop 32 b)
  tail : zeros (left s g (data_len s g)) ≡ drop (32 + 16 * data_len s g) b

parts_of : (s : Shape) (line g seq : ℕ) (b : List ℕ) → end_bytes s (end_in s line g seq b) ≡ b → Parts s line g seq b
parts_of s line g seq b same =
    let n : ℕ = data_len s g in
    let whole : end_header line g seq (data_len s g) ++ (flat_map pair_bytes (pairs_of s g b) ++ zeros (left s g (data_len s g))) ≡ b =
    sym (bytes_are s (end_in s line g seq b) (data_len s g) (pairs_count s g b)) ∙ same in
    let behind : flat_map pair_bytes (pairs_of s g b) ++ zeros (left s g (data_len s g)) ≡ drop 32 b =
    rest_of (end_header line g seq (data_len s g)) (flat_map pair_bytes (pairs_of s g b) ++ zeros (left s g (data_len s g))) b 32
    (header_length line g seq (data_len s g)) whole in
    let long : length (flat_map pair_bytes (pairs_of s g b)) ≡ 16 * data_len s g = pairs_length (pairs_of s g b) ∙ ap (λ k. 16 * k) (pairs_count s g b) in
    record {
      header = front_of (end_header line g seq (data_len s g)) (flat_map pair_bytes (pairs_of s g b) ++ zeros (left s g (data_len s g))) b 32
          (header_length line g seq (data_len s g)) whole;
      pairs = front_of (flat_map pair_bytes (pairs_of s g b)) (zeros (left s g (data_len s g))) (drop 32 b) (16 * data_len s g) long behind;
      tail = rest_of (flat_map pair_bytes (pairs_of s g b)) (zeros (left s g (data_len s g))) (drop 32 b) (16 * data_len s g) long behind
          ∙ drop-drop (16 * data_len s g) 32 b;
    }

same_from : (s : Shape) (line g seq : ℕ) (b : List ℕ) → Parts s line g seq b → end_bytes s (end_in s line g seq b) ≡ b
same_from s line g seq b p =
    let tail : zeros (left s g (data_len s g)) ≡ drop (16 * data_len s g) (drop 32 b) = p.tail ∙ sym (drop-drop (16 * data_len s g) 32 b) in
    let behind : flat_map pair_bytes (pairs_of s g b) ++ zeros (left s g (data_len s g)) ≡ drop 32 b =
    joined (flat_map pair_bytes (pairs_of s g b)) (zeros (left s g (data_len s g))) (drop 32 b) (16 * data_len s g) p.pairs tail in
    bytes_are s (end_in s line g seq b) (data_len s g) (pairs_count s g b)
    ∙ joined (end_header line g seq (data_len s g)) (flat_map pair_bytes (pairs_of s g b) ++ zeros (left s g (data_len s g))) b 32 p.header behind

pub misspelled_header : (s : Shape) (line g seq n : ℕ) (b : List ℕ) → n ≡ data_len s g → bytes_eq (end_header line g seq n) (take 32 b) ≡ false
    → None ≡ end_read s line g seq b
misspelled_header s line g seq n b n-is differs =
    none_unless (end_read s line g seq b) (λ r e.
    let p = parts_of s line g seq b (was_read s line g seq b r e) in
    let held : bytes_eq (end_header line g seq n) (take 32 b) ≡ true =
    true_same (end_header line g seq n) (take 32 b) (ap (end_header line g seq) n-is ∙ p.header) in
    absurd (let never : true ≡ false = sym held ∙ differs in cc))

pub unclear_tail : (s : Shape) (line g seq n : ℕ) (b rest : List ℕ) → n ≡ data_len s g → rest ≡ drop (32 + 16 * n) b → list_all (λ x. x == 0) rest ≡ false
    → None ≡ end_read s line g seq b
unclear_tail s line g seq n b rest n-is rest-is some =
    none_unless (end_read s line g seq b) (λ r e.
    let p = parts_of s line g seq b (was_read s line g seq b r e) in
    no_zeros rest (left s g (data_len s g)) (rest-is ∙ ap (λ m. drop (32 + 16 * m) b) n-is ∙ sym p.tail) some)

-- and where none fails the record is read
pub read_whole : (s : Shape) (line g seq n : ℕ) (b tail behind : List ℕ) (pairs : List Mark) → n ≡ data_len s g → AreBytes b → 32 + 16 * n ≤ length b
    → tail ≡ drop (32 + 16 * n) b → behind ≡ drop 32 b
    → length b ≡ end_len s g * s.sector → bytes_eq (end_header line g seq n) (take 32 b) ≡ true → list_all (λ x. x == 0) tail ≡ true → pairs ≡ pairs_in n behind
    → Some (record { line = line; width = g; seq = seq; pairs = pairs }) ≡ end_read s line g seq b
read_whole s line g seq n b tail behind pairs n-is bytes room tail-is behind-is size header clear pairs-is =
    let all : pairs ≡ pairs_of s g b = pairs-is ∙ ap (λ (xs : List ℕ). pairs_in n xs) behind-is ∙ ap (λ m. pairs_in m (drop 32 b)) n-is in
    let long : length tail ≡ left s g (data_len s g) = ap length tail-is ∙ simp length-drop (omega (arith, size, n-is)) in
    let same : end_bytes s (end_in s line g seq b) ≡ b = same_from s line g seq b (record {
      header = ap (end_header line g seq) (sym n-is) ∙ same_bytes (end_header line g seq n) (take 32 b) header;
      pairs = pairs_again (data_len s g) (drop 32 b) (rest_bytes 32 b bytes) (simp length-drop (omega (arith, n-is)));
      tail = sym (are_zeros tail (left s g (data_len s g)) long clear) ∙ tail-is ∙ ap (λ m. drop (32 + 16 * m) b) n-is;
    }) in
    ap (λ (ms : List Mark). Some (record { line = line; width = g; seq = seq; pairs = ms })) all ∙ is_read s line g seq b same

-- ---- sizes

-- the marks have room in the record's blocks
pub room_for : (s t : Shape) (g e n long : ℕ) → s ≡ t → e ≡ end_len t g → HoldsEnd t g e → n ≡ data_len t g → long ≡ e * s.sector → 32 + 16 * n ≤ long
room_for s t g e n long s-is e-is holds n-is size =
    let few : n ≤ g * t.clba - start_len t - end_len t g = data_within _ _ n n-is in
    let sectors : e * s.sector ≡ e * t.sector = ap (λ (x : Shape). e * x.sector) s-is in
    omega (arith, few, holds, size)

pub size_is : (s t : Shape) (g e long : ℕ) → s ≡ t → e ≡ end_len t g → long ≡ e * s.sector → long ≡ end_len t g * t.sector
size_is s t g e long s-is e-is size = size ∙ ap (λ (x : Shape). e * x.sector) s-is ∙ ap (λ x. x * t.sector) e-is

pub size_isnt : (s t : Shape) (g e long : ℕ) → s ≡ t → e ≡ end_len t g → (long ≡ e * s.sector → ⊥) → long ≡ end_len t g * t.sector → ⊥
size_isnt s t g e long s-is e-is differs size = differs (size ∙ ap (λ x. x * t.sector) (sym e-is) ∙ ap (λ (x : Shape). e * x.sector) (sym s-is))
