-- When bytes are a start record.
use Rattle.std.proofs.Common.{◌≡◌, ℕ, ◌+◌, ◌-◌, ◌*◌, ◌^◌, ◌≤◌, Bool, true, false, cond, ◌&&◌, ◌==◌, nat_le, nat_lt, leb, Option, Some, None, List, [], ◌∷◌, ◌++◌, map, length, take, drop, refl, sym, ap, ◌∙◌, subst, arith, append_assoc, length-append, length-drop}
use Rattle.std.specs.List.{flat_map, list_all}
use Rattle.std.specs.Str.{bytes_eq}
use Rattle.std.specs.Option.{option_map}
use Rattle.std.proofs.lemmas.Bool.{and_parts, and_from, leb-true}
use Rattle.std.proofs.lemmas.Option.{cond_some}
use Rattle.std.proofs.lemmas.List.{drop-drop, length-map}
use Rattle.pblk_model.specs.declared.shape.Shape.{Shape}
use Rattle.pblk_model.specs.Accepted.{IsAccepted}
use Rattle.pblk_model.specs.LineOrder.{start_len, HoldsStart}
use Rattle.pblk_model.specs.Bytes.{le16, le32, le64, zeros}
use Rattle.pblk_model.specs.StartRecord.{Row as OlderLine, StartRecord as Start, magic, row_bytes, rows_fit, rows_in, start_in, start_fits, start_bytes}
use Rattle.pblk_meta.specs.declared.rows.Row.{Row}
use Rattle.pblk_meta.specs.declared.start_header.StartHeader.{StartHeader}
use Rattle.pblk_meta.specs.declared.start_record.StartRecord.{StartRecord}
use Rattle.pblk_meta.specs.Records.{row_numbers, start_numbers}
use Rattle.pblk_meta.specs.Headers.{start_header, header_in, header_of, with_rows, header_fits, rows_hold, rows_read, start_read}
use Rattle.pblk_meta.proofs.Pieces.{taken, joined, front_of, rest_of, are_zeros, no_zeros}
use Rattle.pblk_model.proofs.Bytes.{same_bytes, true_same}
use Rattle.pblk_model.proofs.Options.{none_unless}
use Rattle.pblk_model.proofs.StartRecordLemmas.{length-rows_in}

-- ---- the spelling in its three parts

-- what the record spells, before what fills up its blocks
abbrev text : Start → List ℕ
text r = le32 magic ++ le16 1 ++ le16 1 ++ le32 r.line ++ le32 r.width ++ le64 r.seq ++ le64 r.first_seq ++ le64 r.front
    ++ le64 r.capacity ++ le32 (length r.rows) ++ zeros 12 ++ flat_map row_bytes r.rows

counted : (h : StartHeader) (rows : List OlderLine) (n : ℕ)
    → le32 magic ++ le16 1 ++ le16 1 ++ le32 h.line ++ le32 h.width ++ le64 h.seq ++ le64 h.first_seq ++ le64 h.front
    ++ le64 h.capacity ++ le32 n ++ zeros 12
    ++ flat_map row_bytes rows ≡ start_header
    (record { line = h.line; width = h.width; seq = h.seq; first_seq = h.first_seq; front = h.front; capacity = h.capacity; rows = n })
    ++ flat_map row_bytes rows
unfolding start_header zeros
counted h rows n = refl

text_is : (h : StartHeader) (rows : List OlderLine) → length rows ≡ h.rows → text (with_rows h rows) ≡ start_header h ++ flat_map row_bytes rows
text_is h rows e = counted h rows (length rows)
    ∙ ap (λ n. start_header (record { line = h.line; width = h.width; seq = h.seq; first_seq = h.first_seq; front = h.front; capacity = h.capacity; rows = n })
    ++ flat_map row_bytes rows) e

header_length : (h : StartHeader) → length (start_header h) ≡ 64
unfolding start_header zeros
header_length h = refl

rows_length : (rows : List OlderLine) → length (flat_map row_bytes rows) ≡ 24 * length rows
unfolding zeros
rows_length [] = refl
rows_length (row ∷ rows) = let rest : length (flat_map row_bytes rows) ≡ 24 * length rows = rows_length rows in omega arith

text_length : (h : StartHeader) (rows : List OlderLine) → length rows ≡ h.rows → length (text (with_rows h rows)) ≡ 64 + 24 * h.rows
text_length h rows e = ap length (text_is h rows e) ∙ length-append (start_header h) (flat_map row_bytes rows)
    ∙ omega (arith, header_length h, rows_length rows)

-- how many zeros are behind the rows
abbrev left : Shape → ℕ → ℕ
left s n = start_len s * s.sector - (64 + 24 * n)

bytes_are : (s : Shape) (h : StartHeader) (rows : List OlderLine) → length rows ≡ h.rows
    → start_bytes s (with_rows h rows) ≡ start_header h ++ (flat_map row_bytes rows ++ zeros (left s h.rows))
bytes_are s h rows e =
    ap (λ (xs : List ℕ). xs ++ zeros (start_len s * s.sector - length (text (with_rows h rows)))) (text_is h rows e)
    ∙ ap (λ n. (start_header h ++ flat_map row_bytes rows) ++ zeros (start_len s * s.sector - n)) (text_length h rows e)
    ∙ append_assoc (start_header h) (flat_map row_bytes rows) (zeros (left s h.rows))

-- ---- the written record

-- what `write` leaves is the spelling
pub written : (s : Shape) (h : StartHeader) (rows : List OlderLine) (out : List ℕ) (n : ℕ) → length rows ≡ h.rows → n ≡ start_len s * s.sector
    → 64 + 24 * h.rows ≤ n
    → out ≡ (start_header h ++ flat_map row_bytes rows) ++ zeros (n - (64 + 24 * h.rows)) → out ≡ start_bytes s (with_rows h rows)
written s h rows out n e size room is =
    is ∙ ap (λ m. (start_header h ++ flat_map row_bytes rows) ++ zeros (m - (64 + 24 * h.rows))) size
    ∙ append_assoc (start_header h) (flat_map row_bytes rows) (zeros (left s h.rows)) ∙ sym (bytes_are s h rows e)

-- ---- the record that is read

-- the rows behind the header
abbrev rows_of : List ℕ → List OlderLine
rows_of b = rows_in (header_in b).rows (drop 64 b)

rows_count : (b : List ℕ) → length (rows_of b) ≡ (header_in b).rows
rows_count b = length-rows_in (header_in b).rows (drop 64 b)

-- the bytes spell the record that stands in them
pub record IsRead (s : Shape) (line g : ℕ) (b : List ℕ) : Type 0 where
  pub fits : start_fits s line g (start_in b) ≡ true
  pub same : start_bytes s (start_in b) ≡ b

was_read : (s : Shape) (line g : ℕ) (b : List ℕ) (r : Start) → start_read s line g b ≡ Some r → IsRead s line g b
unfolding start_read
was_read s line g b r h =
    let chosen = cond_some (start_fits s line g (start_in b) && bytes_eq (start_bytes s (start_in b)) b) (start_in b) r h in
    let tests = and_parts (start_fits s line g (start_in b)) (bytes_eq (start_bytes s (start_in b)) b) chosen.0 in
    record { fits = tests.0; same = same_bytes (start_bytes s (start_in b)) b tests.1 }

is_read : (s : Shape) (line g : ℕ) (b : List ℕ) → IsRead s line g b → Some (start_in b) ≡ start_read s line g b
unfolding start_read
is_read s line g b h =
    let both : start_fits s line g (start_in b) && bytes_eq (start_bytes s (start_in b)) b ≡ true =
    and_from (start_fits s line g (start_in b)) (bytes_eq (start_bytes s (start_in b)) b) h.fits (true_same (start_bytes s (start_in b)) b h.same) in
    ap (λ t. cond t (Some (start_in b)) None) (sym both)

-- each test that fails is one of a record that is read
abbrev pub SizeLaw : Type 0
SizeLaw = (s : Shape) (line g : ℕ) (r : Start) → IsAccepted s → start_fits s line g r ≡ true → length (start_bytes s r) ≡ start_len s * s.sector

pub other_size : (s : Shape) (line g : ℕ) (b : List ℕ) → SizeLaw → IsAccepted s → (length b ≡ start_len s * s.sector → ⊥) → None ≡ start_read s line g b
other_size s line g b law accepted differs =
    none_unless (start_read s line g b) (λ r e.
    let h = was_read s line g b r e in
    differs (ap length (sym h.same) ∙ law s line g (start_in b) accepted h.fits))

numbers : Shape → ℕ → ℕ → StartHeader → ℕ → Bool
numbers s line g h n = (h.line == line) && (h.width == g) && (h.capacity == s.capacity)
    && nat_le 1 h.first_seq && nat_le h.first_seq h.seq && nat_lt h.seq (2 ^ 61) && nat_lt h.front (2 ^ 61)
    && nat_le n (s.chunks - 1)

fits_is : (s : Shape) (line g : ℕ) (b : List ℕ)
    → start_fits s line g (start_in b) ≡ (header_fits s line g (header_in b) && rows_fit s (start_in b) 0 (rows_of b))
unfolding numbers
fits_is s line g b = ap (λ n. numbers s line g (header_in b) n && rows_fit s (start_in b) 0 (rows_of b)) (rows_count b)

pub unfit_header : (s : Shape) (line g : ℕ) (b : List ℕ) (h : StartHeader) → h ≡ header_in b → header_fits s line g h ≡ false → None ≡ start_read s line g b
unfit_header s line g b h h-is unfit =
    none_unless (start_read s line g b) (λ r e.
    let read = was_read s line g b r e in
    let parts = and_parts (header_fits s line g (header_in b)) (rows_fit s (start_in b) 0 (rows_of b)) (sym (fits_is s line g b) ∙ read.fits) in
    let own : header_fits s line g (header_in b) ≡ false = subst (λ (x : StartHeader). header_fits s line g x ≡ false) h-is unfit in
    absurd (let never : true ≡ false = sym parts.0 ∙ own in cc))

-- what a record that is read stands in
record Parts (s : Shape) (b : List ℕ) : Type 0 where
  header : start_header (header_in b) ≡ take 64 b
  rows : flat_map row_bytes (rows_of b) ≡ take (24 * (header_in b).rows) (drop 64 b)
  tail : zeros (left s (header_in b).rows) ≡ drop (64 + 24 * (header_in b).rows) b

parts_of : (s : Shape) (b : List ℕ) → start_bytes s (start_in b) ≡ b → Parts s b
parts_of s b same =
    let h : StartHeader = header_in b in
    let rows : List OlderLine = rows_of b in
    let whole : start_header (header_in b) ++ (flat_map row_bytes (rows_of b) ++ zeros (left s (header_in b).rows)) ≡ b =
    sym (bytes_are s (header_in b) (rows_of b) (rows_count b)) ∙ same in
    let behind : flat_map row_bytes (rows_of b) ++ zeros (left s (header_in b).rows) ≡ drop 64 b =
    rest_of (start_header (header_in b)) (flat_map row_bytes (rows_of b) ++ zeros (left s (header_in b).rows)) b 64 (header_length (header_in b)) whole in
    let long : length (flat_map row_bytes (rows_of b)) ≡ 24 * (header_in b).rows = rows_length (rows_of b) ∙ ap (λ n. 24 * n) (rows_count b) in
    record {
      header = front_of (start_header (header_in b)) (flat_map row_bytes (rows_of b) ++ zeros (left s (header_in b).rows)) b 64
          (header_length (header_in b)) whole;
      rows = front_of (flat_map row_bytes (rows_of b)) (zeros (left s (header_in b).rows)) (drop 64 b) (24 * (header_in b).rows) long behind;
      tail = rest_of (flat_map row_bytes (rows_of b)) (zeros (left s (header_in b).rows)) (drop 64 b) (24 * (header_in b).rows) long behind
          ∙ drop-drop (24 * (header_in b).rows) 64 b;
    }

same_from : (s : Shape) (b : List ℕ) → Parts s b → start_bytes s (start_in b) ≡ b
same_from s b p =
    let tail : zeros (left s (header_in b).rows) ≡ drop (24 * (header_in b).rows) (drop 64 b) = p.tail ∙ sym (drop-drop (24 * (header_in b).rows) 64 b) in
    let behind : flat_map row_bytes (rows_of b) ++ zeros (left s (header_in b).rows) ≡ drop 64 b =
    joined (flat_map row_bytes (rows_of b)) (zeros (left s (header_in b).rows)) (drop 64 b) (24 * (header_in b).rows) p.rows tail in
    bytes_are s (header_in b) (rows_of b) (rows_count b)
    ∙ joined (start_header (header_in b)) (flat_map row_bytes (rows_of b) ++ zeros (left s (header_in b).rows)) b 64 p.header behind

pub misspelled_header : (s : Shape) (line g : ℕ) (b : List ℕ) (h : StartHeader) → h ≡ header_in b → bytes_eq (start_header h) (take 64 b) ≡ false
    → None ≡ start_read s line g b
misspelled_header s line g b h h-is differs =
    none_unless (start_read s line g b) (λ r e.
    let p = parts_of s b (was_read s line g b r e).same in
    let yes : bytes_eq (start_header h) (take 64 b) ≡ true = true_same (start_header h) (take 64 b) (ap start_header h-is ∙ p.header) in
    absurd (let never : true ≡ false = sym yes ∙ differs in cc))

pub unclear_tail : (s : Shape) (line g : ℕ) (b rest : List ℕ) (h : StartHeader) (n : ℕ) → h ≡ header_in b → n ≡ 64 + 24 * h.rows → rest ≡ drop n b
    → list_all (λ x. x == 0) rest ≡ false → None ≡ start_read s line g b
unclear_tail s line g b rest h n h-is n-is rest-is some =
    none_unless (start_read s line g b) (λ r e.
    let p = parts_of s b (was_read s line g b r e).same in
    let place : n ≡ 64 + 24 * (header_in b).rows = n-is ∙ ap (λ (x : StartHeader). 64 + 24 * x.rows) h-is in
    no_zeros rest (left s (header_in b).rows) (rest-is ∙ ap (λ m. drop m b) place ∙ sym p.tail) some)

hold_parts : (s : Shape) (r : Start) (rows : List OlderLine) (n : ℕ) (b : List ℕ) → length rows ≡ n → rows_hold s r 0 rows b ≡ true
    → (rows_fit s r 0 rows ≡ true) × (flat_map row_bytes rows ≡ take (24 * n) b)
unfolding rows_hold
hold_parts s r rows n b e h =
    let parts = and_parts (rows_fit s r 0 rows) (bytes_eq (flat_map row_bytes rows) (take (24 * length rows) b)) h in
    (parts.0, same_bytes (flat_map row_bytes rows) (take (24 * length rows) b) parts.1 ∙ ap (λ k. take (24 * k) b) e)

parts_hold : (s : Shape) (r : Start) (rows : List OlderLine) (n : ℕ) (b : List ℕ) → length rows ≡ n → rows_fit s r 0 rows ≡ true
    → flat_map row_bytes rows ≡ take (24 * n) b → rows_hold s r 0 rows b ≡ true
unfolding rows_hold
parts_hold s r rows n b e fits same =
    and_from (rows_fit s r 0 rows) (bytes_eq (flat_map row_bytes rows) (take (24 * length rows) b)) fits
    (true_same (flat_map row_bytes rows) (take (24 * length rows) b) (same ∙ ap (λ k. take (24 * k) b) (sym e)))

chosen_rows : (t : Bool) (xs ys : List OlderLine) → Some ys ≡ cond t (Some xs) None → (t ≡ true) × (ys ≡ xs)
chosen_rows true xs ys e = (refl, cc)
chosen_rows false xs ys e = absurd cc

unchosen_rows : (t : Bool) (xs : List OlderLine) → None ≡ cond t (Some xs) None → t ≡ true → ⊥
unchosen_rows true xs e held = absurd cc
unchosen_rows false xs e held = absurd cc

pub no_rows : (s : Shape) (line g : ℕ) (b rest : List ℕ) (h : StartHeader) → h ≡ header_in b → rest ≡ drop 64 b → None ≡ rows_read s h h.rows rest
    → None ≡ start_read s line g b
unfolding rows_read
no_rows s line g b rest h h-is rest-is none =
    none_unless (start_read s line g b) (λ r e.
    let read = was_read s line g b r e in
    let p = parts_of s b read.same in
    let tests = and_parts (header_fits s line g (header_in b)) (rows_fit s (start_in b) 0 (rows_of b)) (sym (fits_is s line g b) ∙ read.fits) in
    let own : None ≡ rows_read s (header_in b) (header_in b).rows (drop 64 b) =
    subst (λ (xs : List ℕ). None ≡ rows_read s (header_in b) (header_in b).rows xs) rest-is
    (subst (λ (x : StartHeader). None ≡ rows_read s x x.rows rest) h-is none) in
    unchosen_rows (rows_hold s (start_in b) 0 (rows_of b) (drop 64 b)) (rows_of b) own
    (parts_hold s (start_in b) (rows_of b) (header_in b).rows (drop 64 b) (rows_count b) tests.1 p.rows))

-- and where none fails the record is read
record AllPass (s : Shape) (line g : ℕ) (b : List ℕ) (rows : List OlderLine) : Type 0 where
  size : length b ≡ start_len s * s.sector
  fits : header_fits s line g (header_in b) ≡ true
  header : bytes_eq (start_header (header_in b)) (take 64 b) ≡ true
  tail : list_all (λ x. x == 0) (drop (64 + 24 * (header_in b).rows) b) ≡ true
  read : Some rows ≡ rows_read s (header_in b) (header_in b).rows (drop 64 b)

pass_read : (s : Shape) (line g : ℕ) (b : List ℕ) (rows : List OlderLine) → 64 + 24 * (header_in b).rows ≤ length b → AllPass s line g b rows
    → Some (with_rows (header_in b) rows) ≡ start_read s line g b
unfolding rows_read
pass_read s line g b rows room a =
    let chosen = chosen_rows (rows_hold s (start_in b) 0 (rows_of b) (drop 64 b)) (rows_of b) rows a.read in
    let held = hold_parts s (start_in b) (rows_of b) (header_in b).rows (drop 64 b) (rows_count b) chosen.0 in
    let long : length (drop (64 + 24 * (header_in b).rows) b) ≡ left s (header_in b).rows = simp length-drop (omega (arith, a.size)) in
    let same : start_bytes s (start_in b) ≡ b = same_from s b (record {
      header = same_bytes (start_header (header_in b)) (take 64 b) a.header;
      rows = held.1;
      tail = sym (are_zeros (drop (64 + 24 * (header_in b).rows) b) (left s (header_in b).rows) long a.tail);
    }) in
    ap (λ (xs : List OlderLine). Some (with_rows (header_in b) xs)) chosen.1
    ∙ is_read s line g b (record {
      fits = fits_is s line g b
          ∙ and_from (header_fits s line g (header_in b)) (rows_fit s (start_in b) 0 (rows_of b)) a.fits held.0;
      same = same;
    })

pub read_whole : (s : Shape) (line g : ℕ) (b tail behind : List ℕ) (h : StartHeader) (n : ℕ) (rows : List Row) → h ≡ header_in b → n ≡ 64 + 24 * h.rows
    → n ≤ length b → tail ≡ drop n b → behind ≡ drop 64 b
    → length b ≡ start_len s * s.sector → header_fits s line g h ≡ true → bytes_eq (start_header h) (take 64 b) ≡ true → list_all (λ x. x == 0) tail ≡ true
    → Some (map row_numbers rows) ≡ rows_read s h h.rows behind → Some (with_rows h (map row_numbers rows)) ≡ start_read s line g b
read_whole s line g b tail behind h n rows h-is n-is room tail-is behind-is size fits header zero read =
    let place : n ≡ 64 + 24 * (header_in b).rows = n-is ∙ ap (λ (x : StartHeader). 64 + 24 * x.rows) h-is in
    let own_tail : tail ≡ drop (64 + 24 * (header_in b).rows) b = tail-is ∙ ap (λ m. drop m b) place in
    ap (λ (x : StartHeader). Some (with_rows x (map row_numbers rows))) h-is ∙
    pass_read s line g b (map row_numbers rows) (omega arith) (record {
      size = size;
      fits = subst (λ (x : StartHeader). header_fits s line g x ≡ true) h-is fits;
      header = subst (λ (x : StartHeader). bytes_eq (start_header x) (take 64 b) ≡ true) h-is header;
      tail = subst (λ (xs : List ℕ). list_all (λ x. x == 0) xs ≡ true) own_tail zero;
      read = subst (λ (xs : List ℕ). Some (map row_numbers rows) ≡ rows_read s (header_in b) (header_in b).rows xs) behind-is
          (subst (λ (x : StartHeader). Some (map row_numbers rows) ≡ rows_read s x x.rows behind) h-is read);
    })

-- the header says that there are no more rows than other lines, which have room
pub few_rows : (s : Shape) (line g : ℕ) (h : StartHeader) → header_fits s line g h ≡ true → h.rows ≤ s.chunks - 1
few_rows s line g h fits = leb-true h.rows (s.chunks - 1) (and_parts _ (leb h.rows (s.chunks - 1)) fits).1

-- ---- what the other clauses say of what is read

pub of_some : {A B : Type 0} (f : A → B) (o : Option A) (x : A) (y : B) → o ≡ Some x → option_map f o ≡ Some y → f x ≡ y
of_some f o x y e h = cc_some (ap (option_map f) (sym e) ∙ h) where
  cc_some : Some (f x) ≡ Some y → f x ≡ y
  cc_some p = cc

pub room_for : (s t : Shape) (line g e long : ℕ) (h : StartHeader) → s ≡ t → HoldsStart t e → long ≡ e * s.sector → header_fits s line g h ≡ true
    → 64 + 24 * h.rows ≤ long
room_for s t line g e long h s-is holds size fits =
    let own : HoldsStart s e = subst (λ (x : Shape). HoldsStart x e) (sym s-is) holds in
    omega (arith, few_rows s line g h fits, own, size)

-- the size of the blocks
pub size_is : (s t : Shape) (e long : ℕ) → s ≡ t → e ≡ start_len t → long ≡ e * s.sector → long ≡ start_len s * s.sector
size_is s t e long s-is e-is size = size ∙ ap (λ x. x * s.sector) (e-is ∙ ap start_len (sym s-is))

pub size_isnt : (s t : Shape) (e long : ℕ) → s ≡ t → e ≡ start_len t → (long ≡ e * s.sector → ⊥) → long ≡ start_len s * s.sector → ⊥
size_isnt s t e long s-is e-is differs size = differs (size ∙ ap (λ x. x * s.sector) (ap start_len s-is ∙ sym e-is))

-- header, rows and zeros, written one after another
pub assembled : (s : Shape) (r : StartRecord) (h : StartHeader) (rows : List Row) (a b c : List ℕ) (stop n : ℕ) → rows ≡ r.rows → h ≡ header_of r (length rows)
    → take 64 a ≡ start_header h → take stop b ≡ take 64 a ++ flat_map row_bytes (map row_numbers rows)
    → take (length b) c ≡ take stop b ++ zeros (length b - stop)
    → stop ≡ 64 + 24 * length rows → length b ≡ n → length c ≡ length b → n ≡ start_len s * s.sector → 64 + 24 * length rows ≤ n
    → c ≡ start_bytes s (start_numbers r)
assembled s r h rows a b c stop n rows-is h-is header_there rows_there zeros_there stop-is long same size room =
    let whole : c ≡ take stop b ++ zeros (length b - stop) = taken c (take stop b ++ zeros (length b - stop)) (length b) same zeros_there in
    let place : length b - stop ≡ n - (64 + 24 * length rows) = omega arith in
    let front : take stop b ≡ start_header (header_of r (length rows)) ++ flat_map row_bytes (map row_numbers rows) =
    rows_there ∙ ap (λ (xs : List ℕ). xs ++ flat_map row_bytes (map row_numbers rows)) (header_there ∙ ap start_header h-is) in
    let is : c ≡ (start_header (header_of r (length rows)) ++ flat_map row_bytes (map row_numbers rows)) ++ zeros (n - (64 + 24 * length rows)) =
    whole ∙ ap (λ (xs : List ℕ). xs ++ zeros (length b - stop)) front
    ∙ ap (λ m. (start_header (header_of r (length rows)) ++ flat_map row_bytes (map row_numbers rows)) ++ zeros m) place in
    written s (header_of r (length rows)) (map row_numbers rows) c n (length-map rows row_numbers) size room is
    ∙ ap (λ (xs : List Row). start_bytes s (with_rows (header_of r (length xs)) (map row_numbers xs))) rows-is
