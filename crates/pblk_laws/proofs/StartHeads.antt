-- No block of a start record but its first looks like a header of one.
use Rattle.std.proofs.Common.{◌≡◌, ℕ, ◌+◌, ◌-◌, ◌*◌, ◌^◌, ◌<◌, ◌≤◌, zero, suc, true, eqb, ltb, leb, not, List, [], ◌∷◌, ◌++◌, length, get_or, take, drop, refl, sym, ap, ◌∙◌, subst, arith, append_assoc, inl, inr}
use Rattle.std.specs.List.{AllByRecursion, flat_map}
use Rattle.std.specs.Int.{w32, w64, from_le_bytes}
use Rattle.std.proofs.lemmas.Bool.{and_parts, ltb-true}
use Rattle.std.proofs.lemmas.Nat.{from_le_bytes-to_le_bytes_8}
use Rattle.std.proofs.lemmas.List.{drop-drop}
use Rattle.std.proofs.Math.Seq.{drop-append-add}
use Rattle.pblk_model.specs.declared.shape.Shape.{Shape}
use Rattle.pblk_model.specs.declared.chunk.Mark.{Mark}
use Rattle.pblk_model.specs.Accepted.{IsAccepted}
use Rattle.pblk_model.specs.Bytes.{le16, le32, le64, zeros, number_at}
use Rattle.pblk_model.specs.Chunk.{Block}
use Rattle.pblk_model.specs.LineOrder.{start_len}
use Rattle.pblk_model.specs.Marks.{meta_mark}
use Rattle.pblk_model.specs.StartRecord.{Row, StartRecord, magic, row_bytes, start_bytes, rows_fit, start_fits}
use Rattle.pblk_model.specs.Sealed.{BeginsNarrower}
use Rattle.pblk_laws.proofs.Starts.{numbers, spelled}
use Rattle.pblk_model.proofs.Numbers.{byte_is}
use Rattle.pblk_model.proofs.Parts.{take_less}
use Rattle.pblk_model.proofs.BytesLemmas.{number_front, zeros_first}
use Rattle.pblk_model.proofs.StartRecordLemmas.{width_there}

abbrev head_bytes : List ℕ
head_bytes = le32 magic ++ le16 1 ++ le16 1

-- a text doesn't begin as a header of this sequence number does, with a width
abbrev NoHead : ℕ → List ℕ → Type 0
NoHead seq t = take 8 t ≡ head_bytes → number_at w64 16 t ≡ seq → 1 ≤ number_at w32 12 t → ⊥

-- Zeros.

zeros_no_head : (seq n : ℕ) → NoHead seq (zeros n)
zeros_no_head seq n e f g = let h : get_or (take 8 (zeros n)) 0 0 ≡ 107 = ap (λ xs. get_or xs 0 0) e in omega (arith, zeros_first n)

dropped_no_head : (seq q n : ℕ) → NoHead seq (drop q (zeros n))
unfolding zeros
dropped_no_head seq zero n = zeros_no_head seq n
dropped_no_head seq (suc q) zero = zeros_no_head seq 0
dropped_no_head seq (suc q) (suc n) = dropped_no_head seq q n

zeros_number_8 : (n : ℕ) → number_at w64 0 (zeros n) ≡ 0
unfolding zeros
zeros_number_8 zero = refl
zeros_number_8 (suc zero) = refl
zeros_number_8 (suc (suc zero)) = refl
zeros_number_8 (suc (suc (suc zero))) = refl
zeros_number_8 (suc (suc (suc (suc zero)))) = refl
zeros_number_8 (suc (suc (suc (suc (suc zero))))) = refl
zeros_number_8 (suc (suc (suc (suc (suc (suc zero)))))) = refl
zeros_number_8 (suc (suc (suc (suc (suc (suc (suc zero))))))) = refl
zeros_number_8 (suc (suc (suc (suc (suc (suc (suc (suc n)))))))) = refl

zeros_number_4 : (n : ℕ) → number_at w32 4 (zeros n) ≡ 0
unfolding zeros
zeros_number_4 zero = refl
zeros_number_4 (suc zero) = refl
zeros_number_4 (suc (suc zero)) = refl
zeros_number_4 (suc (suc (suc zero))) = refl
zeros_number_4 (suc (suc (suc (suc zero)))) = refl
zeros_number_4 (suc (suc (suc (suc (suc zero))))) = refl
zeros_number_4 (suc (suc (suc (suc (suc (suc zero)))))) = refl
zeros_number_4 (suc (suc (suc (suc (suc (suc (suc zero))))))) = refl
zeros_number_4 (suc (suc (suc (suc (suc (suc (suc (suc n)))))))) = refl

-- Rows, and zeros after them.

record IsOlder (seq : ℕ) (r : Row) : Type 0 where
  line : r.line < 2 ^ 32
  low : r.seq < 2 ^ 64
  older : r.seq < seq

abbrev row_tail : List Row → ℕ → List ℕ
row_tail rows n = flat_map row_bytes rows ++ zeros n

first_number : (rows : List Row) (n : ℕ) → number_at w64 0 (row_tail rows n) < 2 ^ 32
unfolding zeros
first_number [] n = omega (arith, zeros_number_8 n)
first_number (row ∷ rows) n = omega (arith, byte_is 0 row.line, byte_is 1 row.line, byte_is 2 row.line, byte_is 3 row.line)

second_number : (rows : List Row) (n : ℕ) → number_at w32 4 (row_tail rows n) ≡ 0
unfolding zeros
second_number [] n = zeros_number_4 n
second_number (row ∷ rows) n = refl

at_line : (seq : ℕ) (row : Row) (rest : List ℕ) → NoHead seq (row_bytes row ++ rest)
unfolding zeros
at_line seq row rest e f g = let h : ◌≡◌ {A = ℕ} 0 1 = ap (λ xs. get_or xs 4 0) e in omega arith

at_seq : (seq : ℕ) (row : Row) (rows : List Row) (n : ℕ) → IsOlder seq row → NoHead seq (le64 row.seq ++ le64 row.bound ++ row_tail rows n)
at_seq seq row rows n h e f g =
    let same : from_le_bytes w64 (le64 row.seq) ≡ from_le_bytes w64 head_bytes = ap (from_le_bytes w64) e in
    let is : row.seq ≡ from_le_bytes w64 head_bytes = sym (from_le_bytes-to_le_bytes_8 row.seq h.low) ∙ same in
    let large : 2 ^ 48 ≤ from_le_bytes w64 head_bytes = omega arith in
    let next : number_at w64 0 (row_tail rows n) ≡ seq = f in
    omega (arith, h.older, first_number rows n)

at_bound : (seq bound : ℕ) (rows : List Row) (n : ℕ) → NoHead seq (le64 bound ++ row_tail rows n)
at_bound seq bound rows n e f g = let some : 1 ≤ number_at w32 4 (row_tail rows n) = g in omega (arith, second_number rows n)

no_head : (seq : ℕ) (rows : List Row) (n q : ℕ) → AllByRecursion (IsOlder seq) rows → NoHead seq (drop (8 * q) (row_tail rows n))
unfolding zeros
no_head seq [] n q h = dropped_no_head seq (8 * q) n
no_head seq (row ∷ rows) n zero h =
    subst (NoHead seq) (sym (append_assoc (row_bytes row) (flat_map row_bytes rows) (zeros n))) (at_line seq row (row_tail rows n))
no_head seq (row ∷ rows) n (suc zero) h = at_seq seq row rows n h.0
no_head seq (row ∷ rows) n (suc (suc zero)) h = at_bound seq row.bound rows n
no_head seq (row ∷ rows) n (suc (suc (suc q))) h =
    let far : 8 * suc (suc (suc q)) ≡ length (row_bytes row) + 8 * q = omega arith in
    let rest : drop (8 * suc (suc (suc q))) (row_tail (row ∷ rows) n) ≡ drop (8 * q) (row_tail rows n) =
    ap (λ xs. drop (8 * suc (suc (suc q))) xs) (append_assoc (row_bytes row) (flat_map row_bytes rows) (zeros n))
    ∙ ap (λ m. drop m (row_bytes row ++ row_tail rows n)) far
    ∙ drop-append-add (row_bytes row) (row_tail rows n) (8 * q) in
    subst (NoHead seq) (sym rest) (no_head seq rows n q h.1)

-- A block is the front of a text.

front_no_head : (seq n h : ℕ) (xs : List ℕ) (b : Block) → 24 ≤ n → NoHead seq xs → b.sector ≡ take n xs → b.mark.position ≡ seq → BeginsNarrower h b → ⊥
front_no_head seq n h xs b long none same mark begins =
    none
    (sym (take_less 8 n xs (omega arith)) ∙ ap (take 8) (sym same) ∙ begins.kind)
    (sym (number_front w64 16 n xs (omega arith)) ∙ ap (number_at w64 16) (sym same) ∙ begins.seq ∙ mark)
    (subst (λ x. 1 ≤ x) (ap (number_at w32 12) same ∙ number_front w32 12 n xs (omega arith)) begins.some_width)

-- The blocks of a spelling.

rows_older : (s : Shape) (r : StartRecord) (least : ℕ) (rows : List Row) → s.chunks < 2 ^ 32 → r.first_seq ≤ r.seq → r.seq < 2 ^ 64
    → rows_fit s r least rows ≡ true → AllByRecursion (IsOlder r.seq) rows
rows_older s r least [] lines first low h = tt
rows_older s r least (row ∷ rows) lines first low h =
    let p6 = and_parts _ (rows_fit s r (row.line + 1) rows) h in
    let p5 = and_parts _ (leb row.bound r.front) p6.0 in
    let p4 = and_parts _ (ltb row.seq r.first_seq) p5.0 in
    let p3 = and_parts _ (leb 1 row.seq) p4.0 in
    let p2 = and_parts _ (not (eqb row.line r.line)) p3.0 in
    let p1 = and_parts (leb least row.line) (ltb row.line s.chunks) p2.0 in
    let below : row.line < s.chunks = ltb-true row.line s.chunks p1.1 in
    let older : row.seq < r.first_seq = ltb-true row.seq r.first_seq p4.1 in
    (record { line = omega arith; low = omega arith; older = omega arith }, rows_older s r (row.line + 1) rows lines first low p6.1)

past_header : (s : Shape) (r : StartRecord) → drop 64 (start_bytes s r) ≡ row_tail r.rows (start_len s * s.sector - length (spelled r))
unfolding zeros
past_header s r = refl

first_block : (s : Shape) (g h : ℕ) (r : StartRecord) (b : Block) → 24 ≤ s.sector → g < 2 ^ 32 → h ≤ g → r.width ≡ g
    → b.sector ≡ take s.sector (drop 0 (start_bytes s r)) → BeginsNarrower h b → ⊥
first_block s g h r b long wide less same sector begins =
    let read : number_at w32 12 b.sector ≡ r.width = ap (number_at w32 12) sector ∙ number_front w32 12 s.sector (start_bytes s r) (omega arith)
    ∙ width_there s r (omega arith) in
    omega (arith, begins.narrower)

later_block : (s : Shape) (h q : ℕ) (r : StartRecord) (b : Block) → 24 ≤ s.sector → AllByRecursion (IsOlder r.seq) r.rows
    → b.sector ≡ take s.sector (drop (64 + 8 * q) (start_bytes s r)) → b.mark ≡ meta_mark r.seq → BeginsNarrower h b → ⊥
later_block s h q r b long older sector mark begins =
    let n = start_len s * s.sector - length (spelled r) in
    let there : drop (64 + 8 * q) (start_bytes s r) ≡ drop (8 * q) (row_tail r.rows n) = sym (drop-drop (8 * q) 64 (start_bytes s r))
    ∙ ap (drop (8 * q)) (past_header s r) in
    let none : NoHead r.seq (drop (64 + 8 * q) (start_bytes s r)) = subst (NoHead r.seq) (sym there) (no_head r.seq r.rows n q older) in
    front_no_head r.seq s.sector h (drop (64 + 8 * q) (start_bytes s r)) b long none sector (ap (λ (m : Mark). m.position) mark) begins

at_words : (s : Shape) (j : ℕ) → IsAccepted s → (q : ℕ) × (suc j * s.sector ≡ 64 + 8 * q)
at_words s j accepted = elim accepted.target.sector [
  | inl e ↦ (64 * j + 56, ap (λ x. suc j * x) e ∙ omega arith)
  | inr e ↦ (512 * j + 504, ap (λ x. suc j * x) e ∙ omega arith)
]

pub sector_long : (s : Shape) → IsAccepted s → 24 ≤ s.sector
sector_long s accepted = elim accepted.target.sector [ inl e ↦ omega arith | inr e ↦ omega arith ]

pub spelled_begins_once : (s : Shape) (line g h j : ℕ) (r : StartRecord) (b : Block) → IsAccepted s → g < 2 ^ 32 → h ≤ g → start_fits s line g r ≡ true
    → b.sector ≡ take s.sector (drop (j * s.sector) (start_bytes s r)) → b.mark ≡ meta_mark r.seq → BeginsNarrower h b → ⊥
spelled_begins_once s line g h zero r b accepted wide less fits sector mark begins =
    let n = numbers s line g r fits in
    let none : 0 * s.sector ≡ 0 = omega arith in
    first_block s g h r b (sector_long s accepted) wide less n.width (sector ∙ ap (λ m. take s.sector (drop m (start_bytes s r))) none) begins
spelled_begins_once s line g h (suc j) r b accepted wide less fits sector mark begins =
    let n = numbers s line g r fits in
    let lines : s.chunks ≤ 1024 = accepted.drive.lines_high in
    let q = at_words s j accepted in
    let older = rows_older s r 0 r.rows (omega arith) n.first_seq (omega (arith, n.seq)) n.rows in
    later_block s h q.0 r b (sector_long s accepted) older (sector ∙ ap (λ m. take s.sector (drop m (start_bytes s r))) q.1) mark begins
