-- No block of an end record looks like the header of a start record.
use Rattle.std.proofs.Common.{◌≡◌, ◌⊎◌, inl, inr, ℕ, ◌+◌, ◌-◌, ◌*◌, ◌^◌, ◌<◌, ◌≤◌, zero, suc, List, [], ◌∷◌, ◌++◌, length, take, drop, get_or, refl, sym, subst, ap, ◌∙◌, arith, append_assoc}
use Rattle.std.specs.List.{AllByRecursion, flat_map}
use Rattle.std.specs.Int.{w64, from_le_bytes}
use Rattle.std.proofs.lemmas.Nat.{from_le_bytes-to_le_bytes_8}
use Rattle.std.proofs.lemmas.List.{drop-drop}
use Rattle.std.proofs.Math.Seq.{drop-append-add}
use Rattle.pblk_model.specs.declared.shape.Shape.{Shape}
use Rattle.pblk_model.specs.declared.chunk.Mark.{Mark}
use Rattle.pblk_model.specs.Accepted.{IsAccepted}
use Rattle.pblk_model.specs.Bytes.{le16, le32, le64, zeros}
use Rattle.pblk_model.specs.Chunk.{Block}
use Rattle.pblk_model.specs.Marks.{meta_lba}
use Rattle.pblk_model.specs.LineOrder.{end_len}
use Rattle.pblk_model.specs.StartRecord.{magic}
use Rattle.pblk_model.specs.EndRecord.{EndRecord, pair_bytes, end_bytes}
use Rattle.pblk_model.specs.Sealed.{BeginsNarrower}
use Rattle.pblk_model.proofs.BytesLemmas.{zeros_first}
use Rattle.pblk_laws.proofs.EndSpelling.{end_spelled}
use Rattle.pblk_laws.proofs.StartHeads.{sector_long}
use Rattle.pblk_model.proofs.Parts.{take_less}

abbrev head_bytes : List ℕ
head_bytes = le32 magic ++ le16 1 ++ le16 1

abbrev NoHead : List ℕ → Type 0
NoHead t = take 8 t ≡ head_bytes → ⊥

zeros_no_head : (n : ℕ) → NoHead (zeros n)
zeros_no_head n e = let h : get_or (take 8 (zeros n)) 0 0 ≡ 107 = ap (λ xs. get_or xs 0 0) e in omega (arith, zeros_first n)

dropped_no_head : (q n : ℕ) → NoHead (drop q (zeros n))
unfolding zeros
dropped_no_head zero n = zeros_no_head n
dropped_no_head (suc q) zero = zeros_no_head 0
dropped_no_head (suc q) (suc n) = dropped_no_head q n

-- a mark of a sector, or one of those that name none
abbrev pub IsPlacedMark : Mark → Type 0
IsPlacedMark m = (m.lba < 2 ^ 40) ⊎ ((meta_lba ≤ m.lba) × (m.lba < 2 ^ 64))

abbrev pairs_tail : List Mark → ℕ → List ℕ
pairs_tail pairs n = flat_map pair_bytes pairs ++ zeros n

at_pair : (m : Mark) (rest : List ℕ) → IsPlacedMark m → NoHead (pair_bytes m ++ rest)
at_pair m rest is e =
    let same : from_le_bytes w64 (le64 m.lba) ≡ from_le_bytes w64 head_bytes = ap (from_le_bytes w64) e in
    go is same
  where
    go : IsPlacedMark m → from_le_bytes w64 (le64 m.lba) ≡ from_le_bytes w64 head_bytes → ⊥
    go (inl low) same =
        let whole : m.lba ≡ from_le_bytes w64 head_bytes = sym (from_le_bytes-to_le_bytes_8 m.lba (omega arith)) ∙ same in
        let large : 2 ^ 48 ≤ from_le_bytes w64 head_bytes = omega arith in
        omega arith
    go (inr high) same =
        let whole : m.lba ≡ from_le_bytes w64 head_bytes = sym (from_le_bytes-to_le_bytes_8 m.lba high.1) ∙ same in
        let from : meta_lba ≤ m.lba = high.0 in
        let small : from_le_bytes w64 head_bytes < 2 ^ 49 = omega arith in
        omega arith

no_head : (pairs : List Mark) (n q : ℕ) → AllByRecursion IsPlacedMark pairs → NoHead (drop (16 * q) (pairs_tail pairs n))
no_head [] n q all = dropped_no_head (16 * q) n
no_head (m ∷ pairs) n zero all = subst NoHead (sym (append_assoc (pair_bytes m) (flat_map pair_bytes pairs) (zeros n))) (at_pair m (pairs_tail pairs n) all.0)
no_head (m ∷ pairs) n (suc q) all =
    let far : 16 * suc q ≡ length (pair_bytes m) + 16 * q = omega arith in
    let rest : drop (16 * suc q) (pairs_tail (m ∷ pairs) n) ≡ drop (16 * q) (pairs_tail pairs n) =
    ap (λ xs. drop (16 * suc q) xs) (append_assoc (pair_bytes m) (flat_map pair_bytes pairs) (zeros n))
    ∙ ap (λ k. drop k (pair_bytes m ++ pairs_tail pairs n)) far
    ∙ drop-append-add (pair_bytes m) (pairs_tail pairs n) (16 * q) in
    subst NoHead (sym rest) (no_head pairs n q all.1)

-- the bytes behind the header
past_header : (s : Shape) (r : EndRecord) → (n : ℕ) × (drop 32 (end_bytes s r) ≡ pairs_tail r.pairs n)
unfolding zeros
past_header s r = (end_len s r.width * s.sector - length (end_spelled r), refl)

header_other : (s : Shape) (r : EndRecord) → NoHead (end_bytes s r)
unfolding zeros
header_other s r e = let h : ◌≡◌ {A = ℕ} 2 1 = ap (λ xs. get_or xs 6 0) e in omega arith

at_pairs : (s : Shape) (j : ℕ) → IsAccepted s → (q : ℕ) × (suc j * s.sector ≡ 32 + 16 * q)
at_pairs s j accepted = elim accepted.target.sector [
  | inl e ↦ (32 * j + 30, ap (λ x. suc j * x) e ∙ omega arith)
  | inr e ↦ (256 * j + 254, ap (λ x. suc j * x) e ∙ omega arith)
]

block_no_head : (s : Shape) (r : EndRecord) (j : ℕ) → IsAccepted s → AllByRecursion IsPlacedMark r.pairs → NoHead (drop (j * s.sector) (end_bytes s r))
block_no_head s r zero accepted all =
    let none : 0 * s.sector ≡ 0 = omega arith in subst (λ n. NoHead (drop n (end_bytes s r))) (sym none) (header_other s r)
block_no_head s r (suc j) accepted all =
    let q = at_pairs s j accepted in
    let tail = past_header s r in
    let there : drop (suc j * s.sector) (end_bytes s r) ≡ drop (16 * q.0) (pairs_tail r.pairs tail.0) =
    ap (λ n. drop n (end_bytes s r)) q.1 ∙ sym (drop-drop (16 * q.0) 32 (end_bytes s r)) ∙ ap (drop (16 * q.0)) tail.1 in
    subst NoHead (sym there) (no_head r.pairs tail.0 q.0 all)

-- so it doesn't begin as one
pub end_begins_none : (s : Shape) (r : EndRecord) (j g : ℕ) (b : Block) → IsAccepted s → AllByRecursion IsPlacedMark r.pairs
    → b.sector ≡ take s.sector (drop (j * s.sector) (end_bytes s r)) → BeginsNarrower g b → ⊥
end_begins_none s r j g b accepted all sector begins =
    let long : 24 ≤ s.sector = sector_long s accepted in
    block_no_head s r j accepted all
    (sym (take_less 8 s.sector (drop (j * s.sector) (end_bytes s r)) (omega arith)) ∙ ap (take 8) (sym sector) ∙ begins.kind)
