-- Images that are sealed.
use Rattle.std.proofs.Common.{◌≡◌, ℕ, ◌+◌, ◌-◌, ◌*◌, ◌<◌, ◌≤◌, zero, suc, Option, Some, None, List, [], ◌∷◌, ◌++◌, length, get_or, take, drop, sym, ap, ◌∙◌, subst, arith, inl, inr}
use Rattle.std.specs.List.{AllByRecursion, slice_get, flat_map}
use Rattle.std.specs.Option.{option_and_then, IfSome}
use Rattle.std.proofs.Math.Seq.{take-append_seam, drop-append-add}
use Rattle.std.proofs.lemmas.Option.{same_Some, none-some, slice_get_within, slice_get-get_or}
use Rattle.std.proofs.lemmas.Bool.{cases_lt}
use Rattle.pblk_model.specs.declared.shape.Shape.{Shape}
use Rattle.pblk_model.specs.declared.chunk.Mark.{Mark}
use Rattle.pblk_model.specs.Accepted.{IsAccepted}
use Rattle.pblk_model.specs.Shape.{units}
use Rattle.pblk_model.specs.Chunk.{Chunk, Block, IsBlock, IsChunk}
use Rattle.pblk_model.specs.LineOrder.{start_len, column_of, block_of, address_of}
use Rattle.pblk_model.specs.Marks.{meta_lba, meta_mark, sector_mark, pad_mark}
use Rattle.pblk_model.specs.Image.{Image, IsFit, blank, line_chunks, width, block_at}
use Rattle.pblk_model.specs.StartRecord.{StartRecord, start_bytes, start_of}
use Rattle.pblk_model.specs.EndRecord.{EndRecord, end_of}
use Rattle.pblk_model.specs.Sealed.{AgreesWithLine, BeginsNarrower, IsSealed}
use Rattle.pblk_model.specs.History.{SectorWrite}
use Rattle.pblk_laws.specs.StartBlocks.{AreStart}
use Rattle.pblk_laws.specs.FilledLine.{IsFilledLine}
use Rattle.pblk_model.proofs.LineOrder.{address_below, chunk_back, block_back}
use Rattle.pblk_laws.proofs.Widths.{width_within}
use Rattle.pblk_laws.proofs.Starts.{found_is}
use Rattle.pblk_laws.proofs.StartHeads.{spelled_begins_once}
use Rattle.pblk_laws.proofs.BlankImages.{IsEmpty, empty_line, blank_empty, blank_start}
use Rattle.pblk_laws.proofs.FilledExample.{image, first, write, is_filled, image_fit, others_empty}
use Rattle.pblk_laws.proofs.Shapes.{small_accepted}
use Rattle.pblk_model.proofs.Parts.{all_by_get, all_get as all_at, all_get_some}
use Rattle.pblk_model.proofs.ImageLemmas.{line_fit}

-- A chunk without blocks.

pub empty_begins : (g k : ℕ) (chunks : List Chunk) (c : Chunk) (b : Block) → AllByRecursion IsEmpty chunks → slice_get chunks k ≡ Some c
    → slice_get c.blocks 0 ≡ Some b → BeginsNarrower g b → ⊥
unfolding IsEmpty
empty_begins g k chunks c b empty there first begins =
    let none : c.blocks ≡ [] = all_at IsEmpty chunks k c empty there in
    none-some b (sym (ap (λ blocks. slice_get blocks 0) none) ∙ first)

pub blank_sealed : (s : Shape) → IsAccepted s → IsSealed (blank s)
blank_sealed s accepted = record {
  ends = λ line start e inside whole ended. absurd (none-some start (sym (blank_start s line accepted) ∙ whole));
  begins = λ line k c b inside there first begins. empty_begins (width (blank s) line) k (line_chunks (blank s) line) c b
      (empty_line (blank s) line (blank_empty s)) there first begins;
}

-- The blocks of a line are those of its chunks.

in_chunk : (s : Shape) (n : ℕ) (o : Option Chunk) (b : Block) → IfSome o (IsChunk s) → option_and_then (λ c. slice_get c.blocks n) o ≡ Some b → IsBlock s b
in_chunk s n None b h e = absurd (none-some b e)
in_chunk s n (Some c) b h e = all_at (IsBlock s) c.blocks n b h.blocks e

block_fit : (i : Image) (line a : ℕ) (b : Block) → IsFit i → block_at i line a ≡ Some b → IsBlock i.shape b
block_fit i line a b fit e =
    in_chunk i.shape (block_of i.shape (width i line) a) (slice_get (line_chunks i line) (column_of i.shape (width i line) a)) b
    (all_get_some (IsChunk i.shape) (line_chunks i line) (column_of i.shape (width i line) a) (line_fit i line fit)) e

-- A block of a run of blocks is a part of their bytes.

HasSize : ℕ → Block → Type 0
HasSize n b = length b.sector ≡ n

part_of : (n : ℕ) (blocks : List Block) (a : ℕ) (b : Block) → AllByRecursion (HasSize n) blocks → slice_get blocks a ≡ Some b
    → b.sector ≡ take n (drop (a * n) (flat_map (λ (x : Block). x.sector) blocks))
unfolding HasSize
part_of n [] a b sizes e = absurd (none-some b e)
part_of n (x ∷ blocks) zero b sizes e =
    let rest = flat_map (λ (y : Block). y.sector) blocks in
    let same : x ≡ b = same_Some x b e in
    let none : 0 * n ≡ 0 = omega arith in
    ap (λ (y : Block). y.sector) (sym same)
    ∙ sym (take-append_seam x.sector rest)
    ∙ ap (λ m. take m (x.sector ++ rest)) sizes.0
    ∙ ap (λ m. take n (drop m (x.sector ++ rest))) (sym none)
part_of n (x ∷ blocks) (suc a) b sizes e =
    let rest = flat_map (λ (y : Block). y.sector) blocks in
    let size = sizes.0 in
    let far : suc a * n ≡ length x.sector + a * n = omega arith in
    part_of n blocks a b sizes.1 e ∙ ap (take n) (sym (ap (λ m. drop m (x.sector ++ rest)) far ∙ drop-append-add x.sector rest (a * n)))

pub found_begins_once : (i : Image) (line a : ℕ) (r : StartRecord) (b : Block) → IsAccepted i.shape → IsFit i → start_of i line ≡ Some r → a < start_len i.shape
    → block_at i line a ≡ Some b → BeginsNarrower (width i line) b → ⊥
unfolding HasSize
found_begins_once i line a r b accepted fit whole inside there begins =
    let found = found_is i line r whole in
    let blocks : List Block = found.1 in
    let are : AreStart i line r blocks = found.2 in
    let sizes : AllByRecursion (HasSize i.shape.sector) blocks = all_by_get (HasSize i.shape.sector) blocks (λ k x e.
    let low : k < length blocks = slice_get_within blocks k x e in
    (block_fit i line k x fit (are.written k (omega (arith, are.count)) ∙ e)).size) in
    let here : slice_get blocks a ≡ Some b = sym (are.written a inside) ∙ there in
    let part : b.sector ≡ take i.shape.sector (drop (a * i.shape.sector) (start_bytes i.shape r)) =
    part_of i.shape.sector blocks a b sizes here ∙ ap (λ xs. take i.shape.sector (drop (a * i.shape.sector) xs)) are.bytes in
    let mark : b.mark ≡ meta_mark r.seq = all_at (λ (x : Block). x.mark ≡ meta_mark r.seq) blocks a b are.marks here in
    let few : units i.shape ≤ 64 = accepted.drive.few_units in
    spelled_begins_once i.shape line (width i line) (width i line) a r b accepted (omega (arith, width_within i line fit))
    (omega arith) found.0 part mark begins

-- An image that is filled from the front of its line 0.

-- the line address of a chunk's first block
abbrev first_address : Shape → ℕ → ℕ → ℕ
first_address s g k = address_of s g k 0

module _ (i : Image) (start : StartRecord) (writes : List SectorWrite) (accepted : IsAccepted i.shape) (fit : IsFit i)
    (filled : IsFilledLine i start writes) where
  first_at : (k : ℕ) (c : Chunk) (b : Block) → slice_get (line_chunks i 0) k ≡ Some c → slice_get c.blocks 0 ≡ Some b
      → (first_address i.shape (width i 0) k < width i 0 * i.shape.clba) × (block_at i 0 (first_address i.shape (width i 0) k) ≡ Some b)
  first_at k c b there first =
      let s : Shape = i.shape in
      let g : ℕ = width i 0 in
      let a : ℕ = first_address s g k in
      let chunk : k < g = slice_get_within (line_chunks i 0) k c there in
      let column : column_of s g a ≡ k = chunk_back s.ws_opt g k 0 accepted.drive.ws_opt chunk in
      let block : block_of s g a ≡ 0 = block_back s.ws_opt g k 0 accepted.drive.ws_opt chunk in
      let at : block_at i 0 a ≡ Some b =
      ap (λ x. option_and_then (λ (d : Chunk). slice_get d.blocks (block_of s g a)) (slice_get (line_chunks i 0) x)) column
      ∙ ap (λ x. option_and_then (λ (d : Chunk). slice_get d.blocks x) (slice_get (line_chunks i 0) k)) block
      ∙ ap (option_and_then (λ (d : Chunk). slice_get d.blocks 0)) there
      ∙ first in
      (address_below s.ws_opt g s.clba k 0 accepted.drive.ws_opt accepted.drive.whole_stripes chunk accepted.drive.clba, at)

  -- a data block, or a pad, has no Meta mark
  data_begins : (g k : ℕ) (b : Block) → k < length writes → block_at i 0 (start_len i.shape + k) ≡ Some b → BeginsNarrower g b → ⊥
  data_begins g k b low there begins =
      let w : SectorWrite = get_or writes k (record { lba = 0; sector = [] }) in
      let here : slice_get writes k ≡ Some w = slice_get-get_or writes k (record { lba = 0; sector = [] }) low in
      let is : record { sector = w.sector; mark = sector_mark w.lba k } ≡ b = same_Some _ b (sym (filled.data_blocks k w here) ∙ there) in
      let lba : w.lba ≡ meta_lba = ap (λ (x : Block). x.mark.lba) is ∙ begins.mark in
      omega (arith, filled.capacity, all_at (λ (v : SectorWrite). v.lba < i.shape.capacity) writes k w filled.lbas here)

  pad_begins : (g a : ℕ) (b : Block) → start_len i.shape + length writes ≤ a → a < width i 0 * i.shape.clba → block_at i 0 a ≡ Some b → BeginsNarrower g b → ⊥
  pad_begins g a b past inside there begins =
      let lba : pad_mark.lba ≡ meta_lba = ap (λ (m : Mark). m.lba) (sym (filled.pads a b past inside there)) ∙ begins.mark in
      omega arith

  line_begins : (k : ℕ) (c : Chunk) (b : Block) → slice_get (line_chunks i 0) k ≡ Some c → slice_get c.blocks 0 ≡ Some b → BeginsNarrower (width i 0) b → ⊥
  line_begins k c b there first begins =
      let at = first_at k c b there first in
      let a : ℕ = first_address i.shape (width i 0) k in
      elim (cases_lt a (start_len i.shape)) [
        | inl low ↦ found_begins_once i 0 a start b accepted fit filled.start_is low at.1 begins
        | inr past ↦ elim (cases_lt a (start_len i.shape + length writes)) [
          | inl inside ↦
              let moved : block_at i 0 (start_len i.shape + (a - start_len i.shape)) ≡ Some b = subst (λ x. block_at i 0 x ≡ Some b) (omega arith) at.1 in
              data_begins (width i 0) (a - start_len i.shape) b (omega arith) moved begins
          | inr after ↦ pad_begins (width i 0) a b after at.0 at.1 begins
        ]
      ]

  filled_ends : (line : ℕ) (s : StartRecord) (e : EndRecord) → line < i.shape.chunks → start_of i line ≡ Some s → end_of i line s ≡ Some e
      → AgreesWithLine i line e
  filled_ends zero s e inside whole ended =
      let same : start ≡ s = same_Some start s (sym filled.start_is ∙ whole) in
      absurd (none-some e (sym filled.not_full ∙ ap (end_of i 0) same ∙ ended))
  filled_ends (suc line) s e inside whole ended = absurd (none-some s (sym (filled.others (suc line) (omega arith) inside) ∙ whole))

  filled_begins : ((line k : ℕ) (c : Chunk) (b : Block) → 0 < line → line < i.shape.chunks → slice_get (line_chunks i line) k ≡ Some c
      → slice_get c.blocks 0 ≡ Some b → BeginsNarrower (width i line) b → ⊥)
      → (line k : ℕ) (c : Chunk) (b : Block) → line < i.shape.chunks → slice_get (line_chunks i line) k ≡ Some c → slice_get c.blocks 0 ≡ Some b
      → BeginsNarrower (width i line) b → ⊥
  filled_begins others zero k c b inside there first begins = line_begins k c b there first begins
  filled_begins others (suc line) k c b inside there first begins = others (suc line) k c b (omega arith) inside there first begins

  pub filled_sealed : ((line k : ℕ) (c : Chunk) (b : Block) → 0 < line → line < i.shape.chunks → slice_get (line_chunks i line) k ≡ Some c
      → slice_get c.blocks 0 ≡ Some b → BeginsNarrower (width i line) b → ⊥) → IsSealed i
  filled_sealed others = record { ends = filled_ends; begins = filled_begins others }

-- The example is sealed.

others_begin : (line k : ℕ) (c : Chunk) (b : Block) → 0 < line → line < image.shape.chunks → slice_get (line_chunks image line) k ≡ Some c
    → slice_get c.blocks 0 ≡ Some b → BeginsNarrower (width image line) b → ⊥
others_begin zero k c b some inside there first begins = absurd (omega arith)
others_begin (suc line) k c b some inside there first begins =
    empty_begins (width image (suc line)) k (line_chunks image (suc line)) c b (others_empty line) there first begins

pub sealed_there : (i : Image) × (start : StartRecord) × (w : SectorWrite) × IsAccepted i.shape × IsFit i × IsFilledLine i start (w ∷ []) × IsSealed i
sealed_there = (
  image,
  first,
  write,
  small_accepted,
  image_fit,
  is_filled,
  filled_sealed image first (write ∷ []) small_accepted image_fit is_filled others_begin,
)
