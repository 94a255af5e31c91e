-- The drive that bytes are an image of, made chunk by chunk.
use Rattle.std.proofs.Common.{◌≡◌, ℕ, zero, suc, ◌+◌, ◌-◌, ◌*◌, ◌/◌, ◌%◌, ◌<◌, ◌≤◌, Some, None, Ok, List, map, length, length-drop, take, drop, refl, sym, ap, ◌∙◌, subst, arith}
use Rattle.std.specs.Int.{w8}
use Rattle.std.specs.List.{AllByRecursion, flat_map, range_with_len, slice_get, slice_range, sum_by}
use Rattle.std.proofs.lemmas.List.{length-map}
use Rattle.std.proofs.lemmas.List.FromFn.{length-range_with_len}
use Rattle.std.proofs.lemmas.Nat.{div-mul-add, mod-mul-add}
use Rattle.std.proofs.lemmas.Option.{slice_get_within}
use Rattle.std.proofs.Math.Nat.{mul-add, mul-le-mul_right}
use Rattle.pblk_model.specs.Accepted.{IsAccepted}
use Rattle.pblk_model.specs.Blocks.{blocks_in}
use Rattle.pblk_model.specs.Bytes.{number_at}
use Rattle.pblk_model.specs.Chunk.{Block, Chunk, IsBlock, IsChunk, PointerFits}
use Rattle.pblk_model.specs.Descriptor.{Descriptor, read_descriptor}
use Rattle.pblk_model.specs.Geometry.{packed}
use Rattle.pblk_model.specs.Image.{IsFit}
use Rattle.pblk_model.specs.ImageFile.{StoredChunk, Drive, IsImage, IsImageOf, block_bytes, blocks_bytes, blocks_end, chunks_at, descriptor_at, descriptor_of, descriptors_end, first_address, geometry_at, image_of, image_refusal, pointer_at, shape_at, shape_of}
use Rattle.pblk_model.specs.Shape.{units}
use Rattle.pblk_laws.proofs.ImageBytesRanges.{Spans, all_of_range, get_of_range, spans_range}
use Rattle.pblk_laws.proofs.ImageBytesHeld.{IsTaken, row_is, state_of, taken_of}
use Rattle.pblk_model.proofs.Lists.{all_weaker}
use Rattle.pblk_model.proofs.Maps.{all_mapped, sum_more}
use Rattle.pblk_model.proofs.Parts.{all_dropped}
use Rattle.pblk_model.proofs.SpelledBlocks.{AreBytes, blocks_are, blocks_back, blocks_count}

-- The drive.

-- the byte at which the blocks of the n-th chunk begin
abbrev pub blocks_at : List ℕ → ℕ → ℕ
blocks_at b n = descriptors_end b + ((shape_at b).sector + 16) * sum_by (pointer_at b) (range_with_len 0 n)

-- the n-th chunk, by unit, then by chunk
abbrev pub chunk_in : List ℕ → ℕ → StoredChunk
chunk_in b n = record {
  chunk = record { state = state_of (descriptor_at b n); blocks = blocks_in (shape_at b).sector (pointer_at b n) (drop (blocks_at b n) b) };
  wear = number_at w8 2 (descriptor_at b n);
}

abbrev pub unit_in : List ℕ → ℕ → List StoredChunk
unit_in b unit = map (chunk_in b) (range_with_len (unit * (geometry_at b).chunks) (geometry_at b).chunks)

abbrev pub drive_in : List ℕ → Drive
drive_in b = record {
  geometry = geometry_at b;
  sector = (shape_at b).sector;
  capacity = (shape_at b).capacity;
  ring = (shape_at b).ring;
  units = map (unit_in b) (range_with_len 0 (units (shape_at b)));
}

-- Where its blocks stand.

blocks_next : (b : List ℕ) (n : ℕ) → blocks_at b (n + 1) ≡ blocks_at b n + ((shape_at b).sector + 16) * pointer_at b n
blocks_next b n =
    let size : ℕ = (shape_at b).sector + 16 in
    let before = sum_by (pointer_at b) (range_with_len 0 n) in
    let same : size * sum_by (pointer_at b) (range_with_len 0 (n + 1)) ≡ size * (before + pointer_at b n) = ap (λ m. size * m) (sum_more (pointer_at b) n) in
    let both : size * (before + pointer_at b n) ≡ size * before + size * pointer_at b n = mul-add size before (pointer_at b n) in
    omega arith

blocks_further : (b : List ℕ) (n k : ℕ) → blocks_at b n ≤ blocks_at b (n + k)
blocks_further b n zero =
    let same : n ≡ n + zero = omega arith in
    subst (λ m. blocks_at b n ≤ blocks_at b m) same (omega arith)
blocks_further b n (suc k) =
    let one : n + k + 1 ≡ n + suc k = omega arith in
    let before : blocks_at b n ≤ blocks_at b (n + k) = blocks_further b n k in
    let next = blocks_next b (n + k) in
    subst (λ m. blocks_at b n ≤ blocks_at b m) one (omega (arith, before, next))

-- the blocks of a chunk stand within the bytes
blocks_within : (b : List ℕ) (n : ℕ) → IsTaken b → n < chunks_at b → blocks_at b n + ((shape_at b).sector + 16) * pointer_at b n ≤ length b
blocks_within b n taken inside =
    let all : n + 1 + (chunks_at b - (n + 1)) ≡ chunks_at b = omega arith in
    let further : blocks_at b (n + 1) ≤ blocks_at b (chunks_at b) =
    subst (λ m. blocks_at b (n + 1) ≤ blocks_at b m) all (blocks_further b (n + 1) (chunks_at b - (n + 1))) in
    omega (arith, further, blocks_next b n, taken.blocks)

blocks_left : (b : List ℕ) (n : ℕ) → IsTaken b → n < chunks_at b → ((shape_at b).sector + 16) * pointer_at b n ≤ length (drop (blocks_at b n) b)
blocks_left b n taken inside = omega (arith, length-drop (blocks_at b n) b, blocks_within b n taken inside)

abbrev chunk_bytes : StoredChunk → List ℕ
chunk_bytes k = flat_map block_bytes k.chunk.blocks

chunk_spans : (b : List ℕ) (n : ℕ) → AreBytes b → IsTaken b → n < chunks_at b → Spans b (chunk_bytes (chunk_in b n)) (blocks_at b n) (blocks_at b (n + 1))
chunk_spans b n bytes taken inside =
    let at : ℕ = blocks_at b n in
    let rows : ℕ = ((shape_at b).sector + 16) * pointer_at b n in
    let end : rows ≡ blocks_at b (n + 1) - at = omega (arith, blocks_next b n) in
    record {
      order = omega (arith, blocks_next b n);
      is = blocks_back (shape_at b).sector (pointer_at b n) (drop at b) (all_dropped (λ x. x < 256) at b bytes) (blocks_left b n taken inside)
          ∙ ap (λ m. take m (drop at b)) end;
    }

-- the chunks of a unit are among all
chunk_inside : (b : List ℕ) (unit n : ℕ) → unit < units (shape_at b) → n < unit * (geometry_at b).chunks + (geometry_at b).chunks → n < chunks_at b
chunk_inside b unit n high low =
    let c : ℕ = (geometry_at b).chunks in
    let rows : (unit + 1) * c ≤ units (shape_at b) * c = mul-le-mul_right c (omega arith) in
    let next : (unit + 1) * c ≡ unit * c + c = grind arith in
    omega arith

unit_spans : (b : List ℕ) (unit : ℕ) → AreBytes b → IsTaken b → unit < units (shape_at b)
    → Spans b (flat_map chunk_bytes (unit_in b unit)) (blocks_at b (unit * (geometry_at b).chunks)) (blocks_at b ((unit + 1) * (geometry_at b).chunks))
unit_spans b unit bytes taken high =
    let c : ℕ = (geometry_at b).chunks in
    let next : unit * c + c ≡ (unit + 1) * c = grind arith in
    subst (λ m. Spans b (flat_map chunk_bytes (unit_in b unit)) (blocks_at b (unit * c)) (blocks_at b m)) next
    (spans_range b (blocks_at b) chunk_bytes (chunk_in b) (unit * c) c (λ n low within. chunk_spans b n bytes taken (chunk_inside b unit n high within)))

drive_spans : (b : List ℕ) → AreBytes b → IsTaken b → slice_range b (descriptors_end b) (blocks_end b) ≡ blocks_bytes (drive_in b)
drive_spans b bytes taken =
    let c : ℕ = (geometry_at b).chunks in
    let u : ℕ = units (shape_at b) in
    let all : Spans b (blocks_bytes (drive_in b)) (blocks_at b (0 * c)) (blocks_at b ((0 + u) * c)) =
    spans_range b (λ unit. blocks_at b (unit * c)) (flat_map chunk_bytes) (unit_in b) 0 u (λ unit low high. unit_spans b unit bytes taken (omega arith)) in
    let none : 0 * c ≡ 0 = omega arith in
    let start : blocks_at b 0 ≡ descriptors_end b = omega arith in
    let count : 0 + u ≡ u = omega arith in
    ap (λ m. slice_range b m (blocks_end b)) (sym (ap (blocks_at b) none ∙ start))
    ∙ (ap (λ m. slice_range b (blocks_at b (0 * c)) (blocks_at b (m * c))) (sym count) ∙ sym all.is)

-- Its chunks.

chunk_fits : (b : List ℕ) (n : ℕ) → AreBytes b → IsTaken b → n < chunks_at b → IsChunk (shape_at b) (chunk_in b n).chunk
chunk_fits b n bytes taken inside =
    let row = row_is b n taken inside in
    let at : ℕ = blocks_at b n in
    let count = blocks_count (shape_at b).sector (pointer_at b n) (drop at b) in
    record {
      place = subst (λ wp. PointerFits (state_of (descriptor_at b n)) (geometry_at b).clba wp) (sym count) row.place;
      multiple = ap (λ wp. wp % (geometry_at b).ws_min) count ∙ row.multiple;
      blocks = blocks_are (shape_at b) (pointer_at b n) (drop at b) (all_dropped (λ x. x < 256) at b bytes) (blocks_left b n taken inside);
    }

unit_fits : (b : List ℕ) (unit : ℕ) → AreBytes b → IsTaken b → unit < units (shape_at b)
    → AllByRecursion (λ (k : StoredChunk). IsChunk (shape_at b) k.chunk) (unit_in b unit)
unit_fits b unit bytes taken high =
    all_of_range (λ (k : StoredChunk). IsChunk (shape_at b) k.chunk) (chunk_in b) (unit * (geometry_at b).chunks) (geometry_at b).chunks
    (λ n low within. chunk_fits b n bytes taken (chunk_inside b unit n high within))

units_fit : (b : List ℕ) → AreBytes b → IsTaken b → AllByRecursion (AllByRecursion (λ (k : StoredChunk). IsChunk (shape_at b) k.chunk)) (drive_in b).units
units_fit b bytes taken =
    all_of_range (AllByRecursion (λ (k : StoredChunk). IsChunk (shape_at b) k.chunk)) (unit_in b) 0 (units (shape_at b))
    (λ unit low high. unit_fits b unit bytes taken (omega arith))

unit_length : (b : List ℕ) (unit : ℕ) → length (unit_in b unit) ≡ (geometry_at b).chunks
unit_length b unit =
    let c : ℕ = (geometry_at b).chunks in
    length-map (range_with_len (unit * c) c) (chunk_in b) ∙ length-range_with_len (unit * c) c

unit_lengths : (b : List ℕ) → AllByRecursion (λ (kept : List StoredChunk). length kept ≡ (geometry_at b).chunks) (drive_in b).units
unit_lengths b = all_of_range (λ (kept : List StoredChunk). length kept ≡ (geometry_at b).chunks) (unit_in b) 0 (units (shape_at b))
    (λ unit low high. unit_length b unit)

units_length : (b : List ℕ) → length (drive_in b).units ≡ units (shape_at b)
units_length b = length-map (range_with_len 0 (units (shape_at b))) (unit_in b) ∙ length-range_with_len 0 (units (shape_at b))

drive_fits : (b : List ℕ) → AreBytes b → IsTaken b → IsFit (image_of (drive_in b))
drive_fits b bytes taken =
    let s = shape_at b in
    let us = (drive_in b).units in
    let chunk : StoredChunk → Chunk = λ k. k.chunk in
    record {
      units = length-map us (map chunk) ∙ units_length b;
      chunks = all_mapped (λ (unit : List Chunk). length unit ≡ s.chunks) (map chunk) us
          (all_weaker (λ (kept : List StoredChunk). length kept ≡ s.chunks) (λ (kept : List StoredChunk). length (map chunk kept) ≡ s.chunks) us
          (λ kept count. length-map kept chunk ∙ count) (unit_lengths b));
      each = all_mapped (AllByRecursion (IsChunk s)) (map chunk) us
          (all_weaker (AllByRecursion (λ (k : StoredChunk). IsChunk s k.chunk)) (λ (kept : List StoredChunk). AllByRecursion (IsChunk s) (map chunk kept)) us
          (λ kept all. all_mapped (IsChunk s) chunk kept all) (units_fit b bytes taken));
    }

-- Its descriptors.

row_back : (b : List ℕ) (n unit chunk : ℕ) → IsTaken b → n < chunks_at b → n / (geometry_at b).chunks ≡ unit → n % (geometry_at b).chunks ≡ chunk
    → read_descriptor (descriptor_at b n) ≡ Ok (descriptor_of (geometry_at b) unit chunk (chunk_in b n))
row_back b n unit chunk taken inside p q =
    let g = geometry_at b in
    let d = descriptor_at b n in
    let made : ℕ → ℕ → ℕ → Descriptor =
    λ u c wp. record { state = state_of d; wear = number_at w8 2 d; slba = packed g (first_address g u c); cnlb = g.clba; wp = wp } in
    let count = blocks_count (shape_at b).sector (pointer_at b n) (drop (blocks_at b n) b) in
    (row_is b n taken inside).read
    ∙ (ap (λ u. Ok (made u (n % g.chunks) (pointer_at b n))) p
    ∙ (ap (λ c. Ok (made unit c (pointer_at b n))) q ∙ ap (λ wp. Ok (made unit chunk wp)) (sym count)))

descriptors_back : (b : List ℕ) (unit chunk : ℕ) (kept : List StoredChunk) (k : StoredChunk) → IsTaken b → slice_get (drive_in b).units unit ≡ Some kept
    → slice_get kept chunk ≡ Some k
    → read_descriptor (descriptor_at b (unit * (geometry_at b).chunks + chunk)) ≡ Ok (descriptor_of (geometry_at b) unit chunk k)
descriptors_back b unit chunk kept k taken p q =
    let g = geometry_at b in
    let c : ℕ = g.chunks in
    let n : ℕ = unit * c + chunk in
    let first : 0 + unit ≡ unit = omega arith in
    let list : unit_in b unit ≡ kept = sym (ap (unit_in b) first) ∙ get_of_range (unit_in b) 0 (units (shape_at b)) unit kept p in
    let there : slice_get (unit_in b unit) chunk ≡ Some k = ap (λ xs. slice_get xs chunk) list ∙ q in
    let same : chunk_in b n ≡ k = get_of_range (chunk_in b) (unit * c) c chunk k there in
    let high : unit < units (shape_at b) = subst (λ m. unit < m) (units_length b) (slice_get_within (drive_in b).units unit kept p) in
    let low : chunk < c = subst (λ m. chunk < m) (unit_length b unit) (slice_get_within (unit_in b unit) chunk k there) in
    subst (λ (k : StoredChunk). read_descriptor (descriptor_at b n) ≡ Ok (descriptor_of g unit chunk k)) same
    (row_back b n unit chunk taken (chunk_inside b unit n high (omega arith)) (div-mul-add unit c chunk low) (mod-mul-add unit c chunk low))

drive_is : (b : List ℕ) → AreBytes b → IsTaken b → IsImageOf b (drive_in b)
drive_is b bytes taken = record {
  settings = refl;
  geometry = refl;
  count = units_length b;
  chunks = unit_lengths b;
  sectors = all_weaker (AllByRecursion (λ (k : StoredChunk). IsChunk (shape_at b) k.chunk))
      (AllByRecursion (λ (k : StoredChunk). AllByRecursion (λ (x : Block). length x.sector ≡ (shape_at b).sector) k.chunk.blocks))
      (drive_in b).units
      (λ kept all. all_weaker (λ (k : StoredChunk). IsChunk (shape_at b) k.chunk)
      (λ (k : StoredChunk). AllByRecursion (λ (x : Block). length x.sector ≡ (shape_at b).sector) k.chunk.blocks) kept
      (λ k is. all_weaker (IsBlock (shape_at b)) (λ (x : Block). length x.sector ≡ (shape_at b).sector) k.chunk.blocks (λ x block. block.size) is.blocks) all)
      (units_fit b bytes taken);
  descriptors = λ unit chunk kept k p q. descriptors_back b unit chunk kept k taken p q;
  blocks = drive_spans b bytes taken;
}

-- bytes that aren't refused are an image of the drive made from them
pub fit_drive : (b : List ℕ) → AreBytes b → image_refusal b ≡ None → IsImage b (drive_in b) × IsAccepted (shape_of (drive_in b)) × IsFit (image_of (drive_in b))
fit_drive b bytes is =
    let taken = taken_of b is in
    (record { accepted = is; of = drive_is b bytes taken }, taken.accepted, drive_fits b bytes taken)
