-- Bytes are an image of one drive.
use Rattle.std.proofs.Common.{◌≡◌, ℕ, ◌+◌, ◌*◌, ◌^◌, ◌<◌, Some, Result, Ok, List, [], ◌++◌, length, refl, sym, ap, ◌∙◌, append_assoc}
use Rattle.std.specs.Int.{w64}
use Rattle.std.specs.List.{slice_get, slice_range, flat_map}
use Rattle.std.proofs.lemmas.Nat.{from_le_bytes-to_le_bytes_8}
use Rattle.pblk_model.specs.declared.shape.Shape.{Shape}
use Rattle.pblk_model.specs.declared.chunk.ChunkState.{ChunkState}
use Rattle.pblk_model.specs.Image.{IsFit}
use Rattle.pblk_model.specs.Bytes.{le64, number_at}
use Rattle.pblk_model.specs.Chunk.{Block, IsBlock, IsChunk, pointer}
use Rattle.pblk_model.specs.Descriptor.{Descriptor, read_descriptor}
use Rattle.pblk_model.specs.Geometry.{Geometry}
use Rattle.pblk_model.specs.ImageFile.{StoredChunk, Drive, IsImage, image_of, shape_of, descriptor_of, block_bytes, blocks_bytes}
use Rattle.pblk_laws.proofs.ImageBytesPieces.{cut, Paired, paired_from, cut_flat}
use Rattle.pblk_laws.proofs.ImageBytesRead.{HasUnits, units_of, chunk_is}
use Rattle.pblk_model.proofs.Parts.{all_get}

pub le64_same : (m n : ℕ) → m < 2 ^ 64 → n < 2 ^ 64 → le64 m ≡ le64 n → m ≡ n
le64_same m n h k e = sym (from_le_bytes-to_le_bytes_8 m h) ∙ (ap (number_at w64 0) e ∙ from_le_bytes-to_le_bytes_8 n k)

-- Blocks.

pub regroup : (s l p r : List ℕ) → s ++ l ++ p ++ r ≡ s ++ (l ++ (p ++ r))
regroup s l p r = simp append_assoc

three_cut : (s l p r s2 l2 p2 r2 : List ℕ) → length s ≡ length s2 → length l ≡ length l2 → length p ≡ length p2 → s ++ l ++ p ++ r ≡ s2 ++ l2 ++ p2 ++ r2
    → (s ≡ s2) × (l ≡ l2) × (p ≡ p2) × (r ≡ r2)
three_cut s l p r s2 l2 p2 r2 i j k e =
    let first = cut s s2 (l ++ (p ++ r)) (l2 ++ (p2 ++ r2)) i (sym (regroup s l p r) ∙ (e ∙ regroup s2 l2 p2 r2)) in
    let second = cut l l2 (p ++ r) (p2 ++ r2) j first.1 in
    let third = cut p p2 r r2 k second.1 in
    (first.0, second.0, third.0, third.1)

-- two blocks of one size, whose marks fit their places
record AreBlocks (n : ℕ) (a b : Block) : Type 0 where
  left : length a.sector ≡ n
  right : length b.sector ≡ n
  left_lba : a.mark.lba < 2 ^ 64
  right_lba : b.mark.lba < 2 ^ 64
  left_position : a.mark.position < 2 ^ 64
  right_position : b.mark.position < 2 ^ 64

pub same_block : (a b : Block) → a.sector ≡ b.sector → a.mark.lba ≡ b.mark.lba → a.mark.position ≡ b.mark.position → a ≡ b
same_block a b p q r =
    let made : List ℕ → ℕ → ℕ → Block = λ s l n. record { sector = s; mark = record { lba = l; position = n } } in
    ap (λ s. made s a.mark.lba a.mark.position) p ∙ (ap (λ l. made b.sector l a.mark.position) q ∙ ap (λ n. made b.sector b.mark.lba n) r)

block_cut : (n : ℕ) (a b : Block) (r t : List ℕ) → AreBlocks n a b → block_bytes a ++ r ≡ block_bytes b ++ t → (a ≡ b) × (r ≡ t)
block_cut n a b r t h e =
    let c = three_cut a.sector (le64 a.mark.lba) (le64 a.mark.position) r b.sector (le64 b.mark.lba) (le64 b.mark.position) t
    (h.left ∙ sym h.right) refl refl e in (
      same_block a b c.0 (le64_same a.mark.lba b.mark.lba h.left_lba h.right_lba c.1)
          (le64_same a.mark.position b.mark.position h.left_position h.right_position c.2),
      c.3,
    )

-- Chunks.

-- two chunks that are alike but for their blocks' bytes
record AreAlike (n : ℕ) (a b : StoredChunk) : Type 0 where
  state : a.chunk.state ≡ b.chunk.state
  wear : a.wear ≡ b.wear
  blocks : Paired (AreBlocks n) a.chunk.blocks b.chunk.blocks

same_chunk : (a b : StoredChunk) → a.chunk.state ≡ b.chunk.state → a.chunk.blocks ≡ b.chunk.blocks → a.wear ≡ b.wear → a ≡ b
same_chunk a b p q r =
    let made : ChunkState → List Block → ℕ → StoredChunk = λ s bs w. record { chunk = record { state = s; blocks = bs }; wear = w } in
    ap (λ s. made s a.chunk.blocks a.wear) p ∙ (ap (λ bs. made b.chunk.state bs a.wear) q ∙ ap (λ w. made b.chunk.state b.chunk.blocks w) r)

chunk_cut : (n : ℕ) (a b : StoredChunk) (r t : List ℕ) → AreAlike n a b → flat_map block_bytes a.chunk.blocks ++ r ≡ flat_map block_bytes b.chunk.blocks ++ t
    → (a ≡ b) × (r ≡ t)
chunk_cut n a b r t h e =
    let c = cut_flat (AreBlocks n) block_bytes (block_cut n) a.chunk.blocks b.chunk.blocks r t h.blocks e in
    (same_chunk a b h.state c.0 h.wear, c.1)

unit_cut : (n : ℕ) (a b : List StoredChunk) (r t : List ℕ) → Paired (AreAlike n) a b
    → flat_map (λ (k : StoredChunk). flat_map block_bytes k.chunk.blocks) a ++ r ≡ flat_map (λ (k : StoredChunk). flat_map block_bytes k.chunk.blocks) b ++ t
    → (a ≡ b) × (r ≡ t)
unit_cut n a b r t h e = cut_flat (AreAlike n) (λ (k : StoredChunk). flat_map block_bytes k.chunk.blocks) (chunk_cut n) a b r t h e

units_same : (n : ℕ) (d e : Drive) → Paired (Paired (AreAlike n)) d.units e.units → blocks_bytes d ≡ blocks_bytes e → d.units ≡ e.units
units_same n d e h same =
    (cut_flat (Paired (AreAlike n)) (flat_map (λ (k : StoredChunk). flat_map block_bytes k.chunk.blocks)) (unit_cut n) d.units e.units [] [] h
    (ap (λ (w : List ℕ). w ++ []) same)).0

-- Two drives that bytes are images of.

-- the numbers that a header and a geometry hold
record AreLike (d e : Drive) : Type 0 where
  geometry : d.geometry ≡ e.geometry
  sector : d.sector ≡ e.sector
  capacity : d.capacity ≡ e.capacity
  ring : d.ring ≡ e.ring

same_ok : {A E : Type 0} (x y : A) → ◌≡◌ {A = Result A E} (Ok x) (Ok y) → x ≡ y
same_ok x y e = cc

alike_drives : (bytes : List ℕ) (d e : Drive) → IsImage bytes d → IsImage bytes e → AreLike d e
alike_drives bytes d e p q =
    let shape : shape_of d ≡ shape_of e = p.of.settings ∙ sym q.of.settings in
    record {
      geometry = p.of.geometry ∙ sym q.of.geometry;
      sector = ap (λ (s : Shape). s.sector) shape;
      capacity = ap (λ (s : Shape). s.capacity) shape;
      ring = ap (λ (s : Shape). s.ring) shape;
    }

blocks_paired : (d e : Drive) (a b : StoredChunk) → d.sector ≡ e.sector → IsChunk (shape_of d) a.chunk → IsChunk (shape_of e) b.chunk
    → pointer a.chunk ≡ pointer b.chunk
    → Paired (AreBlocks e.sector) a.chunk.blocks b.chunk.blocks
blocks_paired d e a b same p q count = paired_from (AreBlocks e.sector) a.chunk.blocks b.chunk.blocks count (λ k x y i j.
    let left : IsBlock (shape_of d) x = all_get (IsBlock (shape_of d)) a.chunk.blocks k x p.blocks i in
    let right : IsBlock (shape_of e) y = all_get (IsBlock (shape_of e)) b.chunk.blocks k y q.blocks j in
    record {
      left = left.size ∙ same;
      right = right.size;
      left_lba = left.lba;
      right_lba = right.lba;
      left_position = left.position;
      right_position = right.position;
    })

descriptors_same : (bytes : List ℕ) (d e : Drive) (unit chunk : ℕ) (us vs : List StoredChunk) (a b : StoredChunk) → IsImage bytes d → IsImage bytes e
    → d.geometry ≡ e.geometry
    → slice_get d.units unit ≡ Some us → slice_get us chunk ≡ Some a → slice_get e.units unit ≡ Some vs → slice_get vs chunk ≡ Some b
    → descriptor_of d.geometry unit chunk a ≡ descriptor_of e.geometry unit chunk b
descriptors_same bytes d e unit chunk us vs a b p q same i j k l =
    same_ok (descriptor_of d.geometry unit chunk a) (descriptor_of e.geometry unit chunk b)
    (sym (p.of.descriptors unit chunk us a i j)
    ∙ (ap (λ (g : Geometry). read_descriptor (slice_range bytes (4128 + 32 * (unit * g.chunks + chunk)) (4128 + 32 * (unit * g.chunks + chunk) + 32))) same
    ∙ q.of.descriptors unit chunk vs b k l))

units_paired : (bytes : List ℕ) (d e : Drive) → IsImage bytes d → IsImage bytes e → IsFit (image_of d) → IsFit (image_of e) → AreLike d e
    → Paired (Paired (AreAlike e.sector)) d.units e.units
units_paired bytes d e p q here there like =
    let left : HasUnits d = units_of d here in
    let right : HasUnits e = units_of e there in
    paired_from (Paired (AreAlike e.sector)) d.units e.units (left.count ∙ (ap (λ (g : Geometry). g.groups * g.pus) like.geometry ∙ sym right.count))
    (λ unit us vs i k.
    let count : length us ≡ d.geometry.chunks = all_get (λ (us : List StoredChunk). length us ≡ d.geometry.chunks) d.units unit us left.chunks i in
    let other : length vs ≡ e.geometry.chunks = all_get (λ (vs : List StoredChunk). length vs ≡ e.geometry.chunks) e.units unit vs right.chunks k in
    paired_from (AreAlike e.sector) us vs (count ∙ (ap (λ (g : Geometry). g.chunks) like.geometry ∙ sym other)) (λ chunk a b j l.
    let same : descriptor_of d.geometry unit chunk a ≡ descriptor_of e.geometry unit chunk b =
    descriptors_same bytes d e unit chunk us vs a b p q like.geometry i j k l in
    record {
      state = ap (λ (x : Descriptor). x.state) same;
      wear = ap (λ (x : Descriptor). x.wear) same;
      blocks = blocks_paired d e a b like.sector (chunk_is d unit chunk us a left i j) (chunk_is e unit chunk vs b right k l)
          (ap (λ (x : Descriptor). x.wp) same);
    }))

same_drive : (d e : Drive) → AreLike d e → d.units ≡ e.units → d ≡ e
same_drive d e like units =
    let made : Geometry → ℕ → ℕ → ℕ → List (List StoredChunk) → Drive = λ g s c r us. record { geometry = g; sector = s; capacity = c; ring = r; units = us } in
    ap (λ g. made g d.sector d.capacity d.ring d.units) like.geometry
    ∙ (ap (λ s. made e.geometry s d.capacity d.ring d.units) like.sector
    ∙ (ap (λ c. made e.geometry e.sector c d.ring d.units) like.capacity
    ∙ (ap (λ r. made e.geometry e.sector e.capacity r d.units) like.ring
    ∙ ap (λ us. made e.geometry e.sector e.capacity e.ring us) units)))

pub one_drive : (bytes : List ℕ) (d e : Drive) → IsImage bytes d → IsImage bytes e → IsFit (image_of d) → IsFit (image_of e) → d ≡ e
one_drive bytes d e p q here there =
    let like : AreLike d e = alike_drives bytes d e p q in
    same_drive d e like (units_same e.sector d e (units_paired bytes d e p q here there like) (sym p.of.blocks ∙ q.of.blocks))
