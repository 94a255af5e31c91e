-- The spelling of a drive is an image of it.
use Rattle.std.proofs.Common.{◌≡◌, ℕ, ◌+◌, ◌*◌, ◌/◌, ◌%◌, ◌^◌, ◌<◌, ◌≤◌, Bool, true, eqb, leb, Option, Some, None, List, [], ◌∷◌, ◌++◌, map, length, length-append, get_or, inl, inr, refl, sym, ap, ◌∙◌, subst, arith, append-nil, zero, suc}
use Rattle.std.specs.Int.{w32, w64}
use Rattle.std.specs.List.{AllByRecursion, flat_map, range_with_len, slice_get, slice_range, sum_by}
use Rattle.std.specs.Option.{is_some, option_map, option_map_or}
use Rattle.std.proofs.lemmas.Bool.{and_from, cond-true, eq-eqb, le-leb}
use Rattle.std.proofs.lemmas.Nat.{div-add-mod', div_below, mod_below, from_le_bytes-to_le_bytes_4, from_le_bytes-to_le_bytes_8}
use Rattle.std.proofs.lemmas.Option.{slice_get-get_or, slice_get_within}
use Rattle.pblk_model.specs.declared.shape.Shape.{Shape}
use Rattle.pblk_model.specs.declared.chunk.ChunkState.{ChunkState}
use Rattle.pblk_model.specs.declared.image.ImageErr.{ImageErr}
use Rattle.pblk_model.specs.declared.image.ImageErr.TheVariants as errors
use Rattle.pblk_model.specs.Accepted.{IsAccepted, settings_checks}
use Rattle.pblk_model.specs.Bytes.{number_at, zeros}
use Rattle.pblk_model.specs.Checks.{first_failing, first_refusal, unless}
use Rattle.pblk_model.specs.Chunk.{Block, IsBlock, IsChunk, free_chunk, pointer}
use Rattle.pblk_model.specs.Descriptor.{Descriptor, pointer_holds, spelled, state_code, state_in}
use Rattle.pblk_model.specs.Geometry.{Geometry, geometry_bytes, geometry_in, geometry_refusal, shape_with}
use Rattle.pblk_model.specs.Image.{IsFit}
use Rattle.pblk_model.specs.ImageFile.{StoredChunk, Drive, IsImage, block_bytes, blocks_bytes, blocks_end, chunk_checks, chunk_refusal, chunks_at, descriptor_at, descriptor_bytes, descriptor_of, descriptors_bytes, descriptors_end, geometry_at, header_bytes, image_bytes, image_of, image_refusal, image_refusals, pointer_at, shape_at, shape_of}
use Rattle.pblk_model.specs.Shape.{units}
use Rattle.pblk_laws.specs.GeometryFields.{FitsFields}
use Rattle.pblk_model.proofs.GeometryBytes.{bytes_back, geometry_length}
use Rattle.pblk_laws.proofs.ImageBytes.{words_fit}
use Rattle.pblk_laws.proofs.ImageBytesFlat.{IsFlatAt, all_flat, flat, flat_at, flat_of_flat, length_of_flat, sum_of_range}
use Rattle.pblk_laws.proofs.ImageBytesPieces.{Piece, piece_in_piece, slice_of, slice_of_piece}
use Rattle.pblk_laws.proofs.ImageBytesRead.{HasUnits, chunk_is, descriptor_read, descriptor_stands, descriptors_length, packs_below, pointer_from, second_part, third_part, units_of}
use Rattle.pblk_model.proofs.Lists.{all_weaker}
use Rattle.pblk_model.proofs.Maps.{flat_length, length_of_sum}
use Rattle.pblk_model.proofs.AcceptedLemmas.{settings_pass}
use Rattle.pblk_model.proofs.ChecksLemmas.{passes}
use Rattle.pblk_model.proofs.ChunkLemmas.{pointer_within}
use Rattle.pblk_model.proofs.DescriptorLemmas.{descriptor_length, state_back}
use Rattle.pblk_model.proofs.ImageFileLemmas.{block_length, header_length}

-- What holds passes.

all_none : {E : Type 0} (rs : List (Option E)) → AllByRecursion (λ r. r ≡ None) rs → first_refusal rs ≡ None
all_none [] h = refl
all_none (r ∷ rs) h = ap (λ r. first_refusal (r ∷ rs)) h.0 ∙ all_none rs h.1

held : {E : Type 0} (t : Bool) (e : E) → t ≡ true → unless t e ≡ None
held t e h = cond-true t None (Some e) h

sector_fits : (s : Shape) → IsAccepted s → s.sector < 2 ^ 32
sector_fits s accepted = elim accepted.target.sector [ inl e ↦ omega arith | inr e ↦ omega arith ]

-- A descriptor.

record FitsRow (d : Descriptor) : Type 0 where
  slba : d.slba < 2 ^ 64
  cnlb : d.cnlb < 2 ^ 64
  wp : d.wp < 2 ^ 64

slba_back : (d : Descriptor) → FitsRow d → number_at w64 8 (spelled d) ≡ d.slba
unfolding zeros
slba_back d fits = from_le_bytes-to_le_bytes_8 d.slba fits.slba

cnlb_back : (d : Descriptor) → FitsRow d → number_at w64 16 (spelled d) ≡ d.cnlb
unfolding zeros
cnlb_back d fits = from_le_bytes-to_le_bytes_8 d.cnlb fits.cnlb

wp_back : (d : Descriptor) → FitsRow d → number_at w64 24 (spelled d) ≡ d.wp
unfolding zeros
wp_back d fits = from_le_bytes-to_le_bytes_8 d.wp fits.wp

row_passes : (g : Geometry) (unit chunk : ℕ) (k : StoredChunk) → FitsRow (descriptor_of g unit chunk k)
    → pointer_holds k.chunk.state g.clba (pointer k.chunk) ≡ true → pointer k.chunk % g.ws_min ≡ 0
    → first_failing (chunk_checks g unit chunk (descriptor_bytes g unit chunk k)) ≡ None
row_passes g unit chunk k fits holds multiple =
    let d = descriptor_of g unit chunk k in
    let wp = wp_back d fits in
    passes (chunk_checks g unit chunk (descriptor_bytes g unit chunk k)) (
      ap is_some (state_back k.chunk.state),
      (
        refl,
        (
          eq-eqb _ _ (slba_back d fits),
          (
            eq-eqb _ _ (cnlb_back d fits),
            (
              and_from (eqb (number_at w64 24 (spelled d) % g.ws_min) 0) _ (eq-eqb _ _ (ap (λ n. n % g.ws_min) wp ∙ multiple))
                  (ap (λ n. option_map_or (λ (s : ChunkState). pointer_holds s g.clba n) (state_in (state_code k.chunk.state)) true) wp
                  ∙ (ap (λ o. option_map_or (λ (s : ChunkState). pointer_holds s g.clba (pointer k.chunk)) o true) (state_back k.chunk.state) ∙ holds)),
              tt,
            ),
          ),
        ),
      ),
    )

-- what a drive must have to be spelled
pub record IsSpellable (d : Drive) : Type 0 where
  pub fields : FitsFields d.geometry
  pub taken : geometry_refusal d.geometry ≡ None
  pub accepted : IsAccepted (shape_of d)
  pub fit : IsFit (image_of d)
  pub wears : AllByRecursion (AllByRecursion (λ (k : StoredChunk). k.wear < 256)) d.units

-- the n-th chunk of a drive
record IsNthOf (d : Drive) (n : ℕ) (k : StoredChunk) : Type 0 where
  at : IsFlatAt d.geometry.chunks d.units n k
  row : descriptor_at (image_bytes d) n ≡ descriptor_bytes d.geometry (n / d.geometry.chunks) (n % d.geometry.chunks) k
  fits : FitsRow (descriptor_of d.geometry (n / d.geometry.chunks) (n % d.geometry.chunks) k)
  holds : pointer_holds k.chunk.state d.geometry.clba (pointer k.chunk) ≡ true
  multiple : pointer k.chunk % d.geometry.ws_min ≡ 0

row_stands : (d : Drive) (unit chunk n : ℕ) (kept : List StoredChunk) (k : StoredChunk) → HasUnits d → slice_get d.units unit ≡ Some kept
    → slice_get kept chunk ≡ Some k → unit * d.geometry.chunks + chunk ≡ n
    → descriptor_at (image_bytes d) n ≡ descriptor_bytes d.geometry unit chunk k
row_stands d unit chunk n kept k h p q is =
    let g = d.geometry in
    let stands : Piece (image_bytes d) (descriptor_bytes g unit chunk k) (4128 + (32 * g.chunks * unit + 32 * chunk)) =
    piece_in_piece (image_bytes d) (descriptors_bytes d) (descriptor_bytes g unit chunk k) 4128 (32 * g.chunks * unit + 32 * chunk)
    (third_part (header_bytes 1 d) (geometry_bytes g) (descriptors_bytes d) (blocks_bytes d) 4128 (omega (arith, header_length d, geometry_length g)))
    (descriptor_stands d unit chunk kept k h p q) in
    let place : 4128 + (32 * g.chunks * unit + 32 * chunk) ≡ 4128 + 32 * n = omega arith in
    slice_of_piece (image_bytes d) (descriptor_bytes g unit chunk k) (4128 + (32 * g.chunks * unit + 32 * chunk)) (4128 + 32 * n)
    (4128 + 32 * n + 32) stands place (ap (λ m. 4128 + 32 * n + m) (descriptor_length (descriptor_of g unit chunk k)))

nth_is : (d : Drive) (n : ℕ) (k : StoredChunk) → IsSpellable d → HasUnits d → slice_get (flat d.units) n ≡ Some k → n < length d.units * d.geometry.chunks
    → IsNthOf d n k
nth_is d n k good h is inside =
    let g = d.geometry in
    let some : 8 ≤ g.chunks = good.accepted.drive.lines_low in
    let at = flat_at g.chunks d.units n k h.chunks (omega arith) inside is in
    let fine : IsChunk (shape_of d) k.chunk = chunk_is d (n / g.chunks) (n % g.chunks) at.list k h at.there at.is in
    let within : pointer k.chunk ≤ g.clba = pointer_within k.chunk.state g.clba (pointer k.chunk) fine.place in
    let blocks : g.clba < 2 ^ 32 = good.fields.clba in
    let low : n % g.chunks < g.chunks = mod_below n g.chunks (omega arith) in
    let high : n / g.chunks < g.groups * g.pus = div_below n g.chunks (g.groups * g.pus) (omega arith) (subst (λ m. n < m * g.chunks) h.count inside) in
    record {
      at = at;
      row = row_stands d (n / g.chunks) (n % g.chunks) n at.list k h at.there at.is (div-add-mod' n g.chunks);
      fits = record { slba = packs_below g (n / g.chunks) (n % g.chunks) good.taken high good.accepted.drive.pus low; cnlb = omega arith; wp = omega arith };
      holds = pointer_from k.chunk.state g.clba (pointer k.chunk) fine.place;
      multiple = fine.multiple;
    }

-- Numbers.

geometry_same : (d : Drive) → IsSpellable d → geometry_at (image_bytes d) ≡ d.geometry
geometry_same d good =
    ap geometry_in (second_part (header_bytes 1 d) (geometry_bytes d.geometry) (descriptors_bytes d) (blocks_bytes d) 32 4128 (header_length d)
    (ap (λ n. 32 + n) (geometry_length d.geometry)))
    ∙ bytes_back d.geometry (words_fit d.geometry good.fields)

shape_same : (d : Drive) → IsSpellable d → shape_at (image_bytes d) ≡ shape_of d
shape_same d good =
    let t = good.accepted.target in
    let b = image_bytes d in
    let sector : number_at w32 12 b ≡ d.sector = from_le_bytes-to_le_bytes_4 d.sector (sector_fits (shape_of d) good.accepted) in
    let capacity : number_at w64 16 b ≡ d.capacity = from_le_bytes-to_le_bytes_8 d.capacity (omega (arith, t.capacity_number)) in
    let ring : number_at w64 24 b ≡ d.ring = from_le_bytes-to_le_bytes_8 d.ring (omega (arith, t.ring_high)) in
    ap (λ g. shape_with g (number_at w32 12 b) (number_at w64 16 b) (number_at w64 24 b)) (geometry_same d good)
    ∙ (ap (λ n. shape_with d.geometry n (number_at w64 16 b) (number_at w64 24 b)) sector
    ∙ (ap (λ n. shape_with d.geometry d.sector n (number_at w64 24 b)) capacity ∙ ap (λ n. shape_with d.geometry d.sector d.capacity n) ring))

count_same : (d : Drive) → IsSpellable d → HasUnits d → chunks_at (image_bytes d) ≡ length d.units * d.geometry.chunks
count_same d good h = ap (λ (s : Shape). units s * s.chunks) (shape_same d good) ∙ ap (λ n. n * d.geometry.chunks) (sym h.count)

refused_as : (b : List ℕ) (g : Geometry) (n : ℕ) (r : List ℕ) → geometry_at b ≡ g → descriptor_at b n ≡ r
    → first_failing (chunk_checks g (n / g.chunks) (n % g.chunks) r) ≡ None → chunk_refusal b n ≡ None
refused_as b g n r is row none =
    let refusal : Geometry → List ℕ → Option ImageErr =
    λ g r. option_map (errors.Chunk (n / g.chunks) (n % g.chunks)) (first_failing (chunk_checks g (n / g.chunks) (n % g.chunks) r)) in
    ap (λ g. refusal g (descriptor_at b n)) is ∙ (ap (refusal g) row ∙ ap (option_map (errors.Chunk (n / g.chunks) (n % g.chunks))) none)

found : (d : Drive) (n : ℕ) → IsSpellable d → HasUnits d → n < length d.units * d.geometry.chunks → (k : StoredChunk) × (slice_get (flat d.units) n ≡ Some k)
found d n good h inside =
    let count = length_of_flat d.geometry.chunks d.units h.chunks in
    let none : StoredChunk = record { chunk = free_chunk; wear = 0 } in
    (get_or (flat d.units) n none, slice_get-get_or (flat d.units) n none (subst (λ m. n < m) (sym count) inside))

chunk_none : (d : Drive) (n : ℕ) → IsSpellable d → HasUnits d → n < length d.units * d.geometry.chunks → chunk_refusal (image_bytes d) n ≡ None
chunk_none d n good h inside =
    let k = found d n good h inside in
    let nth = nth_is d n k.0 good h k.1 inside in
    refused_as (image_bytes d) d.geometry n _ (geometry_same d good) nth.row
    (row_passes d.geometry (n / d.geometry.chunks) (n % d.geometry.chunks) k.0 nth.fits nth.holds nth.multiple)

none_of_range : (f : ℕ → Option ImageErr) (a n : ℕ) → ((m : ℕ) → m < a + n → f m ≡ None) → AllByRecursion (λ r. r ≡ None) (map f (range_with_len a n))
none_of_range f a zero each = tt
none_of_range f a (suc n) each = (each a (omega arith), none_of_range f (a + 1) n (λ m within. each m (omega arith)))

-- Ends.

pointers_sum : (d : Drive) → IsSpellable d → HasUnits d
    → sum_by (pointer_at (image_bytes d)) (range_with_len 0 (length (flat d.units))) ≡ sum_by (λ (k : StoredChunk). pointer k.chunk) (flat d.units)
pointers_sum d good h = sum_of_range (λ (k : StoredChunk). pointer k.chunk) (pointer_at (image_bytes d)) (flat d.units) (λ n k is.
    let inside : n < length d.units * d.geometry.chunks =
    subst (λ m. n < m) (length_of_flat d.geometry.chunks d.units h.chunks) (slice_get_within (flat d.units) n k is) in
    let nth = nth_is d n k good h is inside in
    ap (number_at w64 24) nth.row ∙ wp_back (descriptor_of d.geometry (n / d.geometry.chunks) (n % d.geometry.chunks) k) nth.fits)

chunk_length : (s : Shape) (k : StoredChunk) → IsChunk s k.chunk → length (flat_map block_bytes k.chunk.blocks) ≡ (s.sector + 16) * pointer k.chunk
chunk_length s k is = flat_length block_bytes (s.sector + 16) k.chunk.blocks
    (all_weaker (IsBlock s) (λ (b : Block). length (block_bytes b) ≡ s.sector + 16) k.chunk.blocks (λ b block. block_length s.sector b block.size) is.blocks)

blocks_length : (d : Drive) → HasUnits d → length (blocks_bytes d) ≡ (d.sector + 16) * sum_by (λ (k : StoredChunk). pointer k.chunk) (flat d.units)
blocks_length d h =
    let bytes : StoredChunk → List ℕ = λ k. flat_map block_bytes k.chunk.blocks in
    ap length (flat_of_flat bytes d.units)
    ∙ length_of_sum bytes (d.sector + 16) (λ (k : StoredChunk). pointer k.chunk) (flat d.units)
    (all_weaker (λ (k : StoredChunk). IsChunk (shape_of d) k.chunk) (λ k. length (bytes k) ≡ (d.sector + 16) * pointer k.chunk) (flat d.units)
    (λ k is. chunk_length (shape_of d) k is)
    (all_flat (λ (k : StoredChunk). IsChunk (shape_of d) k.chunk) d.units h.each))

descriptors_end_is : (d : Drive) → IsSpellable d → HasUnits d → descriptors_end (image_bytes d) ≡ 4128 + length (descriptors_bytes d)
descriptors_end_is d good h = ap (λ n. 4128 + 32 * n) (count_same d good h) ∙ ap (λ n. 4128 + n) (sym (descriptors_length d h))

blocks_end_is : (d : Drive) → IsSpellable d → HasUnits d → blocks_end (image_bytes d) ≡ 4128 + length (descriptors_bytes d) + length (blocks_bytes d)
blocks_end_is d good h =
    let b = image_bytes d in
    let count : chunks_at b ≡ length (flat d.units) = count_same d good h ∙ sym (length_of_flat d.geometry.chunks d.units h.chunks) in
    let sum : sum_by (pointer_at b) (range_with_len 0 (chunks_at b)) ≡ sum_by (λ (k : StoredChunk). pointer k.chunk) (flat d.units) =
    ap (λ n. sum_by (pointer_at b) (range_with_len 0 n)) count ∙ pointers_sum d good h in
    ap (λ n. n + ((shape_at b).sector + 16) * sum_by (pointer_at b) (range_with_len 0 (chunks_at b))) (descriptors_end_is d good h)
    ∙ (ap (λ (s : Shape). 4128 + length (descriptors_bytes d) + (s.sector + 16) * sum_by (pointer_at b) (range_with_len 0 (chunks_at b))) (shape_same d good)
    ∙ (ap (λ n. 4128 + length (descriptors_bytes d) + (d.sector + 16) * n) sum ∙ ap (λ n. 4128 + length (descriptors_bytes d) + n) (sym (blocks_length d h))))

long : (d : Drive) → length (image_bytes d) ≡ 4128 + length (descriptors_bytes d) + length (blocks_bytes d)
long d =
    let h = header_bytes 1 d in
    let g = geometry_bytes d.geometry in
    omega (
      arith,
      length-append (h ++ g ++ descriptors_bytes d) (blocks_bytes d),
      length-append (h ++ g) (descriptors_bytes d),
      length-append h g,
      header_length d,
      geometry_length d.geometry,
    )

taken : (d : Drive) → IsSpellable d → HasUnits d → image_refusal (image_bytes d) ≡ None
taken d good h =
    let b = image_bytes d in
    let size = long d in
    let rows : descriptors_end b ≤ length b = omega (arith, descriptors_end_is d good h) in
    let whole : blocks_end b ≤ length b = omega (arith, blocks_end_is d good h) in
    let no_more : length b ≤ blocks_end b = omega (arith, blocks_end_is d good h) in
    all_none (image_refusals b) (
      held (leb 32 (length b)) (errors.Short (length b)) (le-leb 32 (length b) (omega arith)),
      (
        refl,
        (
          refl,
          (
            held (leb 4128 (length b)) (errors.Short (length b)) (le-leb 4128 (length b) (omega arith)),
            (
              ap (option_map errors.Geometry) (ap geometry_refusal (geometry_same d good) ∙ good.taken),
              (
                ap (option_map errors.Settings) (ap (λ s. first_failing (settings_checks s)) (shape_same d good) ∙ settings_pass (shape_of d) good.accepted),
                (
                  held (leb (descriptors_end b) (length b)) (errors.Short (length b)) (le-leb (descriptors_end b) (length b) rows),
                  (
                    all_none (map (chunk_refusal b) (range_with_len 0 (chunks_at b))) (none_of_range (chunk_refusal b) 0 (chunks_at b)
                        (λ n within. chunk_none d n good h (subst (λ m. n < m) (count_same d good h) (omega arith)))),
                    (
                      held (leb (blocks_end b) (length b)) (errors.Short (length b)) (le-leb (blocks_end b) (length b) whole),
                      (held (leb (length b) (blocks_end b)) errors.Long (le-leb (length b) (blocks_end b) no_more), tt),
                    ),
                  ),
                ),
              ),
            ),
          ),
        ),
      ),
    )

blocks_stand : (d : Drive) → IsSpellable d → HasUnits d
    → slice_range (image_bytes d) (descriptors_end (image_bytes d)) (blocks_end (image_bytes d)) ≡ blocks_bytes d
blocks_stand d good h =
    let b = image_bytes d in
    let front = header_bytes 1 d ++ geometry_bytes d.geometry ++ descriptors_bytes d in
    let size : length front ≡ 4128 + length (descriptors_bytes d) =
    omega (
      arith,
      length-append (header_bytes 1 d ++ geometry_bytes d.geometry) (descriptors_bytes d),
      length-append (header_bytes 1 d) (geometry_bytes d.geometry),
      header_length d,
      geometry_length d.geometry,
    ) in
    let ends : descriptors_end b + length (blocks_bytes d) ≡ blocks_end b = omega (arith, descriptors_end_is d good h, blocks_end_is d good h) in
    ap (λ w. slice_range w (descriptors_end b) (blocks_end b)) (sym (append-nil b))
    ∙ slice_of front (blocks_bytes d) [] (descriptors_end b) (blocks_end b) (size ∙ sym (descriptors_end_is d good h)) ends

pub spelled_is_image : (d : Drive) → IsSpellable d → IsImage (image_bytes d) d
spelled_is_image d good =
    let h = units_of d good.fit in
    record {
      accepted = taken d good h;
      of = record {
        settings = sym (shape_same d good);
        geometry = sym (geometry_same d good);
        count = h.count;
        chunks = h.chunks;
        sectors = all_weaker (AllByRecursion (λ (k : StoredChunk). IsChunk (shape_of d) k.chunk))
            (AllByRecursion (λ (k : StoredChunk). AllByRecursion (λ (b : Block). length b.sector ≡ d.sector) k.chunk.blocks)) d.units
            (λ ks all. all_weaker (λ (k : StoredChunk). IsChunk (shape_of d) k.chunk)
            (λ (k : StoredChunk). AllByRecursion (λ (b : Block). length b.sector ≡ d.sector) k.chunk.blocks) ks
            (λ k is. all_weaker (IsBlock (shape_of d)) (λ (b : Block). length b.sector ≡ d.sector) k.chunk.blocks (λ b block. block.size) is.blocks) all)
            h.each;
        descriptors = λ unit chunk kept k p q. descriptor_read d unit chunk kept k good.fields good.taken good.accepted h good.wears p q;
        blocks = blocks_stand d good h;
      };
    }
