-- The spelling of a drive is an image of it.
use Rattle.std.proofs.Common.{◌≡◌, ℕ, ◌+◌, ◌*◌, ◌/◌, ◌%◌, ◌^◌, ◌<◌, ◌≤◌, true, not, eqb, ltb, Some, None, Ok, List, ◌++◌, map, length, refl, sym, ap, ◌∙◌, subst, arith, lit<, append_assoc, length-append}
use Rattle.std.proofs.lemmas.List.{length-map}
use Rattle.std.proofs.lemmas.Bool.{and_from, leb-true, eq-eqb, ne_eqb, not_from_false, lt-ltb, le-leb}
use Rattle.std.proofs.lemmas.Option.{slice_get_within}
use Rattle.std.proofs.lemmas.List.FromFn.{length-enumerate_from}
use Rattle.std.proofs.lemmas.Nat.{pow_pos, div_below, mod_below}
use Rattle.std.proofs.Math.Nat.{pow-le-pow_right}
use Rattle.std.specs.List.{AllByRecursion, slice_get, slice_range, flat_map, enumerate_from}
use Rattle.pblk_model.specs.declared.chunk.ChunkState.{ChunkState}
use Rattle.pblk_model.specs.declared.chunk.ChunkState.TheVariants.{Free, Open, Closed, Offline}
use Rattle.pblk_model.specs.Accepted.{IsAccepted}
use Rattle.pblk_model.specs.Chunk.{PointerFits, IsChunk, pointer}
use Rattle.pblk_model.specs.Descriptor.{pointer_holds, read_descriptor}
use Rattle.pblk_model.specs.Checks.{first_failing}
use Rattle.pblk_model.specs.Geometry.{Geometry, geometry_bytes, geometry_refusal, field_checks, profile_checks, packed}
use Rattle.pblk_model.specs.Image.{IsFit}
use Rattle.pblk_model.specs.ImageFile.{StoredChunk, Drive, shape_of, image_of, image_bytes, header_bytes, first_address, descriptor_of, descriptor_bytes, unit_descriptors, descriptors_bytes, blocks_bytes}
use Rattle.pblk_laws.specs.GeometryFields.{FitsFields}
use Rattle.pblk_model.proofs.GeometryBytes.{geometry_length}
use Rattle.pblk_laws.proofs.ImageBytes.{descriptor_back}
use Rattle.pblk_laws.proofs.ImageBytesPieces.{Piece, piece_in_piece, slice_of, slice_of_piece, piece_of_flat}
use Rattle.pblk_model.proofs.Lists.{all_everywhere, all_weaker}
use Rattle.pblk_model.proofs.Maps.{all_enumerate, enumerate_get, flat_length, all_unmap}
use Rattle.pblk_model.proofs.Numbers.{joined_below}
use Rattle.pblk_model.proofs.Parts.{all_get}
use Rattle.pblk_model.proofs.ChecksLemmas.{none_fails}
use Rattle.pblk_model.proofs.ChunkLemmas.{pointer_within}
use Rattle.pblk_model.proofs.DescriptorLemmas.{descriptor_length}
use Rattle.pblk_model.proofs.GeometryLemmas.{holds, none_refused}
use Rattle.pblk_model.proofs.ImageFileLemmas.{header_length}

-- Addresses.

pub packs_below : (g : Geometry) (unit chunk : ℕ) → geometry_refusal g ≡ None → unit < g.groups * g.pus → 0 < g.pus → chunk < g.chunks
    → packed g (first_address g unit chunk) < 2 ^ 64
packs_below g unit chunk taken inside some low =
    let both = none_refused (first_failing (field_checks g)) (first_failing (profile_checks g)) taken in
    let fields = none_fails (field_checks g) both.0 in
    let rules = none_fails (profile_checks g) both.1 in
    let groups : g.groups ≤ 2 ^ g.group_bits = holds g.group_bits g.groups fields.1.0 in
    let pus : g.pus ≤ 2 ^ g.pu_bits = holds g.pu_bits g.pus fields.1.1.0 in
    let chunks : g.chunks ≤ 2 ^ g.chunk_bits = holds g.chunk_bits g.chunks fields.1.1.1.0 in
    let sum : g.group_bits + g.pu_bits + g.chunk_bits + g.block_bits ≤ 64 =
    leb-true (g.group_bits + g.pu_bits + g.chunk_bits + g.block_bits) 64 rules.1.1.1.1.1.1.1.0 in
    let group : unit / g.pus < g.groups = div_below unit g.pus g.groups some inside in
    let pu : unit % g.pus < g.pus = mod_below unit g.pus some in
    let first : unit / g.pus * 2 ^ g.pu_bits + unit % g.pus < 2 ^ (g.group_bits + g.pu_bits) =
    joined_below (unit / g.pus) (unit % g.pus) g.group_bits g.pu_bits (omega arith) (omega arith) in
    let second : (unit / g.pus * 2 ^ g.pu_bits + unit % g.pus) * 2 ^ g.chunk_bits + chunk < 2 ^ (g.group_bits + g.pu_bits + g.chunk_bits) =
    joined_below (unit / g.pus * 2 ^ g.pu_bits + unit % g.pus) chunk (g.group_bits + g.pu_bits) g.chunk_bits first (omega arith) in
    let third : packed g (first_address g unit chunk) < 2 ^ (g.group_bits + g.pu_bits + g.chunk_bits + g.block_bits) =
    joined_below ((unit / g.pus * 2 ^ g.pu_bits + unit % g.pus) * 2 ^ g.chunk_bits + chunk) 0 (g.group_bits + g.pu_bits + g.chunk_bits) g.block_bits second
    (pow_pos g.block_bits) in
    let whole : 2 ^ (g.group_bits + g.pu_bits + g.chunk_bits + g.block_bits) ≤ 2 ^ 64 = pow-le-pow_right (lit< tt) sum in
    omega (arith, third, whole)

-- Write pointers.

pub pointer_from : (s : ChunkState) (cnlb wp : ℕ) → PointerFits s cnlb wp → pointer_holds s cnlb wp ≡ true
pointer_from Free cnlb wp h = eq-eqb wp 0 h
pointer_from Open cnlb wp h = and_from (not (eqb wp 0)) (ltb wp cnlb) (not_from_false (eqb wp 0) (ne_eqb wp 0 (λ e. omega (arith, h.0)))) (lt-ltb wp cnlb h.1)
pointer_from Closed cnlb wp h = le-leb wp cnlb h
pointer_from Offline cnlb wp h = eq-eqb wp 0 h

-- What a drive's units have.

pub record HasUnits (d : Drive) : Type 0 where
  pub count : length d.units ≡ d.geometry.groups * d.geometry.pus
  pub chunks : AllByRecursion (λ kept. length kept ≡ d.geometry.chunks) d.units
  pub each : AllByRecursion (AllByRecursion (λ k. IsChunk (shape_of d) k.chunk)) d.units

pub units_of : (d : Drive) → IsFit (image_of d) → HasUnits d
units_of d fit = record {
  count = sym (length-map d.units (map (λ (k : StoredChunk). k.chunk))) ∙ fit.units;
  chunks = all_weaker (λ (kept : List StoredChunk). length (map (λ (k : StoredChunk). k.chunk) kept) ≡ d.geometry.chunks)
      (λ kept. length kept ≡ d.geometry.chunks) d.units
      (λ kept h. sym (length-map kept (λ (k : StoredChunk). k.chunk)) ∙ h)
      (all_unmap (λ unit. length unit ≡ d.geometry.chunks) (map (λ (k : StoredChunk). k.chunk)) d.units fit.chunks);
  each = all_weaker (λ (kept : List StoredChunk). AllByRecursion (IsChunk (shape_of d)) (map (λ (k : StoredChunk). k.chunk) kept))
      (AllByRecursion (λ k. IsChunk (shape_of d) k.chunk)) d.units
      (λ kept h. all_unmap (IsChunk (shape_of d)) (λ (k : StoredChunk). k.chunk) kept h)
      (all_unmap (AllByRecursion (IsChunk (shape_of d))) (map (λ (k : StoredChunk). k.chunk)) d.units fit.each);
}

pub chunk_is : (d : Drive) (unit chunk : ℕ) (kept : List StoredChunk) (k : StoredChunk) → HasUnits d → slice_get d.units unit ≡ Some kept
    → slice_get kept chunk ≡ Some k
    → IsChunk (shape_of d) k.chunk
chunk_is d unit chunk kept k h p q =
    all_get (λ (k : StoredChunk). IsChunk (shape_of d) k.chunk) kept chunk k
    (all_get (AllByRecursion (λ (k : StoredChunk). IsChunk (shape_of d) k.chunk)) d.units unit kept h.each p) q

-- Where the descriptors stand.

unit_length : (g : Geometry) (unit : ℕ × List StoredChunk) → length unit.1 ≡ g.chunks → length (unit_descriptors g unit) ≡ 32 * g.chunks
unit_length g unit h =
    let f : ℕ × StoredChunk → List ℕ = λ chunk. descriptor_bytes g unit.0 chunk.0 chunk.1 in
    let all = all_everywhere (λ chunk. length (f chunk) ≡ 32) (enumerate_from 0 unit.1) (λ chunk. descriptor_length (descriptor_of g unit.0 chunk.0 chunk.1)) in
    flat_length f 32 (enumerate_from 0 unit.1) all ∙ ap (λ n. 32 * n) (length-enumerate_from 0 unit.1 ∙ h)

unit_lengths : (d : Drive) → HasUnits d → AllByRecursion (λ unit. length (unit_descriptors d.geometry unit) ≡ 32 * d.geometry.chunks) (enumerate_from 0 d.units)
unit_lengths d h =
    all_enumerate (λ unit. length (unit_descriptors d.geometry unit) ≡ 32 * d.geometry.chunks) (λ kept. length kept ≡ d.geometry.chunks) 0 d.units
    (λ i kept e. unit_length d.geometry (i, kept) e) h.chunks

pub descriptors_length : (d : Drive) → HasUnits d → length (descriptors_bytes d) ≡ 32 * (length d.units * d.geometry.chunks)
descriptors_length d h =
    let all : length (descriptors_bytes d) ≡ 32 * d.geometry.chunks * length (enumerate_from 0 d.units) =
    flat_length (unit_descriptors d.geometry) (32 * d.geometry.chunks) (enumerate_from 0 d.units) (unit_lengths d h) in
    let count : length (enumerate_from 0 d.units) ≡ length d.units = length-enumerate_from 0 d.units in
    let product : 32 * d.geometry.chunks * length d.units ≡ 32 * (length d.units * d.geometry.chunks) = omega arith in
    all ∙ (ap (λ n. 32 * d.geometry.chunks * n) count ∙ product)

pub descriptor_stands : (d : Drive) (unit chunk : ℕ) (kept : List StoredChunk) (k : StoredChunk) → HasUnits d → slice_get d.units unit ≡ Some kept
    → slice_get kept chunk ≡ Some k
    → Piece (descriptors_bytes d) (descriptor_bytes d.geometry unit chunk k) (32 * d.geometry.chunks * unit + 32 * chunk)
descriptor_stands d unit chunk kept k h p q =
    let g = d.geometry in
    let f : ℕ × StoredChunk → List ℕ = λ chunk. descriptor_bytes g unit chunk.0 chunk.1 in
    let outer : Piece (descriptors_bytes d) (unit_descriptors g (0 + unit, kept)) (32 * g.chunks * unit) =
    piece_of_flat (unit_descriptors g) (32 * g.chunks) (enumerate_from 0 d.units) unit (0 + unit, kept) (unit_lengths d h)
    (enumerate_get 0 d.units unit kept p) in
    let inner : Piece (flat_map f (enumerate_from 0 kept)) (descriptor_bytes g unit (0 + chunk) k) (32 * chunk) =
    piece_of_flat f 32 (enumerate_from 0 kept) chunk (0 + chunk, k)
    (all_everywhere (λ chunk. length (f chunk) ≡ 32) (enumerate_from 0 kept) (λ chunk. descriptor_length (descriptor_of g unit chunk.0 chunk.1)))
    (enumerate_get 0 kept chunk k q) in
    let same_unit : 0 + unit ≡ unit = omega arith in
    let same_chunk : 0 + chunk ≡ chunk = omega arith in
    piece_in_piece (descriptors_bytes d) (unit_descriptors g (unit, kept)) (descriptor_bytes g unit chunk k) (32 * g.chunks * unit) (32 * chunk)
    (subst (λ (u : ℕ). Piece (descriptors_bytes d) (unit_descriptors g (u, kept)) (32 * g.chunks * unit)) same_unit outer)
    (subst (λ (c : ℕ). Piece (flat_map f (enumerate_from 0 kept)) (descriptor_bytes g unit c k) (32 * chunk)) same_chunk inner)

-- The four parts of the file.

parts : (h g d b : List ℕ) → h ++ g ++ d ++ b ≡ h ++ (g ++ d ++ b)
parts h g d b = simp append_assoc

pub second_part : (h g d b : List ℕ) (n m : ℕ) → length h ≡ n → n + length g ≡ m → slice_range (h ++ g ++ d ++ b) n m ≡ g
second_part h g d b n m e k = ap (λ w. slice_range w n m) (append_assoc (h ++ g) d b) ∙ slice_of h g (d ++ b) n m e k

pub third_part : (h g d b : List ℕ) (n : ℕ) → length h + length g ≡ n → Piece (h ++ g ++ d ++ b) d n
third_part h g d b n e = record { before = h ++ g; after = b; is = refl; count = length-append h g ∙ e }

pub descriptor_read : (d : Drive) (unit chunk : ℕ) (kept : List StoredChunk) (k : StoredChunk) → FitsFields d.geometry → geometry_refusal d.geometry ≡ None
    → IsAccepted (shape_of d) → HasUnits d
    → AllByRecursion (AllByRecursion (λ k. k.wear < 256)) d.units → slice_get d.units unit ≡ Some kept → slice_get kept chunk ≡ Some k
    → read_descriptor (slice_range (image_bytes d) (4128 + 32 * (unit * d.geometry.chunks + chunk)) (4128 + 32 * (unit * d.geometry.chunks + chunk) + 32)) ≡ Ok
    (descriptor_of d.geometry unit chunk k)
descriptor_read d unit chunk kept k fields taken accepted h wears p q =
    let g = d.geometry in
    let inside : unit < length d.units = slice_get_within d.units unit kept p in
    let low : chunk < length kept = slice_get_within kept chunk k q in
    let count : length kept ≡ g.chunks = all_get (λ (kept : List StoredChunk). length kept ≡ g.chunks) d.units unit kept h.chunks p in
    let is : IsChunk (shape_of d) k.chunk = chunk_is d unit chunk kept k h p q in
    let wear : k.wear < 256 = all_get (λ (k : StoredChunk). k.wear < 256) kept chunk k
    (all_get (AllByRecursion (λ (k : StoredChunk). k.wear < 256)) d.units unit kept wears p) q in
    let within : pointer k.chunk ≤ g.clba = pointer_within k.chunk.state g.clba (pointer k.chunk) is.place in
    let blocks : g.clba < 2 ^ 32 = fields.clba in
    let stands : Piece (image_bytes d) (descriptor_bytes g unit chunk k) (4128 + (32 * g.chunks * unit + 32 * chunk)) =
    piece_in_piece (image_bytes d) (descriptors_bytes d) (descriptor_bytes g unit chunk k) 4128 (32 * g.chunks * unit + 32 * chunk)
    (third_part (header_bytes 1 d) (geometry_bytes g) (descriptors_bytes d) (blocks_bytes d) 4128 (omega (arith, header_length d, geometry_length g)))
    (descriptor_stands d unit chunk kept k h p q) in
    let slba : packed g (first_address g unit chunk) < 2 ^ 64 = packs_below g unit chunk taken (omega (arith, h.count)) accepted.drive.pus (omega arith) in
    let place : 4128 + (32 * g.chunks * unit + 32 * chunk) ≡ 4128 + 32 * (unit * g.chunks + chunk) = omega arith in
    let at : ℕ = 4128 + 32 * (unit * g.chunks + chunk) in
    ap read_descriptor (slice_of_piece (image_bytes d) (descriptor_bytes g unit chunk k) (4128 + (32 * g.chunks * unit + 32 * chunk)) at (at + 32) stands place
    (ap (λ n. at + n) (descriptor_length (descriptor_of g unit chunk k))))
    ∙ descriptor_back (descriptor_of g unit chunk k) wear slba (omega arith) (omega arith) (pointer_from k.chunk.state g.clba (pointer k.chunk) is.place)
