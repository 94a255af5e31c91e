-- How long an image is.
use Rattle.std.proofs.Common.{◌≡◌, ℕ, ◌+◌, ◌*◌, List, ◌++◌, length, length-append, ap, ◌∙◌, arith}
use Rattle.std.specs.List.{AllByRecursion, enumerate_from, flat_map, sum_by}
use Rattle.std.proofs.lemmas.List.FromFn.{length-enumerate_from}
use Rattle.pblk_model.specs.Chunk.{Block, pointer}
use Rattle.pblk_model.specs.Geometry.{Geometry, geometry_bytes}
use Rattle.pblk_model.specs.ImageFile.{StoredChunk, Drive, block_bytes, blocks_bytes, descriptor_bytes, descriptor_of, descriptors_bytes, header_bytes, image_bytes, unit_descriptors}
use Rattle.pblk_model.proofs.GeometryBytes.{geometry_length}
use Rattle.drive_image.specs.Storing.{chunk_bytes, written_in}
use Rattle.pblk_model.proofs.Lists.{all_everywhere, all_weaker}
use Rattle.pblk_model.proofs.Maps.{all_enumerate, flat_length, length_of_sum}
use Rattle.pblk_model.proofs.DescriptorLemmas.{descriptor_length}
use Rattle.pblk_model.proofs.ImageFileLemmas.{block_length, header_length}

unit_length : (g : Geometry) (unit : ℕ) (ks : List StoredChunk) → length (unit_descriptors g (unit, ks)) ≡ 32 * length ks
unit_length g unit ks =
    let f : ℕ × StoredChunk → List ℕ = λ chunk. descriptor_bytes g unit chunk.0 chunk.1 in
    flat_length f 32 (enumerate_from 0 ks) (all_everywhere (λ chunk. length (f chunk) ≡ 32) (enumerate_from 0 ks)
    (λ chunk. descriptor_length (descriptor_of g unit chunk.0 chunk.1)))
    ∙ ap (λ n. 32 * n) (length-enumerate_from 0 ks)

-- a drive whose units all have this many chunks, all of whose sectors are of its size
pub record IsEven (d : Drive) (n : ℕ) : Type 0 where
  pub chunks : AllByRecursion (λ (ks : List StoredChunk). length ks ≡ n) d.units
  pub sectors : AllByRecursion (AllByRecursion (λ (k : StoredChunk). AllByRecursion (λ (b : Block). length b.sector ≡ d.sector) k.chunk.blocks)) d.units

descriptors_length : (d : Drive) (n : ℕ) → IsEven d n → length (descriptors_bytes d) ≡ 32 * n * length d.units
descriptors_length d n even =
    flat_length (unit_descriptors d.geometry) (32 * n) (enumerate_from 0 d.units)
    (all_enumerate (λ unit. length (unit_descriptors d.geometry unit) ≡ 32 * n) (λ (ks : List StoredChunk). length ks ≡ n) 0 d.units
    (λ i ks count. unit_length d.geometry i ks ∙ ap (λ m. 32 * m) count) even.chunks)
    ∙ ap (λ m. 32 * n * m) (length-enumerate_from 0 d.units)

chunk_length : (size : ℕ) (k : StoredChunk) → AllByRecursion (λ (b : Block). length b.sector ≡ size) k.chunk.blocks
    → length (chunk_bytes k) ≡ (size + 16) * pointer k.chunk
chunk_length size k all = flat_length block_bytes (size + 16) k.chunk.blocks
    (all_weaker (λ (b : Block). length b.sector ≡ size) (λ (b : Block). length (block_bytes b) ≡ size + 16) k.chunk.blocks (λ b is. block_length size b is) all)

blocks_length : (d : Drive) (n : ℕ) → IsEven d n → length (blocks_bytes d) ≡ (d.sector + 16) * sum_by written_in d.units
blocks_length d n even =
    let P : StoredChunk → Type 0 = λ k. AllByRecursion (λ (b : Block). length b.sector ≡ d.sector) k.chunk.blocks in
    length_of_sum (flat_map chunk_bytes) (d.sector + 16) written_in d.units
    (all_weaker (AllByRecursion P) (λ ks. length (flat_map chunk_bytes ks) ≡ (d.sector + 16) * written_in ks) d.units
    (λ ks all. length_of_sum chunk_bytes (d.sector + 16) (λ k. pointer k.chunk) ks
    (all_weaker P (λ k. length (chunk_bytes k) ≡ (d.sector + 16) * pointer k.chunk) ks (λ k is. chunk_length d.sector k is) all)) even.sectors)

pub image_long : (d : Drive) (n : ℕ) → IsEven d n → length (image_bytes d) ≡ 4128 + 32 * (length d.units * n) + (d.sector + 16) * sum_by written_in d.units
image_long d n even =
    let h = header_bytes 1 d in
    let g = geometry_bytes d.geometry in
    let head : length (h ++ g) ≡ 4128 = omega (arith, length-append h g, header_length d, geometry_length d.geometry) in
    let rows : length (descriptors_bytes d) ≡ 32 * n * length d.units = descriptors_length d n even in
    let same : 32 * n * length d.units ≡ 32 * (length d.units * n) = omega arith in
    let blocks : length (blocks_bytes d) ≡ (d.sector + 16) * sum_by written_in d.units = blocks_length d n even in
    omega (arith, length-append (h ++ g ++ descriptors_bytes d) (blocks_bytes d), length-append (h ++ g) (descriptors_bytes d))
