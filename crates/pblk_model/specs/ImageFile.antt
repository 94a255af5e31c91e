-- The file in which a drive is kept: a header, the geometry, a descriptor for each chunk, and the written
-- blocks.
use Rattle.std.specs.Prelude.{ℕ, ◌+◌, ◌*◌, ◌/◌, ◌%◌, ◌≡◌, ◌==◌, ◌&&◌, true, nat_le, Bool, List, [], ◌∷◌, ◌++◌, map, length, take, slice_get, slice_index, slice_range, Option, Some, None, Ok, codes, replicate}
use Rattle.std.specs.List.{AllByRecursion, flat_map, enumerate_from, range_with_len, sum_by}
use Rattle.std.specs.Option.{option_map, option_map_or, is_some}
use Rattle.std.specs.Str.{bytes_eq}
use Rattle.std.specs.Int.{w32, w64}
use Rattle.pblk_model.specs.declared.shape.Shape.{Shape}
use Rattle.pblk_model.specs.declared.shape.Address.{Address}
use Rattle.pblk_model.specs.declared.image.ImageErr.{ImageErr}
use Rattle.pblk_model.specs.declared.image.ImageErr.TheVariants as errors
use Rattle.pblk_model.specs.Bytes.{le32, le64, number_at}
use Rattle.pblk_model.specs.Checks.{first_failing, first_refusal, unless}
use Rattle.pblk_model.specs.Shape.{units}
use Rattle.pblk_model.specs.Chunk.{Chunk, Block, pointer, free_chunk}
use Rattle.pblk_model.specs.Descriptor.{Descriptor, spelled, read_descriptor, state_in, pointer_holds}
use Rattle.pblk_model.specs.Geometry.{Geometry, geometry_in, geometry_bytes, geometry_refusal, packed, shape_with}
use Rattle.pblk_model.specs.Accepted.{settings_checks}
use Rattle.pblk_model.specs.Image.{Image}

-- a chunk, and the wear index that its descriptor keeps
pub record StoredChunk : Type 0 where
  pub chunk : Chunk
  pub wear : ℕ

pub record Drive : Type 0 where
  pub geometry : Geometry
  pub sector : ℕ
  pub capacity : ℕ
  pub ring : ℕ
  -- by unit, then by chunk
  pub units : List (List StoredChunk)

abbrev pub shape_of : Drive → Shape
shape_of d = shape_with d.geometry d.sector d.capacity d.ring

abbrev pub image_of : Drive → Image
image_of d = record { shape = shape_of d; units = map (map (λ k. k.chunk)) d.units }

-- a drive of these numbers whose chunks are all Free and not worn
abbrev pub blank_drive : Geometry → ℕ → ℕ → ℕ → Drive
blank_drive g sector capacity ring = record {
  geometry = g;
  sector = sector;
  capacity = capacity;
  ring = ring;
  units = replicate (g.groups * g.pus) (replicate g.chunks (record { chunk = free_chunk; wear = 0 }));
}

-- How a drive is spelled.

-- `PBLKOCSD`, the version and the settings
abbrev pub header_bytes : ℕ → Drive → List ℕ
header_bytes version d = codes "PBLKOCSD" ++ le32 version ++ le32 d.sector ++ le64 d.capacity ++ le64 d.ring

-- the address of block 0 of a chunk
abbrev pub first_address : Geometry → ℕ → ℕ → Address
first_address g unit chunk = record { group = unit / g.pus; pu = unit % g.pus; chunk = chunk; block = 0 }

-- the descriptor of a chunk
abbrev pub descriptor_of : Geometry → ℕ → ℕ → StoredChunk → Descriptor
descriptor_of g unit chunk k = record {
  state = k.chunk.state;
  wear = k.wear;
  slba = packed g (first_address g unit chunk);
  cnlb = g.clba;
  wp = pointer k.chunk;
}

abbrev pub descriptor_bytes : Geometry → ℕ → ℕ → StoredChunk → List ℕ
descriptor_bytes g unit chunk k = spelled (descriptor_of g unit chunk k)

abbrev pub unit_descriptors : Geometry → ℕ × List StoredChunk → List ℕ
unit_descriptors g unit = flat_map (λ chunk. descriptor_bytes g unit.0 chunk.0 chunk.1) (enumerate_from 0 unit.1)

abbrev pub descriptors_bytes : Drive → List ℕ
descriptors_bytes d = flat_map (unit_descriptors d.geometry) (enumerate_from 0 d.units)

-- a written block: its sector, and its mark
abbrev pub block_bytes : Block → List ℕ
block_bytes b = b.sector ++ le64 b.mark.lba ++ le64 b.mark.position

-- the written blocks, by unit, then by chunk
abbrev pub blocks_bytes : Drive → List ℕ
blocks_bytes d = flat_map (flat_map (λ k. flat_map block_bytes k.chunk.blocks)) d.units

-- the one spelling of a drive, which has the version 1
abbrev pub image_bytes : Drive → List ℕ
image_bytes d = header_bytes 1 d ++ geometry_bytes d.geometry ++ descriptors_bytes d ++ blocks_bytes d

-- Where the parts of an image stand.

abbrev pub geometry_at : List ℕ → Geometry
geometry_at b = geometry_in (slice_range b 32 4128)

abbrev pub shape_at : List ℕ → Shape
shape_at b = shape_with (geometry_at b) (number_at w32 12 b) (number_at w64 16 b) (number_at w64 24 b)

-- how many chunks the drive has in all
abbrev pub chunks_at : List ℕ → ℕ
chunks_at b = units (shape_at b) * (shape_at b).chunks

-- the bytes of the n-th descriptor, by unit, then by chunk
abbrev pub descriptor_at : List ℕ → ℕ → List ℕ
descriptor_at b n = slice_range b (4128 + 32 * n) (4128 + 32 * n + 32)

abbrev pub descriptors_end : List ℕ → ℕ
descriptors_end b = 4128 + 32 * chunks_at b

-- how many blocks a descriptor says are written
abbrev pub pointer_at : List ℕ → ℕ → ℕ
pointer_at b n = number_at w64 24 (descriptor_at b n)

abbrev pub blocks_end : List ℕ → ℕ
blocks_end b = descriptors_end b + ((shape_at b).sector + 16) * sum_by (pointer_at b) (range_with_len 0 (chunks_at b))

-- Which bytes are refused.

-- each rule of the descriptor of a chunk, by its number, with whether it holds
abbrev pub chunk_checks : Geometry → ℕ → ℕ → List ℕ → List (ℕ × Bool)
chunk_checks g unit chunk d = (1, is_some (state_in (slice_index d 0)))
    ∷ (2, slice_index d 1 == 1)
    ∷ (3, number_at w64 8 d == packed g (first_address g unit chunk))
    ∷ (4, number_at w64 16 d == g.clba)
    ∷ (5, (number_at w64 24 d % g.ws_min == 0) && option_map_or (λ state. pointer_holds state g.clba (number_at w64 24 d)) (state_in (slice_index d 0)) true)
    ∷ []

-- why the n-th descriptor is refused
abbrev pub chunk_refusal : List ℕ → ℕ → Option ImageErr
chunk_refusal b n = let g = geometry_at b in let unit = n / g.chunks in let chunk = n % g.chunks in
    option_map (errors.Chunk unit chunk) (first_failing (chunk_checks g unit chunk (descriptor_at b n)))

-- the input ends before this byte
abbrev pub short_of : List ℕ → ℕ → Option ImageErr
short_of b end = unless (nat_le end (length b)) (errors.Short (length b))

-- the refusals part by part, in the order in which they are judged
abbrev pub image_refusals : List ℕ → List (Option ImageErr)
image_refusals b = short_of b 32
    ∷ unless (bytes_eq (take 8 b) (codes "PBLKOCSD")) errors.Magic
    ∷ unless (number_at w32 8 b == 1) errors.Version
    ∷ short_of b 4128
    ∷ option_map errors.Geometry (geometry_refusal (geometry_at b))
    ∷ option_map errors.Settings (first_failing (settings_checks (shape_at b)))
    ∷ short_of b (descriptors_end b)
    ∷ first_refusal (map (chunk_refusal b) (range_with_len 0 (chunks_at b)))
    ∷ short_of b (blocks_end b)
    ∷ unless (nat_le (length b) (blocks_end b)) errors.Long
    ∷ []

-- why bytes are no image, if they aren't one
abbrev pub image_refusal : List ℕ → Option ImageErr
image_refusal b = first_refusal (image_refusals b)

-- Which drive bytes are an image of, where they aren't refused. Bytes that are ignored may hold anything.
pub record IsImageOf (b : List ℕ) (d : Drive) : Type 0 where
  pub settings : shape_of d ≡ shape_at b
  pub geometry : d.geometry ≡ geometry_at b
  pub count : length d.units ≡ units (shape_of d)
  pub chunks : AllByRecursion (λ unit. length unit ≡ d.geometry.chunks) d.units
  pub sectors : AllByRecursion (AllByRecursion (λ k. AllByRecursion (λ block. length block.sector ≡ d.sector) k.chunk.blocks)) d.units
  pub descriptors : (unit chunk : ℕ) (kept : List StoredChunk) (k : StoredChunk) → slice_get d.units unit ≡ Some kept → slice_get kept chunk ≡ Some k
      → read_descriptor (descriptor_at b (unit * d.geometry.chunks + chunk)) ≡ Ok (descriptor_of d.geometry unit chunk k)
  pub blocks : slice_range b (descriptors_end b) (blocks_end b) ≡ blocks_bytes d

-- the bytes are an image of this drive
pub record IsImage (b : List ℕ) (d : Drive) : Type 0 where
  pub accepted : image_refusal b ≡ None
  pub of : IsImageOf b d
