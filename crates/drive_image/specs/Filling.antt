-- A drive that is filled from an image chunk by chunk.
use Rattle.std.specs.Prelude.{ℕ, ◌+◌, ◌*◌, ◌/◌, ◌%◌, ◌≡◌, List, Ok}
use Rattle.std.specs.List.{flat_map, slice_range}
use Rattle.pblk_model.specs.Accepted.{IsAccepted}
use Rattle.pblk_model.specs.Chunk.{PointerFits}
use Rattle.pblk_model.specs.Descriptor.{Descriptor, read_descriptor}
use Rattle.pblk_model.specs.Geometry.{packed, shape_with}
use Rattle.pblk_model.specs.ImageFile.{StoredChunk, block_bytes, descriptor_at, descriptor_of, first_address, geometry_at, pointer_at, shape_at}
use Rattle.ocssd_drive.specs.Drive.{DriveView, shape_of, stored, with_chunk_at, with_restored}
use Rattle.ocssd_geometry.specs.Numbers.{IsGeometry, numbers_of}
use Rattle.drive_image.specs.declared.parts.Numbers.{Numbers}

-- the length in bytes of the blocks of the n-th chunk
abbrev pub bytes_of : List ℕ → ℕ → ℕ
bytes_of b n = ((shape_at b).sector + 16) * pointer_at b n

-- these are the numbers of an image, and a drive has them
pub record AreNumbersOf (b : List ℕ) (n : Numbers) : Type 0 where
  pub geometry : numbers_of n.geometry ≡ geometry_at b
  pub geometry_is : IsGeometry n.geometry
  pub shape : shape_with (numbers_of n.geometry) n.settings.sector n.settings.capacity n.settings.ring ≡ shape_at b
  pub accepted : IsAccepted (shape_at b)

-- this is the n-th chunk of an image, whose blocks begin at this byte
pub record IsNth (b : List ℕ) (n at : ℕ) (k : StoredChunk) : Type 0 where
  pub descriptor : let g = geometry_at b in read_descriptor (descriptor_at b n) ≡ Ok (descriptor_of g (n / g.chunks) (n % g.chunks) k)
  pub blocks : slice_range b at (at + bytes_of b n) ≡ flat_map block_bytes k.chunk.blocks

-- this is the n-th descriptor of an image
pub record IsRow (b : List ℕ) (n : ℕ) (d : Descriptor) : Type 0 where
  pub read : read_descriptor (descriptor_at b n) ≡ Ok d
  pub slba : let g = geometry_at b in d.slba ≡ packed g (first_address g (n / g.chunks) (n % g.chunks))
  pub cnlb : d.cnlb ≡ (geometry_at b).clba
  pub wp : d.wp ≡ pointer_at b n
  pub place : PointerFits d.state (geometry_at b).clba d.wp
  pub multiple : d.wp % (geometry_at b).ws_min ≡ 0

-- a drive of the numbers of an image
pub record HasNumbers (b : List ℕ) (d : DriveView) : Type 0 where
  pub geometry : numbers_of d.geometry ≡ geometry_at b
  pub shape : shape_of d ≡ shape_at b

-- The drive got the n-th chunk of the image, whose blocks begin at this byte, and is else as
-- before.
pub record GotNth (b : List ℕ) (n at : ℕ) (old new : DriveView) : Type 0 where
  pub got : StoredChunk
  pub is : IsNth b n at got
  pub view : let g = geometry_at b in new ≡ with_restored (n / g.chunks) (n % g.chunks) got old
  pub image : let g = geometry_at b in stored new ≡ with_chunk_at (n / g.chunks) (n % g.chunks) got (stored old)
