-- Bytes that are added to a list in whose memory they have room.
use Rattle.std.specs.Prelude.{ℕ, ◌+◌, ◌≤◌, ◌≡◌, List, ◌++◌, Vec, codes, length, slice_get, Some, vec_capacity}
use Rattle.pblk_model.specs.ImageFile.{Drive, StoredChunk, block_bytes, descriptor_bytes, descriptors_bytes, header_bytes}
use Rattle.std.specs.List.{flat_map, sum_by}
use Rattle.pblk_model.specs.Chunk.{pointer}
use Rattle.pblk_model.specs.Geometry.{Geometry, geometry_bytes}
use Rattle.pblk_model.specs.declared.shape.Shape.{Shape}
use Rattle.pblk_model.specs.Bytes.{le32, le64}

-- there is room for these bytes
abbrev pub HasCapacity : {Z : Type 0} → Vec ℕ Z → List ℕ → Type 0
HasCapacity out bytes = length out.items + length bytes ≤ vec_capacity out

-- these bytes were added, and no memory was given back
pub record WasAdded {Z : Type 0} (old new : Vec ℕ Z) (bytes : List ℕ) : Type 0 where
  pub items : new.items ≡ old.items ++ bytes
  pub capacity : vec_capacity old ≤ vec_capacity new

-- the written blocks of a chunk
abbrev pub chunk_bytes : StoredChunk → List ℕ
chunk_bytes k = flat_map block_bytes k.chunk.blocks

-- how many blocks of some chunks are written
abbrev pub written_in : List StoredChunk → ℕ
written_in ks = sum_by (λ k. pointer k.chunk) ks

-- the descriptor of the chunk at a place of a unit was added
pub record IsDescriptorAdded {Z : Type 0} (g : Geometry) (unit chunk : ℕ) (ks : List StoredChunk) (old new : Vec ℕ Z) : Type 0 where
  pub found : StoredChunk
  pub there : slice_get ks chunk ≡ Some found
  pub added : WasAdded old new (descriptor_bytes g unit chunk found)

-- the header of an image of this shape
abbrev pub numbers_bytes : Shape → List ℕ
numbers_bytes s = codes "PBLKOCSD" ++ le32 1 ++ le32 s.sector ++ le64 s.capacity ++ le64 s.ring

-- what stands before the blocks in an image
abbrev pub front_bytes : Drive → List ℕ
front_bytes d = header_bytes 1 d ++ geometry_bytes d.geometry ++ descriptors_bytes d
