-- A unit that is made anew from the other units and the drive's parity.
use Rattle.std.specs.Prelude.{ℕ, ◌<◌, ◌≡◌, ◌≢◌, ◌⊎◌, List, [], length, map, slice_get, slice_set, Option, Some}
use Rattle.std.specs.List.{sum_by}
use Rattle.std.specs.Option.{option_and_then, option_map, option_map_or}
use Rattle.pblk_model.specs.Chunk.{Block, Chunk}
use Rattle.pblk_model.specs.Image.{Image}
use Rattle.pblk_laws.specs.LineBlocks.{chunk_in, written_at}
use Rattle.ocssd_drive.specs.Drive.{DriveView, shape_of}
use Rattle.scan_recovery.specs.Units.{image_of}
use Rattle.stripe_parity.specs.declared.kept.KeptChunk.{KeptChunk}
use Rattle.stripe_parity.specs.Xors.{blocks_but, xor_onto}
use Rattle.stripe_parity.specs.ParityFile.{ParityFile, kept_in, kept_of}

-- a chunk of a unit has the state and the write pointer that are kept of it
abbrev pub IsAsKept : List (List KeptChunk) → Image → ℕ → ℕ → Type 0
IsAsKept kept i unit chunk = option_map kept_of (chunk_in i chunk unit) ≡ kept_in kept chunk unit

-- all chunks of all units but this one do
abbrev pub AreAsKept : List (List KeptChunk) → Image → ℕ → Type 0
AreAsKept kept i lost = (unit chunk : ℕ) → unit ≢ lost → IsAsKept kept i unit chunk

-- this chunk of another unit is the first one, by unit and then by chunk, that doesn't
pub record IsFirstDifference (kept : List (List KeptChunk)) (i : Image) (lost unit chunk : ℕ) : Type 0 where
  pub other : unit ≢ lost
  pub unit_within : unit < length i.units
  pub chunk_within : chunk < i.shape.chunks
  pub differs : IsAsKept kept i unit chunk → ⊥
  pub first : (u c : ℕ) → u ≢ lost → (u < unit) ⊎ ((u ≡ unit) × (c < chunk)) → IsAsKept kept i u c

-- the write pointer that is kept of a chunk of a unit, and 0 where there is none
abbrev pub kept_pointer : List (List KeptChunk) → ℕ → ℕ → ℕ
kept_pointer kept chunk unit = option_map_or (λ k. k.pointer) (kept_in kept chunk unit) 0

-- what is kept of the chunks of a unit
abbrev pub kept_of_unit : List (List KeptChunk) → ℕ → List KeptChunk
kept_of_unit kept unit = option_map_or (λ of. of) (slice_get kept unit) []

-- how many blocks of a unit are kept as written
abbrev pub kept_blocks : List (List KeptChunk) → ℕ → ℕ
kept_blocks kept unit = sum_by (λ k. k.pointer) (kept_of_unit kept unit)

-- a block of the parity
abbrev pub block_in : ParityFile → ℕ → ℕ → Option Block
block_in p chunk block = option_and_then (λ row. slice_get row block) (slice_get p.rows chunk)

-- The block is the exclusive or of the parity's one and of those of the other units.
pub record IsRebuiltBlock (p : ParityFile) (i : Image) (lost chunk block : ℕ) (b : Block) : Type 0 where
  pub from : Block
  pub there : block_in p chunk block ≡ Some from
  pub is : b ≡ xor_onto from (blocks_but i (Some lost) chunk block)

-- The chunk has the state and the write pointer that are kept of it, and each of its blocks is that.
pub record IsRebuiltChunk (p : ParityFile) (i : Image) (lost chunk : ℕ) (c : Chunk) : Type 0 where
  pub kept : kept_in p.chunks chunk lost ≡ Some (kept_of c)
  pub blocks : (block : ℕ) (b : Block) → slice_get c.blocks block ≡ Some b → IsRebuiltBlock p i lost chunk block b

-- The chunks are as many as a unit has, and each is that.
pub record AreRebuilt (p : ParityFile) (i : Image) (lost : ℕ) (cs : List Chunk) : Type 0 where
  pub count : length cs ≡ p.shape.chunks
  pub each : (chunk : ℕ) (c : Chunk) → slice_get cs chunk ≡ Some c → IsRebuiltChunk p i lost chunk c

-- The units of an image are those of another one of the same shape, but for this one.
pub record AgreeBut (lost : ℕ) (first i : Image) : Type 0 where
  pub shape : i.shape ≡ first.shape
  pub count : length i.units ≡ length first.units
  pub others : (unit : ℕ) → unit ≢ lost → slice_get i.units unit ≡ slice_get first.units unit

-- An image whose unit was made anew: its chunks are those that come from the parity and from the other units of the
-- image before, and those units are as before.
pub record IsRebuilt (p : ParityFile) (lost : ℕ) (old new : Image) : Type 0 where
  pub agree : AgreeBut lost old new
  pub chunks : List Chunk
  pub there : slice_get new.units lost ≡ Some chunks
  pub are : AreRebuilt p old lost chunks

-- the chunks of a drive
abbrev pub drive_image : DriveView → Image
drive_image d = image_of (shape_of d) (map (λ u. u.unit) d.units)

-- the image with these chunks in the place of a unit's
abbrev pub with_unit : ℕ → List Chunk → Image → Image
with_unit unit chunks i = record { shape = i.shape; units = slice_set i.units unit chunks }

-- the sectors of all written blocks have the size that the shape says
abbrev pub HasSectors : Image → Type 0
HasSectors i = (chunk unit block : ℕ) (b : Block) → written_at i chunk (unit, block) ≡ Some b → length b.sector ≡ i.shape.sector
