-- An image: a drive's shape and the chunks of its units, which is all that recovery looks at.
use Rattle.std.specs.Prelude.{ℕ, ◌≡◌, List, map, length, slice_get, Option, Bool, true, false, replicate}
use Rattle.std.specs.List.{AllByRecursion, filter, filter_map, enumerate_from}
use Rattle.std.specs.Option.{option_and_then, option_map_or}
use Rattle.pblk_model.specs.declared.shape.Shape.{Shape}
use Rattle.pblk_model.specs.declared.chunk.ChunkState.{ChunkState}
use Rattle.pblk_model.specs.declared.chunk.ChunkState.TheVariants.{Free, Open, Closed, Offline}
use Rattle.pblk_model.specs.Shape.{units}
use Rattle.pblk_model.specs.Chunk.{Chunk, Block, IsChunk, free_chunk}
use Rattle.pblk_model.specs.LineOrder.{column_of, block_of}

pub record Image : Type 0 where
  pub shape : Shape
  -- by unit, then by chunk
  pub units : List (List Chunk)

-- the units are those of a drive of the image's shape
pub record IsFit (i : Image) : Type 0 where
  pub units : length i.units ≡ units i.shape
  pub chunks : AllByRecursion (λ unit. length unit ≡ i.shape.chunks) i.units
  pub each : AllByRecursion (AllByRecursion (IsChunk i.shape)) i.units

-- an image whose chunks are all Free
abbrev pub blank : Shape → Image
blank s = record { shape = s; units = replicate (units s) (replicate s.chunks free_chunk) }

abbrev pub is_online_in : ChunkState → Bool
is_online_in Free = true
is_online_in Open = true
is_online_in Closed = true
is_online_in Offline = false

-- the chunks of a line that aren't Offline, by unit
abbrev pub line_chunks : Image → ℕ → List Chunk
line_chunks i line = filter (λ c. is_online_in c.state) (filter_map (λ unit. slice_get unit line) i.units)

-- the units of those chunks, rising
abbrev pub line_units : Image → ℕ → List ℕ
line_units i line = map (λ unit. unit.0)
    (filter (λ unit. option_map_or (λ c. is_online_in c.state) (slice_get unit.1 line) false) (enumerate_from 0 i.units))

abbrev pub width : Image → ℕ → ℕ
width i line = length (line_chunks i line)

-- the block at a line address, where it is written
abbrev pub block_at : Image → ℕ → ℕ → Option Block
block_at i line a = option_and_then (λ c. slice_get c.blocks (block_of i.shape (width i line) a))
    (slice_get (line_chunks i line) (column_of i.shape (width i line) a))
