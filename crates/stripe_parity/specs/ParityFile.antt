-- Parity: of each chunk its state and write pointer, and for each chunk number the exclusive ors of the units'
-- blocks.
use Rattle.std.specs.Prelude.{ℕ, ◌%◌, ◌≡◌, ◌≢◌, List, length, map, max, slice_get, Option, Some, None}
use Rattle.std.specs.List.{AllByRecursion, fold, range_with_len}
use Rattle.std.specs.Option.{option_and_then, option_map_or}
use Rattle.pblk_model.specs.declared.shape.Shape.{Shape}
use Rattle.pblk_model.specs.declared.chunk.ChunkState.TheVariants as states
use Rattle.pblk_model.specs.Accepted.{IsAccepted}
use Rattle.pblk_model.specs.Shape.{units}
use Rattle.pblk_model.specs.Chunk.{Block, Chunk, IsBlock, PointerFits, pointer}
use Rattle.pblk_model.specs.Image.{Image}
use Rattle.stripe_parity.specs.declared.kept.KeptChunk.{KeptChunk}
use Rattle.stripe_parity.specs.Xors.{blocks_but, xor_of}

-- the numbers of a drive, and its parity
pub record ParityFile : Type 0 where
  pub shape : Shape
  -- by unit, then by chunk
  pub chunks : List (List KeptChunk)
  -- by chunk number
  pub rows : List (List Block)

-- what is kept of a chunk
abbrev pub kept_of : Chunk → KeptChunk
kept_of c = record { state = c.state; pointer = pointer c }

-- what is kept of a chunk of a unit
abbrev pub kept_in : List (List KeptChunk) → ℕ → ℕ → Option KeptChunk
kept_in chunks chunk unit = option_and_then (λ of. slice_get of chunk) (slice_get chunks unit)

-- the write pointer that is kept of a unit's chunk
abbrev pub pointer_in : ℕ → List KeptChunk → ℕ
pointer_in chunk of = option_map_or (λ k. k.pointer) (slice_get of chunk) 0

-- the greatest of the units' write pointers in their chunks of this number
abbrev pub greatest_pointer : List (List KeptChunk) → ℕ → ℕ
greatest_pointer chunks chunk = fold max 0 (map (pointer_in chunk) chunks)

abbrev pub kept_chunks : Image → List (List KeptChunk)
kept_chunks i = map (map kept_of) i.units

-- the exclusive or of the blocks with this number of the units' chunks of this number
abbrev pub parity_block : Image → ℕ → ℕ → Block
parity_block i chunk block = xor_of i.shape.sector (blocks_but i None chunk block)

-- and of each block number below the greatest write pointer
abbrev pub parity_row : Image → ℕ → List Block
parity_row i chunk = map (parity_block i chunk) (range_with_len 0 (greatest_pointer (kept_chunks i) chunk))

-- the parity of a drive
abbrev pub parity_of : Image → ParityFile
parity_of i = record {
  shape = i.shape;
  chunks = kept_chunks i;
  rows = map (parity_row i) (range_with_len 0 i.shape.chunks);
}

-- a chunk of a drive of this shape may have this state and write pointer, and isn't Open
pub record IsKept (s : Shape) (k : KeptChunk) : Type 0 where
  pub closed : k.state ≢ states.Open
  pub place : PointerFits k.state s.clba k.pointer
  pub multiple : k.pointer % s.ws_min ≡ 0

-- a drive of its shape may have this parity
pub record IsParity (p : ParityFile) : Type 0 where
  pub accepted : IsAccepted p.shape
  pub units_are : length p.chunks ≡ units p.shape
  pub chunks_are : AllByRecursion (λ of. length of ≡ p.shape.chunks) p.chunks
  pub each : AllByRecursion (AllByRecursion (IsKept p.shape)) p.chunks
  pub rows_are : length p.rows ≡ p.shape.chunks
  pub lengths : (chunk : ℕ) (row : List Block) → slice_get p.rows chunk ≡ Some row → length row ≡ greatest_pointer p.chunks chunk
  pub blocks : AllByRecursion (AllByRecursion (IsBlock p.shape)) p.rows
