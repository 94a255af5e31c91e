-- The blocks of a line by their units.
use Rattle.std.specs.Prelude.{ℕ, Option, slice_get}
use Rattle.std.specs.Option.{option_and_then}
use Rattle.pblk_model.specs.Chunk.{Chunk, Block}
use Rattle.pblk_model.specs.Image.{Image}

-- a unit's chunk of a line
abbrev pub chunk_in : Image → ℕ → ℕ → Option Chunk
chunk_in i line unit = option_and_then (λ chunks. slice_get chunks line) (slice_get i.units unit)

-- a block of a unit's chunk of a line, where it is written
abbrev pub written_at : Image → ℕ → ℕ × ℕ → Option Block
written_at i line place = option_and_then (λ c. slice_get c.blocks place.1) (chunk_in i line place.0)
