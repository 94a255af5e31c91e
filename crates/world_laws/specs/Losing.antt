-- Chunks that are emptied or go Offline.
use Rattle.std.specs.Prelude.{ℕ, ◌<◌, ◌≡◌, ◌⊎◌, Bool, true, false, length, Some, None}
use Rattle.pblk_model.specs.Chunk.{Chunk, free_chunk, offline_chunk}
use Rattle.pblk_model.specs.Image.{Image, is_online_in}
use Rattle.pblk_model.specs.StartRecord.{start_of}
use Rattle.pblk_laws.specs.LineBlocks.{chunk_in}

-- a unit's chunk of a line wasn't Offline, and now it is, or it is Free
pub record IsLostAt (i j : Image) (line unit : ℕ) : Type 0 where
  pub old : Chunk
  pub was : chunk_in i line unit ≡ Some old
  pub online : is_online_in old.state ≡ true
  pub is : (chunk_in j line unit ≡ Some free_chunk) ⊎ (chunk_in j line unit ≡ Some offline_chunk)

-- each chunk of a line is as it was, or is now Free or Offline
abbrev pub AreKeptOrLost : Image → Image → ℕ → Type 0
AreKeptOrLost i j line = (unit : ℕ) → (chunk_in j line unit ≡ chunk_in i line unit) ⊎ IsLostAt i j line unit

-- In the second image some chunks of the line are Free or Offline.
pub record LosesChunks (i j : Image) (line : ℕ) : Type 0 where
  pub shape : j.shape ≡ i.shape
  pub count : length j.units ≡ length i.units
  pub chunks : AreKeptOrLost i j line

-- A line that had no start record, of which some chunks are now Free or Offline.
pub record IsLostLine (i j : Image) (line : ℕ) : Type 0 where
  pub no_start : start_of i line ≡ None
  pub chunks : AreKeptOrLost i j line

-- The second image is the first but for such lines.
pub record AreLost (lines : ℕ → Bool) (i j : Image) : Type 0 where
  pub shape : j.shape ≡ i.shape
  pub count : length j.units ≡ length i.units
  pub in_range : (line : ℕ) → lines line ≡ true → line < i.shape.chunks
  pub lost : (line : ℕ) → lines line ≡ true → IsLostLine i j line
  pub kept : (line unit : ℕ) → lines line ≡ false → chunk_in j line unit ≡ chunk_in i line unit
