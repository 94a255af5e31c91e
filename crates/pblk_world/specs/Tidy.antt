-- Images in which nothing failed before.
use Rattle.std.specs.Prelude.{ℕ, ◌≤◌, ◌≡◌, ◌≢◌, Bool, true, false, length}
use Rattle.std.specs.List.{AllByRecursion, filter, list_all, range_with_len}
use Rattle.pblk_model.specs.declared.chunk.ChunkState.{ChunkState}
use Rattle.pblk_model.specs.declared.chunk.ChunkState.TheVariants as states
use Rattle.pblk_model.specs.declared.shape.Shape.{Shape}
use Rattle.pblk_model.specs.Chunk.{Chunk, pointer}
use Rattle.pblk_model.specs.Image.{Image}
use Rattle.pblk_model.specs.Sealed.{IsSealed}
use Rattle.pblk_world.specs.Lines.{chunks_of}

abbrev pub is_free_state : ChunkState → Bool
is_free_state states.Free = true
is_free_state states.Open = false
is_free_state states.Closed = false
is_free_state states.Offline = false

-- the line has Free chunks alone
abbrev pub has_free_chunks : Image → ℕ → Bool
has_free_chunks i line = list_all (λ c. is_free_state c.state) (chunks_of i line)

-- no program and no reset of the chunk has failed: it isn't Offline, and it is full where it is
-- Closed
pub record IsWholeChunk (s : Shape) (c : Chunk) : Type 0 where
  pub online : c.state ≢ states.Offline
  pub full : c.state ≡ states.Closed → pointer c ≡ s.clba

abbrev pub HasWholeChunks : Image → Type 0
HasWholeChunks i = AllByRecursion (AllByRecursion (IsWholeChunk i.shape)) i.units

-- An image of a drive on which no program and no reset has failed so far, and that has room for a
-- mount: it is sealed, no chunk is Offline, each Closed chunk is full, and at least four lines have
-- Free chunks alone.
pub record IsTidy (i : Image) : Type 0 where
  pub sealed : IsSealed i
  pub whole : HasWholeChunks i
  pub some_free : 4 ≤ length (filter (has_free_chunks i) (range_with_len 0 i.shape.chunks))
