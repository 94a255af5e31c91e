-- What the fields of a chunk stand for, and what they keep.
use Rattle.std.specs.Prelude.{ℕ, ◌+◌, ◌*◌, ◌^◌, ◌<◌, ◌≤◌, ◌≡◌, ◌++◌, List, length, vec_capacity}
use Rattle.pblk_model.specs.declared.chunk.Mark.{Mark}
use Rattle.pblk_model.specs.Accepted.{IsAccepted}
use Rattle.pblk_model.specs.Chunk.{Block, IsChunk}
use Rattle.pblk_model.specs.Blocks.{blocks_in, blocks_of}
use Rattle.ocssd_chunks.specs.DriveChunk.{DriveChunk}
use Rattle.ocssd_chunks.specs.declared.chunk.Chunk.TheInside.{Inside}

-- n blocks that are spelled in bytes, and then those of two lists
abbrev pub held_blocks : ℕ → ℕ → List ℕ → List ℕ → List Mark → List Block
held_blocks size n spelled bytes marks = blocks_in size n spelled ++ blocks_of size bytes marks

-- a chunk has the blocks that it adopted, and then those that were written since
abbrev pub drive_chunk : Inside → DriveChunk
drive_chunk a = record {
  shape = a.shape;
  chunk = record { state = a.state; blocks = held_blocks a.shape.sector a.adopted_count a.adopted a.bytes.items a.marks.items };
}

pub record IsSound (a : Inside) : Type 0 where
  pub accepted : IsAccepted a.shape
  pub fits : IsChunk a.shape (drive_chunk a).chunk
  -- a pointer has 32 bits
  pub counted : a.shape.clba < 2 ^ 32
  pub within : a.adopted_count + length a.marks.items ≤ a.shape.clba
  pub adopted_whole : length a.adopted ≡ a.adopted_count * (a.shape.sector + 16)
  pub whole : length a.bytes.items ≡ length a.marks.items * a.shape.sector
  -- the memory of a full chunk
  pub room_for_bytes : a.shape.clba * a.shape.sector ≤ vec_capacity a.bytes
  pub room_for_marks : a.shape.clba ≤ vec_capacity a.marks
