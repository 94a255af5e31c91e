-- What contracts see of a chunk.
use Rattle.pblk_model.specs.declared.shape.Shape.{Shape}
use Rattle.pblk_model.specs.Chunk.{Chunk}

-- a chunk, with the shape of its drive
pub record DriveChunk : Type 0 where
  pub shape : Shape
  pub chunk : Chunk
