use Rattle.std.proofs.Common.{◌≡◌, ℕ, ◌<◌, Some}
use Rattle.pblk_model.specs.Chunk.{Chunk}
use Rattle.pblk_laws.specs.LineBlocks.{chunk_in}
use Rattle.pblk_world.specs.Tidy.{IsWholeChunk}
use Rattle.image_check.proofs.tidy.is_whole.Given as goal

abbrev pub invariant-loop-unit : goal.invariant-loop-unit
invariant-loop-unit l = (u : ℕ) (c : Chunk) → u < l.unit → chunk_in l.line.image l.line.number u ≡ Some c → IsWholeChunk l.line.image.shape c
