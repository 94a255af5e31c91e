use Rattle.std.proofs.Common.{◌≡◌, ◌≢◌, ℕ, ◌<◌, Some}
use Rattle.pblk_model.specs.declared.chunk.ChunkState.TheVariants.{Open}
use Rattle.pblk_model.specs.Chunk.{Chunk}
use Rattle.pblk_laws.specs.LineBlocks.{chunk_in}
use Rattle.image_check.proofs.tidy.is_closed.Given as goal

abbrev pub invariant-loop-unit : goal.invariant-loop-unit
invariant-loop-unit l = (u : ℕ) (c : Chunk) → u < l.unit → chunk_in l.line.image l.line.number u ≡ Some c → c.state ≢ Open
