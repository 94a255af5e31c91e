use Rattle.std.proofs.Common.{◌≡◌, ℕ, ◌<◌, Some, true}
use Rattle.pblk_model.specs.Chunk.{Chunk}
use Rattle.pblk_laws.specs.LineBlocks.{chunk_in}
use Rattle.pblk_world.specs.Tidy.{is_free_state}
use Rattle.image_check.proofs.tidy.is_free.Given as goal

abbrev pub invariant-loop-unit : goal.invariant-loop-unit
invariant-loop-unit l = (u : ℕ) (c : Chunk) → u < l.unit → chunk_in l.line.image l.line.number u ≡ Some c → is_free_state c.state ≡ true
