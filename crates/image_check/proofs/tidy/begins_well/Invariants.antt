use Rattle.std.proofs.Common.{◌≡◌, ℕ, ◌<◌, Some}
use Rattle.pblk_model.specs.Chunk.{Chunk}
use Rattle.pblk_model.specs.Image.{width}
use Rattle.pblk_laws.specs.LineBlocks.{chunk_in}
use Rattle.image_check.specs.Tidying.{BeginsWithin}
use Rattle.image_check.proofs.tidy.begins_well.Given as goal

abbrev pub invariant-loop-unit : goal.invariant-loop-unit
invariant-loop-unit l = (u : ℕ) (c : Chunk) → u < l.unit → chunk_in l.line.image l.line.number u ≡ Some c
    → BeginsWithin (width l.line.image l.line.number) c → ⊥
