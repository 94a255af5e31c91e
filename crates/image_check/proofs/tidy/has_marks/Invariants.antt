use Rattle.std.proofs.Common.{◌≡◌, ℕ, ◌+◌, ◌<◌, Some}
use Rattle.std.specs.List.{slice_get}
use Rattle.pblk_model.specs.Chunk.{Block}
use Rattle.pblk_model.specs.Image.{block_at}
use Rattle.image_check.proofs.tidy.has_marks.Given as goal

abbrev pub invariant-loop-data : goal.invariant-loop-data
invariant-loop-data l = (k : ℕ) (b : Block) → k < l.data → block_at l.line.image l.line.number (l.start + k) ≡ Some b → slice_get l.pairs k ≡ Some b.mark
