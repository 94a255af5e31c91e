-- Lemmas on the words of Placing.
use Rattle.std.proofs.Common.{List, length, replicate, ℕ, ◌∙◌, ◌≡◌}
use Rattle.pblk_model.proofs.Lists.{length_replicate}
use Rattle.pblk_model.proofs.BlocksLemmas.{length-blocks_of}
use Rattle.pblk_model.specs.Marks.{meta_mark}
use Rattle.pblk_model.specs.declared.shape.Shape.{Shape}
use Rattle.pblk_world.specs.Placing.{record_blocks}

pub length_record : (s : Shape) (seq count : ℕ) (bytes : List ℕ) → length (record_blocks s seq count bytes) ≡ count
length_record s seq count bytes = length-blocks_of s.sector bytes (replicate count (meta_mark seq)) ∙ length_replicate count (meta_mark seq)
