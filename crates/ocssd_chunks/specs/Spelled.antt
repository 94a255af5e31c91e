-- Blocks of which each is spelled as its sector and then its mark.
use Rattle.std.specs.Prelude.{ℕ, ◌*◌, ◌++◌, ◌≡◌, List, length}
use Rattle.std.specs.List.{flat_map}
use Rattle.pblk_model.specs.declared.chunk.Mark.{Mark}
use Rattle.pblk_model.specs.Blocks.{blocks_in, blocks_of}
use Rattle.pblk_model.specs.Chunk.{Block}
use Rattle.pblk_model.specs.ImageFile.{block_bytes}

-- these blocks, so many, are spelled so
pub record AreSpelled (count : ℕ) (spelled : List ℕ) (blocks : List Block) : Type 0 where
  pub count_is : length blocks ≡ count
  pub spelling : flat_map block_bytes blocks ≡ spelled

-- the sectors and the marks of the blocks that bytes begin with, so many, were added at the ends of two lists
pub record AddsSpelled (size count : ℕ) (spelled old_bytes new_bytes : List ℕ) (old_marks new_marks : List Mark) : Type 0 where
  pub bytes : List ℕ
  pub marks : List Mark
  pub bytes_added : new_bytes ≡ old_bytes ++ bytes
  pub marks_added : new_marks ≡ old_marks ++ marks
  pub whole : length bytes ≡ count * size
  pub many : length marks ≡ count
  pub blocks : blocks_of size bytes marks ≡ blocks_in size count spelled
