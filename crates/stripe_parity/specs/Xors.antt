-- Exclusive ors of blocks.
use Rattle.std.specs.Prelude.{ℕ, ◌==◌, if◌then◌else◌, List, [], ◌∷◌, length, replicate, Option, Some, None}
use Rattle.std.specs.List.{filter_map, fold, range_with_len}
use Rattle.std.specs.Int.Bits.{bit_xor}
use Rattle.pblk_model.specs.Chunk.{Block}
use Rattle.pblk_model.specs.declared.chunk.Mark.{Mark}
use Rattle.pblk_model.specs.Image.{Image}
use Rattle.pblk_laws.specs.LineBlocks.{written_at}

-- byte by byte
abbrev pub xor_bytes : List ℕ → List ℕ → List ℕ
xor_bytes [] ys = []
xor_bytes (x ∷ xs) [] = []
xor_bytes (x ∷ xs) (y ∷ ys) = bit_xor x y ∷ xor_bytes xs ys

abbrev pub xor_marks : Mark → Mark → Mark
xor_marks m n = record { lba = bit_xor m.lba n.lba; position = bit_xor m.position n.position }

-- of two blocks: of their sectors, and of both numbers of their marks
abbrev pub xor_block : Block → Block → Block
xor_block a b = record { sector = xor_bytes a.sector b.sector; mark = xor_marks a.mark b.mark }

abbrev pub zero_mark : Mark
zero_mark = record { lba = 0; position = 0 }

-- a block of zeros alone, with a sector of this size
abbrev pub zero_block : ℕ → Block
zero_block size = record { sector = replicate size 0; mark = zero_mark }

-- of some blocks, from a block on
abbrev pub xor_onto : Block → List Block → Block
xor_onto a blocks = fold xor_block a blocks

-- with a block, if there is one
abbrev pub xor_given : Block → Option Block → Block
xor_given a None = a
xor_given a (Some b) = xor_block a b

-- the exclusive or of blocks whose sectors have this size
abbrev pub xor_of : ℕ → List Block → Block
xor_of size blocks = xor_onto (zero_block size) blocks

-- a block of a chunk of a unit, where it is written, unless the unit is this one
abbrev pub written_but : Image → Option ℕ → ℕ → ℕ → ℕ → Option Block
written_but i None chunk block unit = written_at i chunk (unit, block)
written_but i (Some lost) chunk block unit = if unit == lost then None else written_at i chunk (unit, block)

-- the blocks with this number that the units have written in their chunk of this number, but for this unit
abbrev pub blocks_but : Image → Option ℕ → ℕ → ℕ → List Block
blocks_but i lost chunk block = filter_map (written_but i lost chunk block) (range_with_len 0 (length i.units))
