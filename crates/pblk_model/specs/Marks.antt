-- The marks that name no sector. A sector's mark is its lba, below the capacity, and its position
-- (Bjørling, González, Bonnet, FAST 2017: addresses beside sectors; the three other kinds are this project's).
use Rattle.std.specs.Prelude.{ℕ, ◌-◌, ◌^◌}
use Rattle.pblk_model.specs.declared.chunk.Mark.{Mark}
use Rattle.pblk_model.specs.declared.shape.Shape.{Shape}
use Rattle.pblk_model.specs.Bytes.{zeros}
use Rattle.pblk_model.specs.Chunk.{Block}

abbrev pub pad_lba : ℕ
pad_lba = 2 ^ 64 - 1

abbrev pub void_lba : ℕ
void_lba = 2 ^ 64 - 2

abbrev pub meta_lba : ℕ
meta_lba = 2 ^ 64 - 3

abbrev pub sector_mark : ℕ → ℕ → Mark
sector_mark lba position = record { lba = lba; position = position }

-- of a copy that had become stale: its position bears no sector
abbrev pub void_mark : ℕ → Mark
void_mark position = record { lba = void_lba; position = position }

abbrev pub pad_mark : Mark
pad_mark = record { lba = pad_lba; position = 0 }

-- of the blocks of a start or end record of a line with this sequence number
abbrev pub meta_mark : ℕ → Mark
meta_mark seq = record { lba = meta_lba; position = seq }

-- what fills up a stripe
abbrev pub pad_block : Shape → Block
pad_block s = record { sector = zeros s.sector; mark = pad_mark }
