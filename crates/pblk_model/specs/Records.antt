-- What the written blocks of an image bear.
use Rattle.std.specs.Prelude.{ℕ, ◌-◌, ◌*◌, ◌==◌, if◌then◌else◌, nat_lt, List, [], Option, Some, None, slice_get}
use Rattle.std.specs.List.{filter_map, flat_map, range_with_len}
use Rattle.std.specs.Option.{option_and_then, option_map}
use Rattle.pblk_model.specs.declared.shape.Shape.{Shape}
use Rattle.pblk_model.specs.declared.chunk.Mark.{Mark}
use Rattle.pblk_model.specs.Chunk.{Block}
use Rattle.pblk_model.specs.LineOrder.{start_len}
use Rattle.pblk_model.specs.Marks.{void_lba}
use Rattle.pblk_model.specs.Image.{Image, width, block_at}
use Rattle.pblk_model.specs.StartRecord.{StartRecord, start_of}
use Rattle.pblk_model.specs.EndRecord.{EndRecord, end_of}

pub record Record : Type 0 where
  pub line : ℕ
  -- the line's sequence number
  pub seq : ℕ
  -- the line address of the block
  pub at : ℕ
  pub position : ℕ
  -- the sector whose content the block holds; none where its mark is Void
  pub lba : Option ℕ
  pub sector : List ℕ

-- What a mark says: a sector; no sector, where it is Void; and with any other mark there is no record.
abbrev pub named : Shape → Mark → Option (Option ℕ)
named s m = if nat_lt m.lba s.capacity then Some (Some m.lba) else (if m.lba == void_lba then Some None else None)

-- The mark that counts for a written block. Without a whole end record it is the block's own; with one it is
-- the block's pair there, and blocks before the data have none.
abbrev pub mark_at : Shape → Option EndRecord → ℕ → Block → Option Mark
mark_at s None a block = Some block.mark
mark_at s (Some end_record) a block = if nat_lt a (start_len s) then None else slice_get end_record.pairs (a - start_len s)

abbrev pub bears : Shape → ℕ → ℕ → ℕ → Block → Mark → Option Record
bears s line seq a block m = option_map (λ lba. record { line = line; seq = seq; at = a; position = m.position; lba = lba; sector = block.sector }) (named s m)

-- the record of the block at a line address, if it is written and bears one
abbrev pub record_at : Image → ℕ → StartRecord → ℕ → Option Record
record_at i line start a = option_and_then
    (λ block. option_and_then (bears i.shape line start.seq a block) (mark_at i.shape (end_of i line start) a block))
    (block_at i line a)

-- the records of a line, in line order: none without a whole start record
abbrev pub records_after : Image → ℕ → Option StartRecord → List Record
records_after i line None = []
records_after i line (Some start) = filter_map (record_at i line start) (range_with_len 0 (width i line * i.shape.clba))

abbrev pub line_records : Image → ℕ → List Record
line_records i line = records_after i line (start_of i line)

-- all records, by line
abbrev pub records : Image → List Record
records i = flat_map (line_records i) (range_with_len 0 i.shape.chunks)
