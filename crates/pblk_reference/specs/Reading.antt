-- Names for the model's definitions whose bodies proofs see only where they ask for them.
use Rattle.std.specs.Prelude.{ℕ, ◌-◌, ◌*◌, List, Option, None, if◌then◌else◌}
use Rattle.std.specs.List.{filter_map, flat_map, fold, range_with_len}
use Rattle.std.specs.Option.{option_and_then}
use Rattle.pblk_model.specs.declared.shape.Shape.{Shape}
use Rattle.pblk_model.specs.Chunk.{Block}
use Rattle.pblk_model.specs.LineOrder.{end_len}
use Rattle.pblk_model.specs.Image.{Image, block_at}
use Rattle.pblk_model.specs.StartRecord.{StartRecord, start_in, read_start, start_of, written_run, have_meta}
use Rattle.pblk_model.specs.EndRecord.{EndRecord, end_in, read_end}
use Rattle.pblk_model.specs.Records.{Record, mark_at, bears, line_records}
use Rattle.pblk_model.specs.Contents.{later_start, sector_of}

unfoldable pub start_fields : List ℕ → StartRecord
start_fields bytes = start_in bytes

unfoldable pub start_read : Shape → ℕ → ℕ → List ℕ → Option StartRecord
start_read s line g bytes = read_start s line g bytes

unfoldable pub start_at : Image → ℕ → Option StartRecord
start_at i line = start_of i line

unfoldable pub end_fields : Shape → ℕ → ℕ → ℕ → List ℕ → EndRecord
end_fields s line g seq bytes = end_in s line g seq bytes

unfoldable pub end_read : Shape → ℕ → ℕ → ℕ → List ℕ → Option EndRecord
end_read s line g seq bytes = read_end s line g seq bytes

-- the blocks of the end of a line of this width
unfoldable pub end_run : Image → ℕ → ℕ → Option (List Block)
end_run i line g = written_run i line (g * i.shape.clba - end_len i.shape g) (end_len i.shape g)

-- and the record in them
unfoldable pub end_among : Shape → ℕ → ℕ → ℕ → List Block → Option EndRecord
end_among s line g seq blocks = if have_meta seq blocks then read_end s line g seq (flat_map (λ b. b.sector) blocks) else None

-- the record of the block at a line address, of a line with this sequence number and this end record
unfoldable pub record_with : Image → ℕ → ℕ → Option EndRecord → ℕ → Option Record
record_with i line seq end_record a =
    option_and_then (λ block. option_and_then (bears i.shape line seq a block) (mark_at i.shape end_record a block)) (block_at i line a)

unfoldable pub records_on : Image → ℕ → List Record
records_on i line = line_records i line

-- the head among the first n lines
unfoldable pub head_to : Image → ℕ → Option StartRecord
head_to i n = fold later_start None (filter_map (start_of i) (range_with_len 0 n))

unfoldable pub sector_at : Image → ℕ → List ℕ
sector_at i lba = sector_of i lba
