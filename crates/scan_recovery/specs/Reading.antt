-- What the blocks of a line are, read one after another: each is there where it is written.
use Rattle.std.specs.Prelude.{ℕ, ◌-◌, ◌*◌, ◌==◌, ◌&&◌, if◌then◌else◌, nat_lt, min, Bool, false, List, [], ◌∷◌, ◌++◌, length, map, take, drop, slice_get, Option, Some, None}
use Rattle.std.specs.List.{filter_map, flat_map, list_all, range_with_len}
use Rattle.std.specs.Option.{option_and_then, option_map, option_map_or}
use Rattle.pblk_model.specs.declared.shape.Shape.{Shape}
use Rattle.pblk_model.specs.Chunk.{Block}
use Rattle.pblk_model.specs.LineOrder.{start_len, end_len}
use Rattle.pblk_model.specs.Marks.{meta_lba}
use Rattle.pblk_model.specs.Image.{Image, width, block_at}
use Rattle.pblk_model.specs.StartRecord.{StartRecord, have_meta, marked_start, read_start}
use Rattle.pblk_model.specs.EndRecord.{EndRecord, read_end}
use Rattle.pblk_model.specs.declared.chunk.Mark.{Mark}
use Rattle.pblk_model.specs.Records.{Record, mark_at, record_at}
use Rattle.scan_recovery.specs.Traces.{without_sector}

-- the blocks of a line from a line address on
unfoldable pub blocks_at : Image → ℕ → ℕ → ℕ → List (Option Block)
blocks_at i line a n = map (block_at i line) (range_with_len a n)

-- how many blocks a line has, written or not
abbrev pub line_len : Image → ℕ → ℕ
line_len i line = width i line * i.shape.clba

-- those at its front, where its start record stands, and those at its end, where its end record does
abbrev pub front_blocks : Image → ℕ → List (Option Block)
front_blocks i line = blocks_at i line 0 (min (start_len i.shape) (line_len i line))

abbrev pub tail_blocks : Image → ℕ → List (Option Block)
tail_blocks i line = let from = line_len i line - end_len i.shape (width i line) in blocks_at i line from (line_len i line - from)

-- blocks that are all written
abbrev pub run_of : List (Option Block) → Option (List Block)
run_of [] = Some []
run_of (None ∷ bs) = None
run_of (Some b ∷ bs) = option_map (λ rest. b ∷ rest) (run_of bs)

-- and their sectors, one after another
abbrev pub sectors_of : List (Option Block) → Option (List ℕ)
sectors_of [] = Some []
sectors_of (None ∷ bs) = None
sectors_of (Some b ∷ bs) = option_map (λ rest. b.sector ++ rest) (sectors_of bs)

-- all are written and have the mark of a record of this sequence number
abbrev pub have_mark : ℕ → List (Option Block) → Bool
have_mark seq bs = list_all (λ o. option_map_or (λ b. (b.mark.lba == meta_lba) && (b.mark.position == seq)) o false) bs

-- the start record of a line of this width with these blocks
abbrev pub start_from : Shape → ℕ → ℕ → Option (List Block) → Option StartRecord
start_from s line g run = option_and_then (λ blocks. marked_start blocks (read_start s line g (flat_map (λ b. b.sector) blocks))) run

unfoldable pub start_among : Shape → ℕ → ℕ → List (Option Block) → Option StartRecord
start_among s line g bs = if nat_lt (length bs) (start_len s) then None else start_from s line g (run_of (take (start_len s) bs))

-- and its end record, where it has this sequence number
abbrev pub end_from : Shape → ℕ → ℕ → ℕ → Option (List Block) → Option EndRecord
end_from s line g seq run = option_and_then (λ blocks. if have_meta seq blocks then read_end s line g seq (flat_map (λ b. b.sector) blocks) else None) run

unfoldable pub end_among : Shape → ℕ → ℕ → ℕ → List (Option Block) → Option EndRecord
end_among s line g seq bs = if nat_lt (length bs) (end_len s g) then None else end_from s line g seq (run_of (drop (length bs - end_len s g) bs))

-- the mark that an end record has for a line address
abbrev pub pair_at : Shape → EndRecord → ℕ → Option Mark
pair_at s e a = if nat_lt a (start_len s) then None else slice_get e.pairs (a - start_len s)

-- the mark that the block at a line address counts with, if it is written and has one
abbrev pub mark_of : Image → ℕ → Option EndRecord → ℕ → Option Mark
mark_of i line e a = option_and_then (mark_at i.shape e a) (block_at i line a)

-- the records of the first n line addresses of a line with this start record, but for their sectors
abbrev pub records_to : Image → ℕ → StartRecord → ℕ → List Record
records_to i line start n = filter_map (λ a. option_map without_sector (record_at i line start a)) (range_with_len 0 n)
