-- The block that a record which counts is of, and what a sector with a winner holds.
use Rattle.std.proofs.Common.{◌≡◌, ℕ, ◌+◌, ◌*◌, ◌<◌, Some, None, Option, List, refl, ap, ◌∙◌, arith}
use Rattle.std.specs.Prelude.{slice_get, ⊤}
use Rattle.std.specs.List.{AllByRecursion, Contains, filter, range_with_len}
use Rattle.std.specs.Option.{IfSome, option_and_then, option_map_or}
use Rattle.std.proofs.lemmas.Option.{slice_get-map}
use Rattle.pblk_model.specs.Bytes.{zeros}
use Rattle.pblk_model.specs.Chunk.{Block}
use Rattle.pblk_model.specs.Contents.{head, counts, end_after, counted, counted_after, winner, sector_of, contents}
use Rattle.pblk_model.specs.EndRecord.{end_of}
use Rattle.pblk_model.specs.Image.{Image, width, block_at}
use Rattle.pblk_model.specs.Records.{Record, named, mark_at, bears, record_at, records_after, line_records, records}
use Rattle.pblk_model.specs.StartRecord.{StartRecord, start_of}
use Rattle.pblk_model.proofs.Lists.{all_contains, all_everywhere, contains_none}
use Rattle.pblk_model.proofs.Maps.{all_filter, all_filter_map, all_flat_map, range_get}
use Rattle.world_laws.proofs.WinnerLines.{if_map, if_then}

-- ---- the block of a record

-- it stands at the record's address, and holds its sector
pub record HasBlock (j : Image) (r : Record) : Type 0 where
  pub block : Block
  pub there : block_at j r.line r.at ≡ Some block
  pub sector : block.sector ≡ r.sector

record_block : (j : Image) (line : ℕ) (start : StartRecord) (a : ℕ) → IfSome (record_at j line start a) (HasBlock j)
record_block j line start a = go (block_at j line a) refl
  where
    go : (o : Option Block) → block_at j line a ≡ o
        → IfSome (option_and_then (λ block. option_and_then (bears j.shape line start.seq a block) (mark_at j.shape (end_of j line start) a block)) o)
        (HasBlock j)
    go None e = tt
    go (Some block) e = if_then (HasBlock j) (bears j.shape line start.seq a block) (mark_at j.shape (end_of j line start) a block)
        (λ m. if_map (HasBlock j) _ (named j.shape m) (λ lba. record { block = block; there = e; sector = refl }))

line_blocks : (j : Image) (line : ℕ) (o : Option StartRecord) → AllByRecursion (HasBlock j) (records_after j line o)
line_blocks j line None = tt
line_blocks j line (Some start) =
    all_filter_map (HasBlock j) (λ (a : ℕ). ⊤) (record_at j line start) (range_with_len 0 (width j line * j.shape.clba))
    (λ a any. record_block j line start a) (all_everywhere (λ (a : ℕ). ⊤) (range_with_len 0 (width j line * j.shape.clba)) (λ a. tt))

pub counted_block : (j : Image) (r : Record) → Contains (counted j) r → HasBlock j r
counted_block j r there = go (head j) there
  where
    go : (o : Option StartRecord) → Contains (counted_after (records j) o) r → HasBlock j r
    go None there = absurd (contains_none r there)
    go (Some h) there = all_contains (HasBlock j) (filter (counts h (end_after (records j) (Some h))) (records j)) r
        (all_filter (HasBlock j) (counts h (end_after (records j) (Some h))) (records j)
        (all_flat_map (HasBlock j) (line_records j) (range_with_len 0 j.shape.chunks) (λ line. line_blocks j line (start_of j line)))) there

-- ---- a sector of the contents

pub contents_at : (j : Image) (lba : ℕ) → lba < j.shape.capacity → slice_get (contents j) lba ≡ Some (sector_of j lba)
contents_at j lba inside =
    slice_get-map (sector_of j) (range_with_len 0 j.shape.capacity) lba
    ∙ ap mapped (range_get 0 j.shape.capacity lba inside)
    ∙ (let same : 0 + lba ≡ lba = omega arith in ap (λ n. Some (sector_of j n)) same)
  where
    mapped : Option ℕ → Option (List ℕ)
    mapped None = None
    mapped (Some n) = Some (sector_of j n)

pub winner_holds : (j : Image) (lba : ℕ) (r : Record) → lba < j.shape.capacity → winner (counted j) lba ≡ Some r → slice_get (contents j) lba ≡ Some r.sector
winner_holds j lba r inside wins =
    contents_at j lba inside ∙ ap (λ o. Some (option_map_or (λ (x : Record). x.sector) o (zeros j.shape.sector))) wins
