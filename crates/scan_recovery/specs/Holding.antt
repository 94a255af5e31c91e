-- When contents are those of an image.
use Rattle.std.specs.Prelude.{ℕ, ◌≡◌, Bool, List, length}
use Rattle.std.specs.List.{filter, list_any, range_with_len}
use Rattle.std.specs.Option.{is_some, option_map}
use Rattle.pblk_model.specs.Image.{Image}
use Rattle.pblk_model.specs.StartRecord.{StartRecord}
use Rattle.pblk_model.specs.Records.{Record}
use Rattle.pblk_model.specs.Contents as model
use Rattle.scan_recovery.specs.declared.sectors.Contents.{Contents}
use Rattle.scan_recovery.specs.declared.sectors.Head.{Head}
use Rattle.scan_recovery.specs.declared.sectors.Summary.{Summary}

-- the line and the sequence number of a start record
abbrev pub head_of : StartRecord → Head
head_of start = record { line = start.line; seq = start.seq }

-- whether one of the records is of the sector
abbrev pub has_record : List Record → ℕ → Bool
has_record records lba = list_any (λ r. model.is_of lba r.lba) records

-- how many counted records have a sector
abbrev pub counted_count : Image → ℕ
counted_count i = length (filter (λ r. is_some r.lba) (model.counted i))

-- how many sectors have a counted record
abbrev pub live_count : Image → ℕ
live_count i = length (filter (has_record (model.counted i)) (range_with_len 0 i.shape.capacity))

-- what the image holds, but for the sectors
abbrev pub summary_in : Image → Summary
summary_in i = record {
  end = model.end i;
  counted = counted_count i;
  live = live_count i;
  head = option_map head_of (model.head i);
}

-- this is the summary of the image
pub record IsSummaryOf (i : Image) (s : Summary) : Type 0 where
  pub end : s.end ≡ model.end i
  pub counted : s.counted ≡ counted_count i
  pub live : s.live ≡ live_count i
  pub head : s.head ≡ option_map head_of (model.head i)

-- these contents are those of the image
pub record IsContentsOf (i : Image) (c : Contents) : Type 0 where
  pub sectors : c.sectors ≡ model.contents i
  pub end : c.end ≡ model.end i
