-- What is found of the lines of an image, one after another.
use Rattle.std.specs.Prelude.{ℕ, ◌≡◌, not, Bool, List, map}
use Rattle.std.specs.List.{flat_map, range_with_len}
use Rattle.std.specs.Option.{option_map}
use Rattle.pblk_model.specs.Image.{Image}
use Rattle.pblk_model.specs.StartRecord.{start_of}
use Rattle.pblk_model.specs.Records.{Record, line_records}
use Rattle.pblk_model.specs.Contents.{head}
use Rattle.pblk_world.specs.Lines.{are_empty}
use Rattle.world_laws.specs.Finding.{is_full}
use Rattle.scan_recovery.specs.declared.counting.Count.{Count}
use Rattle.scan_recovery.specs.declared.starts.LineStart.{LineStart}
use Rattle.scan_recovery.specs.declared.survey.SeenLine.{SeenLine}
use Rattle.scan_recovery.specs.declared.survey.Survey.{Survey}
use Rattle.scan_recovery.specs.Mounts.{IsCount}
use Rattle.scan_recovery.specs.Starts.{line_start}
use Rattle.scan_recovery.specs.Traces.{without_sector}
use Rattle.pblk_model.specs.Tables.{IsTable}

-- a line's sequence number, whether its end record is whole, and whether a chunk of it is neither
-- Free nor Offline
unfoldable pub seen_line : Image → ℕ → SeenLine
seen_line i line = record { seq = option_map (λ r. r.seq) (start_of i line); full = is_full i line; used = not (are_empty i line) }

-- this is what a line's front tells, and this says whether its end record is whole
pub record IsSeen (i : Image) (line : ℕ) (start : LineStart) (full : Bool) : Type 0 where
  pub start_is : start ≡ line_start i line
  pub full_is : full ≡ is_full i line

-- the records of the first n lines, but for their sectors
abbrev pub records_before : Image → ℕ → List Record
records_before i n = map without_sector (flat_map (line_records i) (range_with_len 0 n))

-- what the records of the first n lines come to
abbrev pub IsCountTo : Image → ℕ → Count → Type 0
IsCountTo i n c = IsCount i.shape.capacity i.shape.chunks (head i) (records_before i n) c

-- the first n lines
pub record IsSurvey (i : Image) (n : ℕ) (v : Survey) : Type 0 where
  pub lines : IsTable n (seen_line i) v.lines.items
  pub count : IsCountTo i n v.count
