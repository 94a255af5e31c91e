-- The newest counted records, and the tops of lines.
use Rattle.std.specs.Prelude.{ℕ, ◌-◌, ◌^◌, ◌≡◌, min, true, List, length, map, Option}
use Rattle.std.specs.List.{filter}
use Rattle.std.specs.Option.{is_some, option_map}
use Rattle.pblk_model.specs.declared.shape.Shape.{Shape}
use Rattle.pblk_model.specs.StartRecord.{StartRecord as HeadRecord, start_fits}
use Rattle.pblk_model.specs.Records.{Record}
use Rattle.pblk_model.specs.Contents.{winner}
use Rattle.pblk_meta.specs.declared.start_record.StartRecord.{StartRecord}
use Rattle.pblk_meta.specs.declared.rows.Row.{Row}
use Rattle.pblk_meta.specs.Records.{row_numbers, start_numbers}
use Rattle.world_laws.specs.Finding.{top_of}
use Rattle.scan_recovery.specs.declared.counting.Tally.{Tally}
use Rattle.scan_recovery.specs.Traces.{bare, head_row}
use Rattle.pblk_model.specs.Tables.{IsTable}

-- the head's row of each line
abbrev pub AreRows : Option HeadRecord → List (Option Row) → Type 0
AreRows head rows = IsTable (length rows) (head_row head) (map (option_map row_numbers) rows)

-- how many of the records have a sector
abbrev pub named_count : List Record → ℕ
named_count rs = length (filter (λ r. is_some r.lba) rs)

-- the winner of each sector, the top of each line, and how many have a sector, of these records
pub record IsTally (sectors lines : ℕ) (rs : List Record) (t : Tally) : Type 0 where
  pub winners : IsTable sectors (winner rs) (map (option_map bare) t.winners.items)
  pub tops : IsTable lines (top_of rs) t.tops.items
  pub named : t.named ≡ min (named_count rs) (2 ^ 64 - 1)

-- its numbers are those of some line
pub record HasStartFits (h : StartRecord) : Type 0 where
  pub shape : Shape
  pub line : ℕ
  pub width : ℕ
  pub fits : start_fits shape line width (start_numbers h) ≡ true
