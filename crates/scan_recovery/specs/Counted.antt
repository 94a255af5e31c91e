-- What all records come to, once it is known where the positions of the head's mount end.
use Rattle.std.specs.Prelude.{ℕ, ◌++◌, ◌≡◌, nat_lt, Bool, List, map, Option}
use Rattle.std.specs.List.{filter}
use Rattle.std.specs.Option.{option_map}
use Rattle.pblk_model.specs.StartRecord.{StartRecord as HeadRecord}
use Rattle.pblk_model.specs.Image.{Image}
use Rattle.pblk_model.specs.Records.{Record}
use Rattle.pblk_model.specs.Contents.{counted, end, end_after}
use Rattle.world_laws.specs.Finding.{top_of}
use Rattle.scan_recovery.specs.declared.counting.Counted.{Counted}
use Rattle.scan_recovery.specs.Held.{thin_winner}
use Rattle.scan_recovery.specs.Holding.{counted_count}
use Rattle.scan_recovery.specs.Mounts.{is_late, is_settled}
use Rattle.scan_recovery.specs.Tally.{IsTally}
use Rattle.scan_recovery.specs.Traces.{bare}
use Rattle.pblk_model.specs.Tables.{IsTable}

-- whether a record's position is below the end
abbrev pub is_below : ℕ → Record → Bool
is_below end r = nat_lt r.position end

-- the records that count, those that are late behind the others
abbrev pub noted : Option HeadRecord → ℕ → List Record → List Record
noted o end rs = filter (is_settled o) rs ++ filter (is_below end) (filter (is_late o) rs)

-- the end by the late ones of these records, and the tally of those that count by it
pub record IsCountedOf (sectors lines : ℕ) (o : Option HeadRecord) (rs : List Record) (c : Counted) : Type 0 where
  pub end : c.end ≡ end_after (filter (is_late o) rs) o
  pub tally : IsTally sectors lines (noted o c.end rs) c.tally

-- what all records of an image come to
pub record IsCounted (i : Image) (c : Counted) : Type 0 where
  pub end : c.end ≡ end i
  pub winners : IsTable i.shape.capacity (thin_winner i) (map (option_map bare) c.tally.winners.items)
  pub tops : IsTable i.shape.chunks (top_of (counted i)) c.tally.tops.items
  pub named : c.tally.named ≡ counted_count i
