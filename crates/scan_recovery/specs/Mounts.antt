-- The head's mount: which records count wherever its positions end, and which by where they do.
use Rattle.std.specs.Prelude.{ℕ, ◌<◌, ◌≡◌, ◌&&◌, if◌then◌else◌, not, nat_lt, nat_le, Bool, false, List, [], length, Option, Some, None}
use Rattle.std.specs.List.{AllByRecursion, filter}
use Rattle.std.specs.Option.{option_map, IfSome}
use Rattle.pblk_model.specs.declared.shape.Shape.{Shape}
use Rattle.pblk_model.specs.declared.chunk.Mark.{Mark}
use Rattle.pblk_model.specs.StartRecord.{StartRecord as HeadRecord}
use Rattle.pblk_model.specs.Records.{Record, named}
use Rattle.pblk_model.specs.Image.{Image}
use Rattle.pblk_model.specs.Contents.{head}
use Rattle.pblk_meta.specs.Records.{start_numbers}
use Rattle.scan_recovery.specs.declared.mount.Mount.{Mount}
use Rattle.scan_recovery.specs.declared.counting.Count.{Count}
use Rattle.scan_recovery.specs.Tally.{AreRows, HasStartFits, IsTally}
use Rattle.scan_recovery.specs.Traces.{bares, head_row, is_below_row}

-- the head's numbers
abbrev pub head_of : Mount → Option HeadRecord
head_of m = option_map start_numbers m.head

-- its numbers are those of some line, and its rows stand by line
pub record IsMount (m : Mount) : Type 0 where
  pub fits : IfSome m.head HasStartFits
  pub rows : AreRows (head_of m) m.rows.items

-- it is the mount of the head of an image
pub record IsMountOf (i : Image) (m : Mount) : Type 0 where
  pub mount : IsMount m
  pub lines : length m.rows.items ≡ i.shape.chunks
  pub head_is : head_of m ≡ head i

-- whether a record counts wherever the positions of the mount end
abbrev pub is_settled : Option HeadRecord → Record → Bool
is_settled None r = false
is_settled (Some h) r = if nat_le h.first_seq r.seq then nat_lt r.position h.front else is_below_row (head_row (Some h) r.line) r

-- whether it is one of the mount, at or past the head's front
abbrev pub is_late : Option HeadRecord → Record → Bool
is_late None r = false
is_late (Some h) r = nat_le h.first_seq r.seq && not (nat_lt r.position h.front)

-- what these records come to before it is known where the positions end
pub record IsCount (sectors lines : ℕ) (o : Option HeadRecord) (rs : List Record) (c : Count) : Type 0 where
  pub tally : IsTally sectors lines (filter (is_settled o) rs) c.tally
  pub late : bares c.late.items ≡ filter (is_late o) rs
  pub within : AllByRecursion (λ t. t.line < lines) c.late.items

-- the record, but for its sector, of a block that counts with this mark
abbrev pub marked : Shape → ℕ → ℕ → ℕ → Mark → Option Record
marked s line seq at m =
    option_map (λ lba. record { line = line; seq = seq; at = at; position = m.position; lba = lba; sector = [] }) (named s m)
