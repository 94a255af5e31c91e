-- Records without their sectors, and tables of them by number.
use Rattle.std.specs.Prelude.{ℕ, ◌+◌, ◌≡◌, ◌==◌, ◌&&◌, nat_lt, Bool, false, List, [], map, Option, Some, None}
use Rattle.std.specs.List.{find}
use Rattle.std.specs.Option.{option_and_then}
use Rattle.pblk_model.specs.StartRecord.{Row, StartRecord}
use Rattle.pblk_model.specs.Records.{Record}
use Rattle.pblk_model.specs.Contents.{is_borne}
use Rattle.scan_recovery.specs.declared.trace.Trace.{Trace}

-- what a trace says of a record, all but its sector
abbrev pub bare : Trace → Record
bare t = record { line = t.line; seq = t.seq; at = t.at; position = t.position; lba = t.lba; sector = [] }

abbrev pub bares : List Trace → List Record
bares ts = map bare ts

-- a record but for its sector
abbrev pub without_sector : Record → Record
without_sector r = record { line = r.line; seq = r.seq; at = r.at; position = r.position; lba = r.lba; sector = [] }

-- these are the records' traces
abbrev pub AreTraces : List Trace → List Record → Type 0
AreTraces ts rs = bares ts ≡ map without_sector rs

-- whether records bear the position that lies so far behind a head's front
abbrev pub borne_at : List Record → StartRecord → ℕ → Bool
borne_at rs h k = is_borne rs h (h.front + k)

-- a head's row of a line
abbrev pub head_row : Option StartRecord → ℕ → Option Row
head_row o line = option_and_then (λ h. find (λ row. row.line == line) h.rows) o

-- whether a row is for a record's sequence number and bounds its position
abbrev pub is_below_row : Option Row → Record → Bool
is_below_row None r = false
is_below_row (Some row) r = (row.seq == r.seq) && nat_lt r.position row.bound
