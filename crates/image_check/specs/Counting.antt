-- Rows that bound records.
use Rattle.std.specs.Prelude.{◌==◌, ◌&&◌, nat_lt, Bool}
use Rattle.pblk_model.specs.StartRecord.{Row}
use Rattle.pblk_model.specs.Records.{Record}

-- whether a row of a head is of the record's line and sequence number, and above its position
abbrev pub bounds : Record → Row → Bool
bounds r row = (row.line == r.line) && (row.seq == r.seq) && nat_lt r.position row.bound
