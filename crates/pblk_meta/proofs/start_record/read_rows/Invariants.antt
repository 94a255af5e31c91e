use Rattle.std.proofs.Common.{◌≡◌, ◌≤◌, ◌*◌, ◌-◌, ◌++◌, length, map}
use Rattle.pblk_model.specs.StartRecord.{rows_in}
use Rattle.pblk_meta.specs.Records.{row_numbers}
use Rattle.pblk_meta.specs.Headers.{rows_hold, with_rows}
use Rattle.pblk_meta.proofs.start_record.read_rows.Given as goal

abbrev pub invariant-loop : goal.invariant-loop
invariant-loop l = record {
  long : 24 * (l.header.rows - l.counter) ≤ length l.rest;
  rows : map row_numbers l.rows ++ rows_in (l.header.rows - l.counter) l.rest ≡ rows_in l.header.rows l.bytes;
  hold : rows_hold l.shape (with_rows l.header (rows_in l.header.rows l.bytes)) l.least (rows_in (l.header.rows - l.counter) l.rest) l.rest
      ≡ rows_hold l.shape (with_rows l.header (rows_in l.header.rows l.bytes)) 0 (rows_in l.header.rows l.bytes) l.bytes;
}
