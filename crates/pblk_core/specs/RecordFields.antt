-- What the fields of a line's records stand for, and what they keep.
use Rattle.std.specs.Prelude.{◌*◌, ◌≤◌, ◌≡◌, true, length, take, vec_capacity}
use Rattle.pblk_model.specs.Accepted.{IsAccepted}
use Rattle.pblk_model.specs.Shape.{units}
use Rattle.pblk_model.specs.LineOrder.{start_len, end_len, data_len}
use Rattle.pblk_model.specs.EndRecord.{end_bytes}
use Rattle.pblk_core.specs.LineRecords.{RecordsView, end_record_of}
use Rattle.pblk_core.specs.declared.records.LineRecords.TheInside.{Inside}

abbrev pub records : Inside → RecordsView
records a = record {
  shape = a.layout;
  line = a.line;
  width = a.width;
  seq = a.seq;
  start = a.start.items;
  marks = a.marks.items;
}

pub record AreRecords (a : Inside) : Type 0 where
  pub accepted : IsAccepted a.layout
  pub width : a.width ≤ units a.layout
  pub start : length a.start.items ≡ start_len a.layout * a.layout.sector
  pub few : length a.marks.items ≤ data_len a.layout a.width
  -- the memory of the widest line's marks and end record
  pub room_for_marks : units a.layout * a.layout.clba ≤ vec_capacity a.marks
  pub room_for_end : length a.end.items ≡ end_len a.layout (units a.layout) * a.layout.sector
  pub written : a.has_end ≡ true
      → take (end_len a.layout a.width * a.layout.sector) a.end.items ≡ end_bytes a.layout (end_record_of (records a))
