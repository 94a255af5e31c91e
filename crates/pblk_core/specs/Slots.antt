-- What a call makes of an open line.
use Rattle.std.specs.Prelude.{ℕ, ◌-◌, ◌≡◌, List, [], ◌++◌, slice_get, Some}
use Rattle.pblk_model.specs.declared.chunk.Mark.{Mark}
use Rattle.pblk_model.specs.StartRecord.{StartRecord, start_bytes}
use Rattle.pblk_core.specs.LineRecords.{RecordsView}
use Rattle.pblk_core.specs.declared.open_lines.OpenLine.{OpenLine}
use Rattle.pblk_core.specs.declared.open_lines.OpenLines.{OpenLines}

-- it stands at this place
abbrev pub IsSlot : OpenLines → ℕ → OpenLine → Type 0
IsSlot kept k slot = slice_get kept.slots.items k ≡ Some slot

abbrev pub records_of_start : RecordsView → StartRecord → RecordsView
records_of_start r start = record {
  shape = r.shape;
  line = start.line;
  width = start.width;
  seq = start.seq;
  start = start_bytes r.shape start;
  marks = [];
}

-- opened with this start record
abbrev pub opened_slot : OpenLine → StartRecord → ℕ → ℕ → OpenLine
opened_slot slot start online left = record { records = records_of_start slot.records start; online = online; stripes_left = left }

-- with more marks of data
abbrev pub with_marks : OpenLine → List Mark → OpenLine
with_marks slot marks = record {
  records = record {
    shape = slot.records.shape;
    line = slot.records.line;
    width = slot.records.width;
    seq = slot.records.seq;
    start = slot.records.start;
    marks = slot.records.marks ++ marks;
  };
  online = slot.online;
  stripes_left = slot.stripes_left;
}

-- so many more stripes have landed, or won't land
abbrev pub answered_slot : ℕ → OpenLine → OpenLine
answered_slot count slot = record { records = slot.records; online = slot.online; stripes_left = slot.stripes_left - count }
