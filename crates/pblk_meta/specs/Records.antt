-- The records of the code as the model's.
use Rattle.std.specs.Prelude.{ℕ, List, map}
use Rattle.std.specs.Int.{w32, w64}
use Rattle.pblk_model.specs.Bytes.{number_at}
use Rattle.pblk_model.specs.StartRecord.{Row as OlderLine, StartRecord as Start}
use Rattle.pblk_model.specs.EndRecord.{EndRecord as End}
use Rattle.pblk_meta.specs.declared.rows.Row.{Row}
use Rattle.pblk_meta.specs.declared.start_record.StartRecord.{StartRecord}
use Rattle.pblk_meta.specs.declared.end_record.EndRecord.{EndRecord}

abbrev pub row_numbers : Row → OlderLine
row_numbers r = record { line = r.line; seq = r.seq; bound = r.bound }

abbrev pub start_numbers : StartRecord → Start
start_numbers r = record {
  line = r.line;
  width = r.width;
  seq = r.seq;
  first_seq = r.first_seq;
  front = r.front;
  capacity = r.capacity;
  rows = map row_numbers r.rows;
}

abbrev pub end_numbers : EndRecord → End
end_numbers r = record { line = r.line; width = r.width; seq = r.seq; pairs = r.pairs }

-- the row whose numbers stand at their places
abbrev pub row_in : List ℕ → OlderLine
row_in b = record { line = number_at w32 0 b; seq = number_at w64 8 b; bound = number_at w64 16 b }
