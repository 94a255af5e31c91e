-- The two records without what follows their headers.
use Rattle.std.specs.Prelude.{ℕ, ◌-◌, ◌*◌, ◌^◌, ◌==◌, ◌&&◌, if◌then◌else◌, nat_lt, nat_le, not, Bool, List, ◌++◌, length, take, Option, Some, None}
use Rattle.std.specs.List.{flat_map}
use Rattle.std.specs.Int.{w32, w64}
use Rattle.std.specs.Str.{bytes_eq}
use Rattle.pblk_model.specs.declared.shape.Shape.{Shape}
use Rattle.pblk_model.specs.Bytes.{le16, le32, le64, zeros, number_at}
use Rattle.pblk_model.specs.StartRecord.{Row as OlderLine, StartRecord as Start, magic, row_bytes, rows_fit, rows_in, read_start}
use Rattle.pblk_model.specs.EndRecord.{EndRecord as End, read_end}
use Rattle.pblk_meta.specs.declared.start_record.StartRecord.{StartRecord}
use Rattle.pblk_meta.specs.declared.start_header.StartHeader.{StartHeader}

unfoldable pub start_header : StartHeader → List ℕ
start_header h = le32 magic ++ le16 1 ++ le16 1 ++ le32 h.line ++ le32 h.width ++ le64 h.seq ++ le64 h.first_seq ++ le64 h.front
    ++ le64 h.capacity ++ le32 h.rows ++ zeros 12

-- the numbers at their places
abbrev pub header_in : List ℕ → StartHeader
header_in b = record {
  line = number_at w32 8 b;
  width = number_at w32 12 b;
  seq = number_at w64 16 b;
  first_seq = number_at w64 24 b;
  front = number_at w64 32 b;
  capacity = number_at w64 40 b;
  rows = number_at w32 48 b;
}

-- the record with this header and these rows
abbrev pub with_rows : StartHeader → List OlderLine → Start
with_rows h rows = record {
  line = h.line;
  width = h.width;
  seq = h.seq;
  first_seq = h.first_seq;
  front = h.front;
  capacity = h.capacity;
  rows = rows;
}

-- the header of a record that so many rows follow
abbrev pub header_of : StartRecord → ℕ → StartHeader
header_of r n = record {
  line = r.line;
  width = r.width;
  seq = r.seq;
  first_seq = r.first_seq;
  front = r.front;
  capacity = r.capacity;
  rows = n;
}

-- the numbers are those of a line of this width, and there are no more rows than other lines
abbrev pub header_fits : Shape → ℕ → ℕ → StartHeader → Bool
header_fits s line g h = (h.line == line) && (h.width == g) && (h.capacity == s.capacity)
    && nat_le 1 h.first_seq && nat_le h.first_seq h.seq && nat_lt h.seq (2 ^ 61) && nat_lt h.front (2 ^ 61)
    && nat_le h.rows (s.chunks - 1)

abbrev pub row_fits : Shape → StartHeader → ℕ → OlderLine → Bool
row_fits s h least row = nat_le least row.line && nat_lt row.line s.chunks && not (row.line == h.line)
    && nat_le 1 row.seq && nat_lt row.seq h.first_seq && nat_le row.bound h.front

-- the rows fit the record from `least` on, and the bytes begin with their spelling
unfoldable pub rows_hold : Shape → Start → ℕ → List OlderLine → List ℕ → Bool
rows_hold s r least rows bytes = rows_fit s r least rows && bytes_eq (flat_map row_bytes rows) (take (24 * length rows) bytes)

-- so many rows with this header that bytes spell, if they do
unfoldable pub rows_read : Shape → StartHeader → ℕ → List ℕ → Option (List OlderLine)
rows_read s h n bytes = if rows_hold s (with_rows h (rows_in n bytes)) 0 (rows_in n bytes) bytes then Some (rows_in n bytes) else None

unfoldable pub end_header : ℕ → ℕ → ℕ → ℕ → List ℕ
end_header line g seq count = le32 magic ++ le16 1 ++ le16 2 ++ le32 line ++ le32 g ++ le64 seq ++ le32 count ++ zeros 4

-- names for what the model reads, whose bodies proofs see only where they ask for them
unfoldable pub start_read : Shape → ℕ → ℕ → List ℕ → Option Start
start_read s line g bytes = read_start s line g bytes

unfoldable pub end_read : Shape → ℕ → ℕ → ℕ → List ℕ → Option End
end_read s line g seq bytes = read_end s line g seq bytes
