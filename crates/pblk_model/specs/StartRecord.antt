-- The start record of a line: which line it is, its sequence number, and what the mount that wrote it knew of
-- older lines (this project's own format).
use Rattle.std.specs.Prelude.{ℕ, zero, suc, ◌+◌, ◌-◌, ◌*◌, ◌^◌, ◌==◌, ◌&&◌, if◌then◌else◌, nat_lt, nat_le, Bool, true, not, List, [], ◌∷◌, ◌++◌, length, drop, Option, Some, None}
use Rattle.std.specs.List.{flat_map, list_all}
use Rattle.std.specs.Option.{option_and_then, option_map}
use Rattle.std.specs.Str.{bytes_eq}
use Rattle.std.specs.Int.{w32, w64}
use Rattle.pblk_model.specs.declared.shape.Shape.{Shape}
use Rattle.pblk_model.specs.Bytes.{le16, le32, le64, zeros, number_at, padded_to}
use Rattle.pblk_model.specs.Chunk.{Block}
use Rattle.pblk_model.specs.LineOrder.{start_len}
use Rattle.pblk_model.specs.Marks.{meta_lba}
use Rattle.pblk_model.specs.Image.{Image, width, block_at}

-- a line of an older mount: its sequence number, and the position below which its records count
pub record Row : Type 0 where
  pub line : ℕ
  pub seq : ℕ
  pub bound : ℕ

pub record StartRecord : Type 0 where
  pub line : ℕ
  pub width : ℕ
  pub seq : ℕ
  -- the first sequence number of the mount
  pub first_seq : ℕ
  -- below this position all had landed when the record was made
  pub front : ℕ
  pub capacity : ℕ
  pub rows : List Row

abbrev pub magic : ℕ
magic = 0x70626c6b

abbrev pub row_bytes : Row → List ℕ
row_bytes r = le32 r.line ++ zeros 4 ++ le64 r.seq ++ le64 r.bound

-- the record's one spelling, in the blocks of a line's front
abbrev pub start_bytes : Shape → StartRecord → List ℕ
start_bytes s r = padded_to (start_len s * s.sector)
    (le32 magic ++ le16 1 ++ le16 1 ++ le32 r.line ++ le32 r.width ++ le64 r.seq ++ le64 r.first_seq ++ le64 r.front
    ++ le64 r.capacity ++ le32 (length r.rows) ++ zeros 12 ++ flat_map row_bytes r.rows)

-- the lines rise from `least` on, and are below the number of lines and not the record's; each row is older
-- than the mount, and its bound is at most the front
abbrev pub rows_fit : Shape → StartRecord → ℕ → List Row → Bool
rows_fit s r least [] = true
rows_fit s r least (row ∷ rows) = nat_le least row.line && nat_lt row.line s.chunks && not (row.line == r.line)
    && nat_le 1 row.seq && nat_lt row.seq r.first_seq && nat_le row.bound r.front && rows_fit s r (row.line + 1) rows

-- the numbers of a record of this line, of this width
abbrev pub start_fits : Shape → ℕ → ℕ → StartRecord → Bool
start_fits s line g r = (r.line == line) && (r.width == g) && (r.capacity == s.capacity)
    && nat_le 1 r.first_seq && nat_le r.first_seq r.seq && nat_lt r.seq (2 ^ 61) && nat_lt r.front (2 ^ 61)
    && nat_le (length r.rows) (s.chunks - 1) && rows_fit s r 0 r.rows

-- the numbers that stand at the fields' places
unfoldable pub rows_in : ℕ → List ℕ → List Row
rows_in zero bytes = []
rows_in (suc n) bytes = record { line = number_at w32 0 bytes; seq = number_at w64 8 bytes; bound = number_at w64 16 bytes } ∷ rows_in n (drop 24 bytes)

abbrev pub start_in : List ℕ → StartRecord
start_in b = record {
  line = number_at w32 8 b;
  width = number_at w32 12 b;
  seq = number_at w64 16 b;
  first_seq = number_at w64 24 b;
  front = number_at w64 32 b;
  capacity = number_at w64 40 b;
  rows = rows_in (number_at w32 48 b) (drop 64 b);
}

-- the record that the bytes spell, if any
abbrev pub read_start : Shape → ℕ → ℕ → List ℕ → Option StartRecord
read_start s line g bytes = if start_fits s line g (start_in bytes) && bytes_eq (start_bytes s (start_in bytes)) bytes then Some (start_in bytes) else None

-- the blocks at n line addresses from a on, where all of them are written
unfoldable pub written_run : Image → ℕ → ℕ → ℕ → Option (List Block)
written_run i line a zero = Some []
written_run i line a (suc n) = option_and_then (λ block. option_map (λ blocks. block ∷ blocks) (written_run i line (a + 1) n)) (block_at i line a)

-- whether blocks have the mark of a record of this sequence number
abbrev pub have_meta : ℕ → List Block → Bool
have_meta seq blocks = list_all (λ b. (b.mark.lba == meta_lba) && (b.mark.position == seq)) blocks

abbrev pub marked_start : List Block → Option StartRecord → Option StartRecord
marked_start blocks None = None
marked_start blocks (Some r) = if have_meta r.seq blocks then Some r else None

-- The start record of a line, where it is whole: all its blocks are written and have its mark, and their bytes
-- spell it. A line has a sequence number exactly where it has one.
abbrev pub start_of : Image → ℕ → Option StartRecord
start_of i line = option_and_then (λ blocks. marked_start blocks (read_start i.shape line (width i line) (flat_map (λ b. b.sector) blocks)))
    (written_run i line 0 (start_len i.shape))
