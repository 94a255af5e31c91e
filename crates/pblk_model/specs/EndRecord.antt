-- The end record of a full line: the marks of its data, together (this project's own format).
use Rattle.std.specs.Prelude.{ℕ, zero, suc, ◌-◌, ◌*◌, if◌then◌else◌, List, [], ◌∷◌, ◌++◌, length, drop, Option, Some, None}
use Rattle.std.specs.List.{flat_map}
use Rattle.std.specs.Option.{option_and_then}
use Rattle.std.specs.Str.{bytes_eq}
use Rattle.std.specs.Int.{w64}
use Rattle.pblk_model.specs.declared.shape.Shape.{Shape}
use Rattle.pblk_model.specs.declared.chunk.Mark.{Mark}
use Rattle.pblk_model.specs.Bytes.{le16, le32, le64, zeros, number_at, padded_to}
use Rattle.pblk_model.specs.LineOrder.{end_len, data_len}
use Rattle.pblk_model.specs.Image.{Image, width}
use Rattle.pblk_model.specs.StartRecord.{StartRecord, magic, written_run, have_meta}

pub record EndRecord : Type 0 where
  pub line : ℕ
  pub width : ℕ
  pub seq : ℕ
  -- the marks of the line's data, in line order
  pub pairs : List Mark

abbrev pub pair_bytes : Mark → List ℕ
pair_bytes m = le64 m.lba ++ le64 m.position

-- the record's one spelling, in the blocks of a line's end
abbrev pub end_bytes : Shape → EndRecord → List ℕ
end_bytes s r = padded_to (end_len s r.width * s.sector)
    (le32 magic ++ le16 1 ++ le16 2 ++ le32 r.line ++ le32 r.width ++ le64 r.seq ++ le32 (length r.pairs) ++ zeros 4
    ++ flat_map pair_bytes r.pairs)

unfoldable pub pairs_in : ℕ → List ℕ → List Mark
pairs_in zero bytes = []
pairs_in (suc n) bytes = record { lba = number_at w64 0 bytes; position = number_at w64 8 bytes } ∷ pairs_in n (drop 16 bytes)

-- the record of a line of this width and sequence number whose marks stand at their places
abbrev pub end_in : Shape → ℕ → ℕ → ℕ → List ℕ → EndRecord
end_in s line g seq b = record { line = line; width = g; seq = seq; pairs = pairs_in (data_len s g) (drop 32 b) }

-- the record that the bytes spell, if they spell one; its marks may be any numbers
abbrev pub read_end : Shape → ℕ → ℕ → ℕ → List ℕ → Option EndRecord
read_end s line g seq bytes = if bytes_eq (end_bytes s (end_in s line g seq bytes)) bytes then Some (end_in s line g seq bytes) else None

-- The end record of a line with this start record, where it is whole: all its blocks are written and have the
-- line's mark, and their bytes spell it.
abbrev pub end_of : Image → ℕ → StartRecord → Option EndRecord
end_of i line start = option_and_then
    (λ blocks. if have_meta start.seq blocks then read_end i.shape line (width i line) start.seq (flat_map (λ b. b.sector) blocks) else None)
    (written_run i line (width i line * i.shape.clba - end_len i.shape (width i line)) (end_len i.shape (width i line)))
