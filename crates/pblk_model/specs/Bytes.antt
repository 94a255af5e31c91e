-- Numbers as little-endian bytes, and runs of zeros.
use Rattle.std.specs.Prelude.{ℕ, ◌-◌, List, ◌++◌, length, take, drop, replicate}
use Rattle.std.specs.Int.{Width, w16, w32, w64, byte_len, to_le_bytes, from_le_bytes}

abbrev pub le16 : ℕ → List ℕ
le16 n = to_le_bytes w16 n

abbrev pub le32 : ℕ → List ℕ
le32 n = to_le_bytes w32 n

abbrev pub le64 : ℕ → List ℕ
le64 n = to_le_bytes w64 n

unfoldable pub zeros : ℕ → List ℕ
zeros n = replicate n 0

-- the number of this width that stands at an offset
abbrev pub number_at : Width → ℕ → List ℕ → ℕ
number_at w offset bytes = from_le_bytes w (take (byte_len w) (drop offset bytes))

-- the bytes, and zeros after them up to a length
abbrev pub padded_to : ℕ → List ℕ → List ℕ
padded_to n bytes = bytes ++ zeros (n - length bytes)
