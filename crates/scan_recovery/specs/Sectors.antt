-- User sectors, as bytes one after another.
use Rattle.std.specs.Prelude.{ℕ, ◌+◌, ◌*◌, ◌≡◌, ◌⊎◌, List, length, map, slice_range}
use Rattle.std.specs.List.{range_with_len}

-- the sizes of a sector, in bytes
abbrev pub IsSectorSize : ℕ → Type 0
IsSectorSize size = (size ≡ 512) ⊎ (size ≡ 4096)

-- so many sectors of this size, by lba
abbrev pub sectors_in : ℕ → ℕ → List ℕ → List (List ℕ)
sectors_in size count bytes = map (λ lba. slice_range bytes (lba * size) (lba * size + size)) (range_with_len 0 count)

-- bytes are so many sectors of this size
pub record AreSectors (size count : ℕ) (bytes : List ℕ) : Type 0 where
  pub sized : IsSectorSize size
  pub whole : length bytes ≡ count * size
