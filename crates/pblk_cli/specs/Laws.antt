-- What the laws on runs speak of beside them.
use Rattle.std.specs.Prelude.{List}
use Rattle.pblk_model.specs.ImageFile.{Drive, StoredChunk}

-- a drive of the same numbers, with these chunks
abbrev pub with_units : List (List StoredChunk) → Drive → Drive
with_units units d = record { geometry = d.geometry; sector = d.sector; capacity = d.capacity; ring = d.ring; units = units }
