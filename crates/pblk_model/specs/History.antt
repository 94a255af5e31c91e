-- A history is a list of sector writes, in the order of their positions.
use Rattle.std.specs.Prelude.{ℕ, ◌/◌, List, slice_set, length, nat_lt}
use Rattle.std.specs.List.{fold, filter, repeat}
use Rattle.pblk_model.specs.Bytes.{le64}

pub record SectorWrite : Type 0 where
  pub lba : ℕ
  pub sector : List ℕ

-- the user sectors after one write, and after a history
abbrev pub after_write : List (List ℕ) → SectorWrite → List (List ℕ)
after_write sectors w = slice_set sectors w.lba w.sector

abbrev pub after : List (List ℕ) → List SectorWrite → List (List ℕ)
after sectors history = fold after_write sectors history

-- how many lines of a history are below a position, where these are the lines' positions
abbrev pub users : List ℕ → ℕ → ℕ
users positions p = length (filter (λ q. nat_lt q p) positions)

-- the sector of a tag: the tag as eight bytes, again and again
unfoldable pub tag_sector : ℕ → ℕ → List ℕ
tag_sector size tag = repeat (size / 8) (le64 tag)
