-- A batch, as contracts see it, and the rows of what is put.
use Rattle.std.specs.Prelude.{◌≡◌, ℕ, ◌+◌, ◌<◌, List, [], ◌∷◌, length}
use Rattle.std.specs.List.{AllByRecursion}
use Rattle.pblk_model.specs.Frames.{Region, FrameView}
use Rattle.sector_pool.specs.declared.entry.Class.{Class}
use Rattle.write_ring.specs.declared.view.Key.{Key}
use Rattle.write_ring.specs.declared.view.Row.{Row}
use Rattle.write_ring.specs.declared.view.View.{View}
use Rattle.write_ring.specs.declared.draft.Draft.{Draft}
use Rattle.write_ring.specs.Frames.{is_copy, HasSource}
use Rattle.write_ring.specs.Steps.{put_next}

-- for how many frames a batch has room, the region that they are of, those that are filled, the oldest first, and how many are free
pub record BatchView : Type 0 where
  pub count : ℕ
  pub region : Region
  pub drafts : List Draft
  pub free : ℕ

-- a filled frame of this region, with as many bytes as each of its frames has
abbrev pub IsDraft : Region → Draft → Type 0
IsDraft region d = (d.frame.region ≡ region) × (length d.frame.bytes ≡ region.size)

abbrev pub AreOwn : Region → List FrameView → Type 0
AreOwn region frames = AllByRecursion (λ (f : FrameView). f.region ≡ region) frames

-- what a frame may be filled with for an entry of this class
abbrev pub CanPut : Class → Key → Draft → Type 0
CanPut c key d = (d.lba < key.capacity) × HasSource (is_copy c) d.source

-- the row of a filled frame at a position
abbrev pub row_at : Class → ℕ → Draft → Row
row_at c at d = record { position = at; copy = is_copy c; lba = d.lba; source = d.source; sector = d.frame.bytes }

-- the rows of filled frames at the positions from `at` on
abbrev pub rows_from : Class → ℕ → List Draft → List Row
rows_from c at [] = []
rows_from c at (d ∷ ds) = row_at c at d ∷ rows_from c (at + 1) ds

-- what a seat knows once it has put them there
abbrev pub put_all : Class → View → ℕ → List Draft → View
put_all c v at [] = v
put_all c v at (d ∷ ds) = put_all c (put_next v (row_at c at d)) (at + 1) ds
