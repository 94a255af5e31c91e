-- What lies in the slots of a ring, and what of it the views keep.
use Rattle.std.specs.Prelude.{◌≡◌, ◌<◌, ℕ, List, [], ◌∷◌, Bool, true, false, length, Option, None, IsSome}
use Rattle.pblk_model.specs.Frames.{Region, FrameView}
use Rattle.sector_pool.specs.declared.entry.Class.{Class}
use Rattle.sector_pool.specs.declared.entry.Class.TheVariants as class
use Rattle.sector_pool.specs.declared.entry.Source.{Source}
use Rattle.sector_pool.specs.declared.entry.Entry.{Entry}
use Rattle.write_ring.specs.declared.view.Key.{Key}
use Rattle.write_ring.specs.declared.view.Row.{Row}
use Rattle.write_ring.specs.declared.cell.Cell.{Cell}
use Rattle.write_ring.specs.declared.cell.Cell.TheVariants as cell

abbrev pub is_copy : Class → Bool
is_copy class.User = false
is_copy class.Copy = true

abbrev pub entry_row : Entry → Row
entry_row e = record { position = e.position; copy = is_copy e.class; lba = e.lba; source = e.source; sector = e.frame.bytes }

-- a free frame of this region
abbrev pub IsFreeOf : Region → Cell → Type 0
IsFreeOf region x = (f : FrameView) × (x ≡ cell.Free f) × (f.region ≡ region)

abbrev pub IsFree : Key → Cell → Type 0
IsFree key x = IsFreeOf key.origin.region x

abbrev pub IsBlank : Cell → Type 0
IsBlank x = x ≡ cell.Empty

-- an entry with these parts, in a frame of the ring's region
abbrev pub Carries : Key → Cell → Row → Type 0
Carries key x r = (e : Entry) × (x ≡ cell.Filled e) × (entry_row e ≡ r) × (e.frame.region ≡ key.origin.region)

-- a copy names the block that it was made from, and a user's write none
abbrev pub HasSource : Bool → Option Source → Type 0
HasSource false source = source ≡ None
HasSource true source = IsSome source

-- what an entry of the ring's target may be
abbrev pub Fits : Key → Row → Type 0
Fits key r = (r.lba < key.capacity) × HasSource r.copy r.source × (length r.sector ≡ key.origin.region.size)

-- the row of the entry that a slot has
abbrev pub row_in : Cell → Row
row_in (cell.Free f) = record { position = 0; copy = false; lba = 0; source = None; sector = [] }
row_in (cell.Filled e) = entry_row e
row_in cell.Empty = record { position = 0; copy = false; lba = 0; source = None; sector = [] }

-- the row of the entry in the slot that a seat took last
abbrev pub front_row : List (ℕ × Cell) → Row
front_row [] = row_in cell.Empty
front_row (x ∷ xs) = row_in x.1
