-- Sectors at their positions, and a port's own writes.
use Rattle.std.specs.Prelude.{ℕ, zero, suc, ◌+◌, List, [], ◌∷◌, take, drop}
use Rattle.pblk_model.specs.declared.run.Place.{Place}
use Rattle.pblk_model.specs.History.{SectorWrite}

-- a line of the history, with its position in the order of all writes
pub record PlacedSector : Type 0 where
  pub position : ℕ
  pub write : SectorWrite

-- a write of sectors from `lba` on, with the place that it was answered
pub record OwnWrite : Type 0 where
  pub place : Place
  pub lba : ℕ
  pub sectors : List (List ℕ)

-- bytes cut into n sectors of this size
unfoldable pub sectors_of : ℕ → ℕ → List ℕ → List (List ℕ)
sectors_of size zero bytes = []
sectors_of size (suc n) bytes = take size bytes ∷ sectors_of size n (drop size bytes)

-- sectors one after another, from a position and a sector number on
abbrev pub placed_from : ℕ → ℕ → List (List ℕ) → List PlacedSector
placed_from position lba [] = []
placed_from position lba (sector ∷ sectors) =
    record { position = position; write = record { lba = lba; sector = sector } } ∷ placed_from (position + 1) (lba + 1) sectors

-- the lines of the history that a write is
abbrev pub lines_of : OwnWrite → List PlacedSector
lines_of w = placed_from w.place.first w.lba w.sectors
