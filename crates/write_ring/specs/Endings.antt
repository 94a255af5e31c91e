-- What lies in the slots of a ring that has ended.
use Rattle.std.specs.Prelude.{◌≡◌, ℕ, ◌+◌, ◌<◌, ◌≤◌, List}
use mathlib.Core.Option.{some}
use lib.ListN.{get_elem?}
use Rattle.pblk_model.specs.Frames.{Region}
use Rattle.write_ring.specs.declared.cell.Cell.{Cell}
use Rattle.write_ring.specs.declared.cell.Cell.TheVariants as cell
use Rattle.write_ring.specs.Cells.{slot}

-- the cell has a frame, and the frame is of this region
abbrev pub HasFrame : Region → Cell → Type 0
HasFrame region (cell.Free f) = f.region ≡ region
HasFrame region (cell.Filled e) = e.frame.region ≡ region
HasFrame region cell.Empty = ⊥

-- the slots of the positions from `freed` to `taken` are empty, and those of the others have frames
pub record IsLeft (region : Region) (size freed taken : ℕ) (xs : List Cell) : Type 0 where
  pub order : freed ≤ taken
  pub room : taken ≤ freed + size
  pub blanks : (p : ℕ) → freed ≤ p → p < taken → get_elem? xs (slot size p) ≡ some cell.Empty
  pub others : (p : ℕ) → taken ≤ p → p < freed + size → (x : Cell) × (get_elem? xs (slot size p) ≡ some x) × HasFrame region x
