-- The frames that a ring begins with, as they were drawn from a pool.
use Rattle.std.specs.Prelude.{◌≡◌, List, [], ◌∷◌, Bool, true, slice_set}
use Rattle.pblk_model.specs.Frames.{Region, FrameView}
use Rattle.write_ring.specs.declared.cell.Cell.{Cell}
use Rattle.write_ring.specs.declared.cell.Cell.TheVariants as cell

-- once these frames have come back in this order, each range of the region is left or out as it was before
abbrev pub IsDrawn : Region → List Bool → List Bool → List Cell → Type 0
IsDrawn region before now [] = now ≡ before
IsDrawn region before now (x ∷ xs) = (f : FrameView) × (x ≡ cell.Free f) × (f.region ≡ region)
    × IsDrawn region before (slice_set now f.number true) xs
