-- A frame's bytes, lent for writing.
use Rattle.std.specs.Prelude.{ℕ, List, ◌++◌, take, drop, length}
use Rattle.std.specs.Borrow.{Lends, MutBor, Fml, Array, u8}
use Rattle.pblk_model.specs.Frames.{FrameView}
use Rattle.sector_pool.specs.contracts.frame.Frame.{the_row}

-- the frame with these bytes from its first one on, which are all of them where they are as many
abbrev pub with_bytes : FrameView → List ℕ → FrameView
with_bytes f bytes = record f { bytes = take f.region.size (bytes ++ drop (length bytes) f.bytes) }

-- once the slice is given back, the frame has what was written to it
abbrev pub LendsBytes : MutBor FrameView → MutBor (List ℕ) → Fml
LendsBytes f r = Lends the_row (Array u8 0) f r (with_bytes f.now)
