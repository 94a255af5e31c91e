-- A pool of frames: one region of memory that is cut into ranges of one size, each of which is left in the pool
-- or out as exactly one frame. Nothing here names a pointer.
use Rattle.std.specs.Prelude.{ℕ, suc, ◌+◌, ◌*◌, ◌≤◌, ◌⊎◌, Bool, true, false, List, [], ◌∷◌}

-- A region: from its start in a block of memory on, `count` ranges of `size` bytes, each beginning `stride`
-- bytes after the one before it. Which region it is is all that tells one pool from another.
pub record Region : Type 0 where
  pub block : ℕ
  pub start : ℕ
  pub stride : ℕ
  pub size : ℕ
  pub count : ℕ

-- of each range of the region, whether it is left
pub record PoolView : Type 0 where
  pub region : Region
  pub left : List Bool

-- a range that is out: its number in the region, and its bytes
pub record FrameView : Type 0 where
  pub region : Region
  pub number : ℕ
  pub bytes : List ℕ

abbrev pub count_left : List Bool → ℕ
count_left [] = 0
count_left (true ∷ ranges) = suc (count_left ranges)
count_left (false ∷ ranges) = count_left ranges

abbrev pub count_out : List Bool → ℕ
count_out [] = 0
count_out (true ∷ ranges) = count_out ranges
count_out (false ∷ ranges) = suc (count_out ranges)

-- where a range begins in the block of memory
abbrev pub range_start : Region → ℕ → ℕ
range_start r number = r.start + number * r.stride

-- two ranges have no byte in common
abbrev pub AreApart : Region → ℕ → ℕ → Type 0
AreApart r j k = (range_start r j + r.size ≤ range_start r k) ⊎ (range_start r k + r.size ≤ range_start r j)
