-- Where a region, its ranges and the `Vec` that it was cut from lie.
use Rattle.std.specs.Prelude.{◌≡◌, ℕ, ◌+◌, ◌*◌, max}
use denote.RawPtr.{Ptr, block_ptr}
use Rattle.pblk_model.specs.Frames.{Region, range_start}
use Rattle.sector_pool.specs.Owned.{Extent}

-- From one frame to the next there is a byte at least, so that no two frames, be they empty, lie at one place.
abbrev pub stride_of : ℕ → ℕ
stride_of size = max size 1

abbrev pub HasShape : Region → ℕ → ℕ → ℕ → Type 0
HasShape r stride size count = (r.stride ≡ stride) × (r.size ≡ size) × (r.count ≡ count)

-- so many bytes from the pointer on are the range of this number, with the way to the next
abbrev pub IsRange : Region → ℕ → Ptr → ℕ → Type 0
IsRange r number ptr len = (ptr ≡ block_ptr r.block (range_start r number)) × (len ≡ r.stride)

-- the extent is the region and `rest` bytes behind it
abbrev pub IsExtent : Region → ℕ → Extent → Type 0
IsExtent r rest e = (e.ptr ≡ block_ptr r.block r.start) × (e.len ≡ r.count * r.stride + rest)
