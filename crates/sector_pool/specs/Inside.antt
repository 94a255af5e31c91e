-- What the fields of a pool and of a frame stand for, and what they keep.
use Rattle.std.specs.Prelude.{◌≡◌, ◌^◌, ◌<◌, ◌≤◌, ◌*◌, reverse, take, vec_len, vec_capacity}
use Rattle.std_alloc.specs.Vec.{vec_ptr}
use Rattle.pblk_model.specs.Frames.{PoolView, FrameView}
use Rattle.sector_pool.specs.Places.{stride_of, IsRange, IsExtent}
use Rattle.sector_pool.specs.Stack.{IsStackOf}
use Rattle.sector_pool.specs.declared.frame.Frame.TheInside as frame
use Rattle.sector_pool.specs.declared.pool.Pool.TheInside as pool

abbrev pub frame_view : frame.Inside → FrameView
frame_view f = record { region = f.origin.region; number = f.number; bytes = take f.size f.bytes.items }

pub record IsFrame (f : frame.Inside) : Type 0 where
  pub size : f.size ≡ f.origin.region.size
  pub number : f.number < f.origin.region.count
  -- the bytes lie over the frame's range
  pub range : IsRange f.origin.region f.number (vec_ptr f.bytes) (vec_len f.bytes)
  pub fits : f.origin.region.size ≤ f.origin.region.stride
  pub some : 0 < f.origin.region.stride

abbrev pub pool_view : pool.Inside → PoolView
pool_view p = record { region = p.ranges.region; left = p.ranges.here }

pub record IsPool (p : pool.Inside) : Type 0 where
  pub stack : IsStackOf (reverse p.numbers.items) p.ranges.here
  -- the stack has room for all numbers
  pub room : p.count ≤ vec_capacity p.numbers
  pub count : p.count ≡ p.ranges.region.count
  pub size : p.size ≡ p.ranges.region.size
  pub stride : p.ranges.region.stride ≡ stride_of p.size
  pub extent : IsExtent p.ranges.region p.ranges.rest p.emptied
  -- a count has 32 bits, and a `Vec` fewer than 2^63 bytes
  pub counted : p.count < 2 ^ 32
  pub bytes : p.ranges.region.count * p.ranges.region.stride < 2 ^ 63
