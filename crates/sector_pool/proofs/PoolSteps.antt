-- What the fields of a pool say of it, and what keeps them so.
use Rattle.std.proofs.Common.{◌≡◌, ℕ, ◌+◌, ◌*◌, ◌^◌, ◌<◌, ◌≤◌, length, reverse, sym, ap, ◌∙◌, subst, arith, Vec, false, Some}
use Rattle.std.specs.List.{slice_get}
use Rattle.std.proofs.Math.Nat.{mul-le-mul_right, le-max_left}
use Rattle.std.specs.declared.alloc.Global.{Global}
use Rattle.std_alloc.specs.Vec.{vec_ptr, vec_len, vec_capacity}
use Rattle.std_alloc.specs.declared.vec.lodged.Lodged.{Lodged}
use Rattle.pblk_model.specs.Frames.{Region, count_left, count_out}
use Rattle.sector_pool.specs.declared.memory.Ranges.{Ranges}
use Rattle.sector_pool.specs.declared.memory.Origin.{Origin}
use Rattle.sector_pool.specs.declared.pool.Pool.TheInside as pool
use Rattle.sector_pool.specs.Places.{stride_of, IsRange, IsExtent}
use Rattle.sector_pool.specs.Stack.{IsStackOf}
use Rattle.sector_pool.specs.Inside.{IsPool, IsFrame}
use Rattle.sector_pool.proofs.Flags.{add_up, some_out}
use Rattle.sector_pool.proofs.Stacks.{as_many}

module _ (p : pool.Inside) (is : IsPool p) where
  pub flags : length p.ranges.here ≡ p.count
  flags = p.ranges.counted ∙ sym is.count

  pub left_is : vec_len p.numbers ≡ count_left p.ranges.here
  left_is = p.numbers.ok.0 ∙ as_many p.numbers.items p.ranges.here is.stack

  pub all : count_left p.ranges.here + count_out p.ranges.here ≡ p.count
  all = add_up p.ranges.here ∙ flags

  pub left_fits : vec_len p.numbers < 2 ^ 32
  left_fits = omega (arith, left_is, all, is.counted)

  -- while a range is out its number has room
  pub has_room : (i : ℕ) → slice_get p.ranges.here i ≡ Some false → vec_len p.numbers < vec_capacity p.numbers
  has_room i out = omega (arith, left_is, some_out p.ranges.here i out, flags, is.room)

  -- how far a range is from the first
  pub offset_fits : (i stride : ℕ) → i < p.count → stride ≡ stride_of p.size → i * stride < 2 ^ 63
  offset_fits i stride within is_stride =
      let far : i * p.ranges.region.stride ≤ p.ranges.region.count * p.ranges.region.stride =
      mul-le-mul_right p.ranges.region.stride (omega (arith, is.count)) in
      subst (λ k. i * k < 2 ^ 63) (is.stride ∙ sym is_stride) (omega (arith, is.bytes))

  pub fits : p.ranges.region.size ≤ p.ranges.region.stride
  fits = omega (arith, is.size, is.stride, le-max_left p.size 1)

  -- with other ranges here, and a stack of their numbers
  pub changed : (m : Ranges) → m.region ≡ p.ranges.region → m.rest ≡ p.ranges.rest
      → (numbers : Vec ℕ Global) → IsStackOf (reverse numbers.items) m.here → vec_capacity p.numbers ≤ vec_capacity numbers
      → IsPool (record { ranges = m; emptied = p.emptied; numbers = numbers; count = p.count; size = p.size })
  changed m region rest numbers stack room = record {
    stack = stack;
    room = omega (arith, room, is.room);
    count = is.count ∙ ap (λ (r : Region). r.count) (sym region);
    size = is.size ∙ ap (λ (r : Region). r.size) (sym region);
    stride = ap (λ (r : Region). r.stride) region ∙ is.stride;
    extent = subst (λ (x : Region × ℕ). IsExtent x.0 x.1 p.emptied) (λ i. (sym region i, sym rest i)) is.extent;
    counted = is.counted;
    bytes = subst (λ (r : Region). r.count * r.stride < 2 ^ 63) (sym region) is.bytes;
  }

  -- a range that was lent is a frame
  pub framed : (o : Origin) → o.region ≡ p.ranges.region → (bytes : Vec ℕ Lodged) (i : ℕ) → i < p.count
      → IsRange p.ranges.region i (vec_ptr bytes) (vec_len bytes) → IsFrame (record { bytes = bytes; origin = o; number = i; size = p.size })
  framed o region bytes i within range = record {
    size = is.size ∙ ap (λ (r : Region). r.size) (sym region);
    number = subst (λ (r : Region). i < r.count) (sym region) (omega (arith, is.count));
    range = subst (λ (r : Region). IsRange r i (vec_ptr bytes) (vec_len bytes)) (sym region) range;
    fits = subst (λ (r : Region). r.size ≤ r.stride) (sym region) fits;
    some = subst (λ (r : Region). 0 < r.stride) (sym region) p.ranges.some;
  }
