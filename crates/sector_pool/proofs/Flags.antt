-- Flags of ranges, and how many of them are left.
use Rattle.std.proofs.Common.{◌≡◌, ◌≢◌, ℕ, zero, suc, ◌+◌, ◌*◌, ◌<◌, ◌≤◌, Bool, true, false, List, [], ◌∷◌, ◌++◌, length, set, replicate, refl, sym, ap, arith, Some, true≢false, inl, inr}
use Rattle.std.specs.List.{slice_get}
use Rattle.std.specs.Option.{unwrap_or}
use Rattle.std.proofs.lemmas.Option.{none-some}
use Rattle.std.proofs.lemmas.List.{length-set}
use Rattle.std.proofs.Math.Nat.{mul-le-mul_right}
use Rattle.std.proofs.Math.Decide.{dec_lt}
use Rattle.pblk_model.specs.Frames.{Region, AreApart, range_start, count_left, count_out}

-- a range ends where the next begins, or before
ends_before : (r : Region) (j k : ℕ) → r.size ≤ r.stride → j < k → range_start r j + r.size ≤ range_start r k
ends_before r j k fits less =
    let far : (j + 1) * r.stride ≤ k * r.stride = mul-le-mul_right r.stride (omega arith) in
    let next : (j + 1) * r.stride ≡ j * r.stride + r.stride = omega arith in
    omega arith

pub apart : (r : Region) (j k : ℕ) → r.size ≤ r.stride → j ≢ k → AreApart r j k
apart r j k fits other = by_order (dec_lt j k)
  where
    by_order : Dec (j < k) → AreApart r j k
    by_order (yes less) = inl (ends_before r j k fits less)
    by_order (no more) = inr (ends_before r k j fits (omega (arith, other, more)))

pub add_up : (left : List Bool) → count_left left + count_out left ≡ length left
add_up [] = refl
add_up (true ∷ left) = omega (arith, add_up left)
add_up (false ∷ left) = omega (arith, add_up left)

-- an entry's value is one
same : {x y : Bool} → Some x ≡ Some y → x ≡ y
same {x} is = ap (λ o. unwrap_or o x) is

pub left_of_all : (n : ℕ) → count_left (replicate n true) ≡ n
left_of_all zero = refl
left_of_all (suc n) = ap suc (left_of_all n)

pub out_of_all : (n : ℕ) → count_out (replicate n true) ≡ 0
out_of_all zero = refl
out_of_all (suc n) = out_of_all n

-- if none is out, all are left
pub all_left : (left : List Bool) → count_out left ≡ 0 → left ≡ replicate (length left) true
all_left [] none = refl
all_left (true ∷ left) none = ap (λ flags. true ∷ flags) (all_left left none)
all_left (false ∷ left) none = absurd (omega arith)

-- one goes out
pub left_goes : (left : List Bool) (i : ℕ) → slice_get left i ≡ Some true → count_left left ≡ count_left (set left i false) + 1
left_goes [] i is = absurd (none-some true is)
left_goes (true ∷ left) zero is = omega arith
left_goes (false ∷ left) zero is = absurd (true≢false (sym (same is)))
left_goes (true ∷ left) (suc i) is = omega (arith, left_goes left i is)
left_goes (false ∷ left) (suc i) is = left_goes left i is

pub out_goes : (left : List Bool) (i : ℕ) → slice_get left i ≡ Some true → count_out (set left i false) ≡ count_out left + 1
out_goes left i is = omega (arith, left_goes left i is, add_up left, add_up (set left i false), length-set left i false)

-- one comes back
pub left_comes : (left : List Bool) (i : ℕ) → slice_get left i ≡ Some false → count_left (set left i true) ≡ count_left left + 1
left_comes [] i is = absurd (none-some false is)
left_comes (true ∷ left) zero is = absurd (true≢false (same is))
left_comes (false ∷ left) zero is = omega arith
left_comes (true ∷ left) (suc i) is = omega (arith, left_comes left i is)
left_comes (false ∷ left) (suc i) is = left_comes left i is

pub out_comes : (left : List Bool) (i : ℕ) → slice_get left i ≡ Some false → count_out left ≡ count_out (set left i true) + 1
out_comes left i is = omega (arith, left_comes left i is, add_up left, add_up (set left i true), length-set left i true)

-- not all are left
pub some_out : (left : List Bool) (i : ℕ) → slice_get left i ≡ Some false → count_left left < length left
some_out left i is = omega (arith, out_comes left i is, add_up left)

-- what has come back can go again
pub left_again : (left : List Bool) (i : ℕ) → slice_get left i ≡ Some false → slice_get (set left i true) i ≡ Some true
left_again [] i is = absurd (none-some false is)
left_again (x ∷ left) zero is = refl
left_again (x ∷ left) (suc i) is = left_again left i is

pub gone_again : (left : List Bool) (i : ℕ) → slice_get left i ≡ Some false → set (set left i true) i false ≡ left
gone_again [] i is = absurd (none-some false is)
gone_again (true ∷ left) zero is = absurd (true≢false (same is))
gone_again (false ∷ left) zero is = refl
gone_again (x ∷ left) (suc i) is = ap (λ flags. x ∷ flags) (gone_again left i is)

-- a range more, which is out
pub left_before : (left : List Bool) → count_left (left ++ false ∷ []) ≡ count_left left
left_before [] = refl
left_before (true ∷ left) = ap suc (left_before left)
left_before (false ∷ left) = left_before left

pub get_before : (left : List Bool) (i : ℕ) → slice_get left i ≡ Some true → slice_get (left ++ false ∷ []) i ≡ Some true
get_before [] i is = absurd (none-some true is)
get_before (x ∷ left) zero is = is
get_before (x ∷ left) (suc i) is = get_before left i is

pub set_before : (left : List Bool) (i : ℕ) → slice_get left i ≡ Some true → set (left ++ false ∷ []) i false ≡ set left i false ++ false ∷ []
set_before [] i is = absurd (none-some true is)
set_before (x ∷ left) zero is = refl
set_before (x ∷ left) (suc i) is = ap (λ flags. x ∷ flags) (set_before left i is)

pub last_is_out : (n : ℕ) → slice_get (replicate n true ++ false ∷ []) n ≡ Some false
last_is_out zero = refl
last_is_out (suc n) = last_is_out n

pub last_comes : (n : ℕ) → set (replicate n true ++ false ∷ []) n true ≡ replicate (suc n) true
last_comes zero = refl
last_comes (suc n) = ap (λ flags. true ∷ flags) (last_comes n)
