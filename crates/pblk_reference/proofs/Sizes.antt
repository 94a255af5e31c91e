-- How large the numbers of an accepted shape are.
use Rattle.std.proofs.Common.{◌≡◌, ℕ, ◌+◌, ◌-◌, ◌^◌, ◌<◌, ◌≤◌, Fits, w32, arith}
use Rattle.pblk_model.specs.declared.shape.Shape.{Shape}
use Rattle.pblk_model.specs.Shape.{units}
use Rattle.pblk_model.specs.Accepted.{IsAccepted}

pub below_u32 : (n : ℕ) → n ≤ 65536 → Fits w32 n
below_u32 n few = omega arith

pub room_for : (first len n : ℕ) → len ≤ 65536 → first ≡ len - n → n < 2 ^ 31 → first + n < 2 ^ 32
room_for first len n few first-is short = omega arith

-- the same of a shape that is another's view
pub accepted_as : (s t : Shape) → s ≡ t → IsAccepted t → IsAccepted s
accepted_as s t e accepted = rw e accepted

pub narrow_as : (g : ℕ) (s t : Shape) → s ≡ t → g ≤ units t → g ≤ units s
narrow_as g s t e narrow = rw e narrow

pub some_lines : (n : ℕ) → 8 ≤ n → 0 < n
some_lines n many = omega arith

pub narrow_end : (s : Shape) (g h : ℕ) → g ≡ h → h ≤ units s → g ≤ units s
narrow_end s g h e narrow = rw e narrow
