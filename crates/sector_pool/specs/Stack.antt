-- The numbers of the ranges that are left, as a stack.
use Rattle.std.specs.Prelude.{◌≡◌, ℕ, Bool, true, false, List, [], ◌∷◌, Some, slice_get, slice_set}
use Rattle.pblk_model.specs.Frames.{count_left}

-- Each range that is left has its number on the stack once, here topmost first, and no other has: the topmost is left,
-- and once it is out the others are what is left.
abbrev pub IsStackOf : List ℕ → List Bool → Type 0
IsStackOf [] left = count_left left ≡ 0
IsStackOf (number ∷ others) left = (slice_get left number ≡ Some true) × IsStackOf others (slice_set left number false)
