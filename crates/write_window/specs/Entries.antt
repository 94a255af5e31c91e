-- The entries of the window, as a list in the order of their positions.
use Rattle.std.specs.Prelude.{◌≡◌, ℕ, zero, suc, ◌+◌, ⊤, Bool, true, false, List, [], ◌∷◌, take_while}
use Rattle.sector_pool.specs.declared.entry.Class.{Class}
use Rattle.sector_pool.specs.declared.entry.Class.TheVariants as class
use Rattle.write_window.specs.declared.held.Progress.{Progress}
use Rattle.write_window.specs.declared.held.Progress.TheVariants.{Waiting, Landed, Readable}
use Rattle.write_window.specs.declared.held.Held.{Held}

-- an entry whose block can be read has landed too
abbrev pub has_landed : Progress → Bool
has_landed Waiting = false
has_landed Landed = true
has_landed Readable = true

abbrev pub is_readable : Progress → Bool
is_readable Waiting = false
is_readable Landed = false
is_readable Readable = true

-- The history has a line for each user's write, and none for a copy.
abbrev pub user_count : Class → ℕ
user_count class.User = 1
user_count class.Copy = 0

abbrev pub users_in : List Held → ℕ
users_in [] = 0
users_in (h ∷ held) = user_count h.entry.class + users_in held

-- the entries before the first that hasn't landed
abbrev pub landed_first : List Held → List Held
landed_first held = take_while (λ h. has_landed h.progress) held

-- the entries have the positions from this one on, in order
abbrev pub AreFrom : ℕ → List Held → Type 0
AreFrom position [] = ⊤
AreFrom position (h ∷ held) = (h.entry.position ≡ position) × AreFrom (position + 1) held

-- the entry at this index has come so far, and all else is as it was
abbrev pub with_progress : List Held → ℕ → Progress → List Held
with_progress [] index to = []
with_progress (h ∷ held) zero to = record h { progress = to } ∷ held
with_progress (h ∷ held) (suc index) to = h ∷ with_progress held index to
