-- What is known of a world: the steps that stand in a prefix of each author's log.
use Rattle.std.specs.Prelude.{ℕ, ◌<◌, ◌≤◌, ◌≡◌, if◌then◌else◌, nat_lt, [], ◌∷◌, length, slice_get, Some}
use Rattle.pblk_world.specs.Events.{Logged}
use Rattle.pblk_world.specs.World.{World, log_of, known}

-- the steps whose number in their author's log is below that author's length
abbrev pub cut : (ℕ → ℕ) → World → World
cut lengths [] = []
cut lengths (step ∷ w) = if nat_lt (length (log_of w step.author)) (lengths step.author)
    then step ∷ cut lengths w
    else cut lengths w

-- no event of the prefixes of these lengths names more than these lengths
abbrev pub IsClosedCut : (ℕ → ℕ) → World → Type 0
IsClosedCut lengths w = (author other number : ℕ) (l : Logged) → number < lengths author
    → slice_get (log_of w author) number ≡ Some l → known l other ≤ lengths other
