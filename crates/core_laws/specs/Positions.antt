-- Positions, as the log of a mount has them.
use Rattle.std.specs.Prelude.{ℕ, ◌≡◌, ◌<◌, true, false, List, length}
use Rattle.std.specs.List.{AllByRecursion, range_with_len}
use Rattle.pblk_model.specs.declared.shape.Shape.{Shape}
use Rattle.pblk_world.specs.Events.{Logged}
use Rattle.pblk_world.specs.EngineLog.{takes, placements, holds_position}
use Rattle.pblk_world.specs.Fronts.{first_position, taken}
use Rattle.core_laws.specs.PlacerOf.{positions_of}

-- no stripe holds the position
abbrev pub IsUnplaced : Shape → List Logged → ℕ → Type 0
IsUnplaced s log position = AllByRecursion (λ p. holds_position s position p ≡ false) (placements log)

-- what was taken has the positions from the mount's first on, in order
abbrev pub AreNumbered : List Logged → Type 0
AreNumbered log = positions_of (takes log) ≡ range_with_len (first_position log) (length (takes log))

-- each entry's mark names its position
abbrev pub AreMarked : List Logged → Type 0
AreMarked log = AllByRecursion (λ t. t.mark.position ≡ t.entry.position) (takes log)

-- each position that a stripe holds was taken before
abbrev pub AreTaken : Shape → List Logged → Type 0
AreTaken s log = AllByRecursion (λ p. (q : ℕ) → holds_position s q p ≡ true → q < taken log) (placements log)
