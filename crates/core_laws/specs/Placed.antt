-- What a mount has placed, in order.
use Rattle.std.specs.Prelude.{ℕ, ◌≡◌, ◌<◌, ◌≤◌, false, List, length}
use Rattle.std.specs.List.{filter, flat_map}
use Rattle.pblk_model.specs.declared.shape.Shape.{Shape}
use Rattle.pblk_world.specs.Events.{Logged}
use Rattle.pblk_world.specs.EngineLog.{takes, placements}
use Rattle.pblk_world.specs.Fronts.{first_position, taken, was_placed, has_landed_at, synced}
use Rattle.pblk_world.specs.Space.{freed}
use Rattle.core_laws.specs.PlacerOf.{positions_in_stripe}

-- the positions in the stripes, in the order in which they were placed
abbrev pub placed_positions : Shape → List Logged → List ℕ
placed_positions s log = flat_map (λ p. positions_in_stripe s p.stripe) (placements log)

-- how many of the taken entries were placed
abbrev pub placed_count : Shape → List Logged → ℕ
placed_count s log = length (filter (was_placed s log) (takes log))

-- the position was taken, and hasn't landed
pub record IsInWindow (s : Shape) (log : List Logged) (position : ℕ) : Type 0 where
  pub from_first : first_position log ≤ position
  pub below_taken : position < taken log
  pub not_landed : has_landed_at s log position ≡ false
  pub from_freed : freed s log ≤ position
  pub from_synced : synced s log ≤ position
