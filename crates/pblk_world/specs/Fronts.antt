-- The fronts of a world, its history, and what waits to be placed.
use Rattle.std.specs.Prelude.{ℕ, ◌+◌, ◌<◌, ◌≤◌, ◌≡◌, ◌==◌, ◌&&◌, not, nat_lt, Bool, true, false, List, ◌++◌, map, length, Option, Some, None}
use Rattle.std.specs.List.{filter, list_any, last_or}
use Rattle.std.specs.Option.{option_map_or}
use Rattle.pblk_model.specs.declared.shape.Shape.{Shape}
use Rattle.pblk_model.specs.Contents.{least_missing}
use Rattle.pblk_model.specs.History.{SectorWrite}
use Rattle.pblk_world.specs.Events.{Source, Logged}
use Rattle.pblk_world.specs.EngineLog.{Taken, begun, takes, placements, has_landed, was_lost, holds_position}

-- the mount's first position
abbrev pub first_position : List Logged → ℕ
first_position log = option_map_or (λ b. b.beginning.first) (begun log) 0

-- one past the last position that was taken
abbrev pub taken : List Logged → ℕ
taken log = first_position log + length (takes log)

-- whether a stripe that has landed holds the position
abbrev pub has_landed_at : Shape → List Logged → ℕ → Bool
has_landed_at s log position = list_any (λ p. has_landed log p && holds_position s position p) (placements log)

-- The front synced: the least position from the first on that hasn't landed. Only taken positions
-- land.
abbrev pub synced : Shape → List Logged → ℕ
synced s log = least_missing (has_landed_at s log) (length (takes log)) (first_position log)

-- said as a fact: all positions from the first up to it are in stripes that have landed, and its
-- own isn't
pub record IsSynced (s : Shape) (log : List Logged) (p : ℕ) : Type 0 where
  pub from_first : first_position log ≤ p
  pub landed : (q : ℕ) → first_position log ≤ q → q < p → has_landed_at s log q ≡ true
  pub missing : has_landed_at s log p ≡ false

-- The history: the users' entries. Copies are no lines of it.
abbrev pub is_users : Option Source → Bool
is_users None = true
is_users (Some source) = false

abbrev pub user_takes : List Logged → List Taken
user_takes log = filter (λ t. is_users t.entry.source) (takes log)

abbrev pub history : List Logged → List SectorWrite
history log = map (λ t. record { lba = t.entry.lba; sector = t.entry.sector }) (user_takes log)

-- the positions of its lines
abbrev pub user_positions : List Logged → List ℕ
user_positions log = map (λ t. t.entry.position) (user_takes log)

-- the last entry of a sector that was taken, Void ones left out
abbrev pub last_take : List Logged → ℕ → Option Taken
last_take log lba = last_or None (filter (λ t. t.mark.lba == lba) (takes log))

-- Waiting. An entry waits where each stripe that it was placed in was lost.

abbrev pub times_placed : Shape → List Logged → Taken → ℕ
times_placed s log t = length (filter (holds_position s t.entry.position) (placements log))

abbrev pub times_lost : Shape → List Logged → Taken → ℕ
times_lost s log t = length (filter (λ p. was_lost log p && holds_position s t.entry.position p) (placements log))

abbrev pub was_placed : Shape → List Logged → Taken → Bool
was_placed s log t = nat_lt 0 (times_placed s log t)

abbrev pub waits : Shape → List Logged → Taken → Bool
waits s log t = times_placed s log t == times_lost s log t

-- the waiting entries in the order in which they are placed: those that were lost before the
-- others, and each by position
abbrev pub waiting : Shape → List Logged → List Taken
waiting s log = filter (λ t. waits s log t && was_placed s log t) (takes log)
    ++ filter (λ t. not (was_placed s log t)) (takes log)
