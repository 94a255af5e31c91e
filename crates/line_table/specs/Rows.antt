-- The rows of a table of lines, what changes of them, and what they come to.
use Rattle.std.specs.Prelude.{ℕ, ◌-◌, ◌<◌, ◌≡◌, ◌⊎◌, ◌==◌, ◌&&◌, max, if◌then◌else◌, Bool, true, false, List, length, slice_get, slice_set, sum_by, Option, Some, None}
use Rattle.std.specs.Option.{option_map_or}
use Rattle.pblk_model.specs.declared.shape.Shape.{Shape}
use Rattle.pblk_model.specs.LineOrder.{data_len}
use Rattle.line_table.specs.declared.row.LineState.{LineState}
use Rattle.line_table.specs.declared.row.LineState.TheVariants.{Free, Open, Full, Failed, Freed, Dead}
use Rattle.line_table.specs.declared.row.Row.{Row}

-- a drive's shape, and a row for each of its lines by its number
pub record Table : Type 0 where
  pub shape : Shape
  pub rows : List Row

-- the row of a line
abbrev pub IsRow : Table → ℕ → Row → Type 0
IsRow t line row = slice_get t.rows line ≡ Some row

-- something holds of each line and its row
abbrev pub EachRow : Table → (ℕ → Row → Type 0) → Type 0
EachRow t P = (line : ℕ) (row : Row) → IsRow t line row → P line row

-- a line of the drive is Free
abbrev pub IsFreeLine : Table → ℕ → Type 0
IsFreeLine t line = (row : Row) × IsRow t line row × (row.state ≡ Free)

abbrev pub is_full_or_failed : LineState → Bool
is_full_or_failed Free = false
is_full_or_failed Open = false
is_full_or_failed Full = true
is_full_or_failed Failed = true
is_full_or_failed Freed = false
is_full_or_failed Dead = false

-- a Full or Failed line that has no live sector
abbrev pub is_outlived : Row → Bool
is_outlived row = is_full_or_failed row.state && row.live == 0

-- a line of the drive is such a one
abbrev pub IsOutlivedLine : Table → ℕ → Type 0
IsOutlivedLine t line = (row : Row) × IsRow t line row × (is_outlived row ≡ true)

-- the row of a line was changed, and nothing else
pub record Changes (old new : Table) (line : ℕ) (change : Row → Row) : Type 0 where
  pub shape : new.shape ≡ old.shape
  pub lines : length new.rows ≡ length old.rows
  pub rows : (row : Row) → IsRow old line row → new.rows ≡ slice_set old.rows line (change row)

-- the greater of two positions, of which there may be one alone
abbrev pub latest : Option ℕ → ℕ → ℕ
latest None by = by
latest (Some taker) by = max taker by

-- the line has one live sector less
abbrev pub lowered : Row → Row
lowered row = record row { live = row.live - 1 }

-- a position took a sector from the line
abbrev pub noted : ℕ → Row → Row
noted by row = record row { taker = Some (latest row.taker by) }

-- both at once
abbrev pub lost_to_taker : ℕ → Row → Row
lost_to_taker by row = record row { live = row.live - 1; taker = Some (latest row.taker by) }

-- what a turn to a state leaves of the position that took a sector last
abbrev pub kept : LineState → Option ℕ → Option ℕ
kept Free taker = taker
kept Open taker = None
kept Full taker = taker
kept Failed taker = taker
kept Freed taker = taker
kept Dead taker = taker

-- the line is in another state, with so many chunks that aren't Offline
abbrev pub turned : LineState → ℕ → Row → Row
turned to width row = record { state = to; width = width; live = row.live; taker = kept to row.taker }

-- The changes of a line's state, by the data addresses that it has at its new width: without any it is Dead where it would
-- be Free.
abbrev pub IsChange : LineState → LineState → ℕ → Type 0
IsChange Free to addresses = to ≡ Open
IsChange Open to addresses = (to ≡ Full) ⊎ (to ≡ Failed)
IsChange Full to addresses = to ≡ Freed
IsChange Failed to addresses = to ≡ Freed
IsChange Freed to addresses = ((to ≡ Free) × (0 < addresses)) ⊎ ((to ≡ Dead) × (addresses ≡ 0))
IsChange Dead to addresses = ⊥

abbrev pub is_free_state : LineState → Bool
is_free_state Free = true
is_free_state Open = false
is_free_state Full = false
is_free_state Failed = false
is_free_state Freed = false
is_free_state Dead = false

abbrev pub is_free : Row → Bool
is_free row = is_free_state row.state

abbrev pub is_free_at : List Row → ℕ → Bool
is_free_at rows line = option_map_or is_free (slice_get rows line) false

abbrev pub is_outlived_at : List Row → ℕ → Bool
is_outlived_at rows line = option_map_or is_outlived (slice_get rows line) false

-- the data addresses of a Free line, by its width
unfoldable pub free_len : Shape → Row → ℕ
free_len s row = if is_free row then data_len s row.width else 0

-- those of all Free lines, counted afresh
abbrev pub free_addresses : Table → ℕ
free_addresses t = sum_by (free_len t.shape) t.rows
