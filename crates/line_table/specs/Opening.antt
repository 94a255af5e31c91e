-- What a target that opens takes a line for, by what recovery found.
use Rattle.std.specs.Prelude.{ℕ, ◌==◌, if◌then◌else◌, List, filter, length, is_some}
use Rattle.std.specs.List.{list_any}
use Rattle.pblk_model.specs.declared.shape.Shape.{Shape}
use Rattle.pblk_model.specs.declared.found.Found.{Found}
use Rattle.pblk_model.specs.declared.found.LineRow.{LineRow}
use Rattle.pblk_model.specs.declared.found.Winner.{Winner}
use Rattle.pblk_model.specs.Found.{online_units}
use Rattle.pblk_model.specs.LineOrder.{data_len}
use Rattle.line_table.specs.declared.row.LineState.{LineState}
use Rattle.line_table.specs.declared.row.LineState.TheVariants.{Free, Full, Failed, Freed, Dead}

-- how many chunks of a line aren't Offline
unfoldable pub width_of : Shape → Found → ℕ → ℕ
width_of s f line = length (online_units s f line)

-- how many winning records are in a line
unfoldable pub live_count : List Winner → ℕ → ℕ
live_count winners line = length (filter (λ w. w.line == line) winners)

-- The state of a line: by its end record where it has a sequence number, and else Freed where it is a stray. Else all its
-- chunks are Free or Offline.
unfoldable pub opening_state : Shape → Found → ℕ → LineRow → LineState
opening_state s f line row =
    if is_some row.seq then (if row.full then Full else Failed)
    else if list_any (λ stray. stray == line) f.strays then Freed
    else if data_len s (width_of s f line) == 0 then Dead
    else Free
