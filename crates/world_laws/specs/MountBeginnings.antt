-- How a mount begins by what recovery found.
use Rattle.std.specs.Prelude.{ℕ, ◌+◌, List, slice_get, Option, Some, None}
use Rattle.std.specs.Option.{option_and_then, option_map_or}
use Rattle.pblk_model.specs.declared.found.Found.{Found}
use Rattle.pblk_model.specs.declared.found.LineRow.{LineRow}
use Rattle.pblk_world.specs.Events.{Beginning}

-- the sequence number that follows that of a line, and the first one ever where there is no line
abbrev pub seq_after : List LineRow → Option ℕ → ℕ
seq_after lines None = 1
seq_after lines (Some line) = option_map_or (λ seq. seq + 1) (option_and_then (λ row. row.seq) (slice_get lines line)) 1

-- a mount begins at the end, with the sequence number after the head's, and with the strays
abbrev pub beginning_of : Found → Beginning
beginning_of f = record { first = f.end; seq = seq_after f.lines f.head; strays = f.strays }
