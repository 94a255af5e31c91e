-- The chunks of a line, read from the units as they lie in memory.
use Rattle.std.specs.Prelude.{ℕ, List, slice_get, Option, Some, None, if◌then◌else◌}
use Rattle.std.specs.List.{filter_map}
use Rattle.std.specs.Option.{option_and_then}
use Rattle.std.specs.Global.{Vec}
use Rattle.pblk_model.specs.Chunk.{Chunk}
use Rattle.pblk_model.specs.Image.{is_online_in}

-- a unit's chunk of the line, if it isn't Offline
unfoldable pub online_chunk : ℕ → List Chunk → Option Chunk
online_chunk line unit = option_and_then (λ c. if is_online_in c.state then Some c else None) (slice_get unit line)

-- those of all units
abbrev pub online_chunks : ℕ → List (Vec Chunk) → List Chunk
online_chunks line units = filter_map (λ unit. online_chunk line unit.items) units
