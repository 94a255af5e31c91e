-- What stands in a chunk of a unit after the first events of the unit's log.
use Rattle.std.specs.Prelude.{ℕ, suc, ◌≤◌, ◌<◌, ◌≡◌, false, take, slice_get, List, Option, Some}
use Rattle.std.specs.List.{filter_map}
use Rattle.std.specs.Option.{option_and_then}
use Rattle.pblk_model.specs.Chunk.{Chunk}
use Rattle.pblk_model.specs.UnitLog.{UnitEvent, after_log}
use Rattle.pblk_model.specs.Image.{Image}
use Rattle.pblk_world.specs.Events.{Logged}
use Rattle.pblk_world.specs.World.{Logs, unit_event_of}
use Rattle.pblk_world.specs.Commanding.{is_program}

-- the first n events of a unit
unfoldable pub first_events : Logs → ℕ → ℕ → List UnitEvent
first_events logs unit n = filter_map (λ l. unit_event_of l.event) (take n (logs (suc unit)))

-- the unit's chunk of a line after them
unfoldable pub chunk_after : Image → Logs → ℕ → ℕ → ℕ → Option Chunk
chunk_after i logs line unit n =
    option_and_then (λ chunks. slice_get (after_log i.shape chunks (first_events logs unit n)) line) (slice_get i.units unit)

-- no event of the unit from one number up to another is a program of this chunk
abbrev pub NoProgram : Logs → ℕ → ℕ → ℕ → ℕ → Type 0
NoProgram logs line unit from to = (number : ℕ) (l : Logged) (e : UnitEvent) → from ≤ number → number < to
    → slice_get (logs (suc unit)) number ≡ Some l → unit_event_of l.event ≡ Some e → e.chunk ≡ line
    → is_program e.command ≡ false
