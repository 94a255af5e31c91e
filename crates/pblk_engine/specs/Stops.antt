-- How often the engine noted that a program of a unit was stopped.
use Rattle.std.specs.Prelude.{ℕ, ◌≡◌, ◌==◌, ◌+◌, ◌-◌, ◌^◌, if◌then◌else◌, Bool, true, false, List, map, min, length, slice_set, Option, Some, None}
use Rattle.std.specs.List.{filter_map, range_with_len}
use Rattle.pblk_model.specs.declared.shape.Shape.{Shape}
use Rattle.pblk_model.specs.Shape.{units}
use Rattle.pblk_world.specs.Events.{Again, Event, Decides, Logged}
use Rattle.chronicle.specs.Handles.{AuthorView}
use Rattle.chronicle.specs.Prefixes.{logs_of}
use Rattle.pblk_engine.specs.Hearts.{IsEngine}
use Rattle.pblk_engine.specs.declared.commands.Ended.{Ended}
use Rattle.pblk_engine.specs.declared.commands.Ended.TheVariants as ended

-- the number of the unit's event that was stopped
abbrev pub again_by : ℕ → Event → Option ℕ
again_by unit (Decides (Again other event)) = if other == unit then Some event else None
again_by unit event = None

-- whether the event notes a stop
abbrev pub is_stop_note : Event → Bool
is_stop_note (Decides (Again unit event)) = true
is_stop_note event = false

-- the stops of a unit that were noted
abbrev pub stops_of : List Logged → ℕ → List ℕ
stops_of log unit = filter_map (λ l. again_by unit l.event) log

-- how many, or 2^64 - 1 where that is less
abbrev pub stop_count : List Logged → ℕ → ℕ
stop_count log unit = min (length (stops_of log unit)) (2 ^ 64 - 1)

abbrev pub stop_counts : Shape → List Logged → List ℕ
stop_counts s log = map (stop_count log) (range_with_len 0 (units s))

-- The author is the engine's, and these are the counts of its log.
pub record IsCounting (a : AuthorView) (stops : List ℕ) : Type 0 where
  pub engine : IsEngine a
  pub counts : stops ≡ stop_counts a.past.image.shape (logs_of a.known 0)

-- the counts once a program of a unit ended like this, of which so many stops were counted
abbrev pub stops_with : List ℕ → ℕ → ℕ → Ended → List ℕ
stops_with stops unit n ended.Done = stops
stops_with stops unit n (ended.Failed kept) = stops
stops_with stops unit n ended.Stopped = slice_set stops unit (min (n + 1) (2 ^ 64 - 1))
