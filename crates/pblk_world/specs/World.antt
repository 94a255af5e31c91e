-- A world: the steps of a mount in the order in which they were made, and what follows from them
-- alone.
use Rattle.std.specs.Prelude.{ℕ, suc, ◌==◌, if◌then◌else◌, List, [], ◌∷◌, ◌++◌, map, take, slice_get, slice_index, Option, Some, None}
use Rattle.std.specs.List.{filter_map, enumerate_from}
use Rattle.std.specs.Option.{option_and_then}
use Rattle.pblk_model.specs.UnitLog.{UnitEvent, after_log}
use Rattle.pblk_model.specs.Image.{Image}
use Rattle.pblk_world.specs.Events.{EngineEvent, Event, Decides, Does, Logged, Step}

-- its steps, the newest first
abbrev pub World : Type 0
World = List Step

-- for each author's number a log, oldest event first
abbrev pub Logs : Type 0
Logs = ℕ → List Logged

abbrev pub log_of : World → ℕ → List Logged
log_of [] author = []
log_of (step ∷ w) author = if step.author == author then log_of w author ++ step.logged ∷ [] else log_of w author

-- how long a prefix of a log the author of an event knew
abbrev pub known : Logged → ℕ → ℕ
known l author = slice_index l.knows author

-- the first events of each log, as many as the numbers say
abbrev pub cut_logs : List ℕ → Logs → Logs
cut_logs lengths logs author = take (slice_index lengths author) (logs author)

-- the prefixes that an event names
abbrev pub prefixes : Logged → Logs → Logs
prefixes l logs = cut_logs l.knows logs

-- Unit events.

abbrev pub unit_event_of : Event → Option UnitEvent
unit_event_of (Decides e) = None
unit_event_of (Does e maker) = Some e

-- the events of a unit, oldest first
abbrev pub unit_events : Logs → ℕ → List UnitEvent
unit_events logs unit = filter_map (λ l. unit_event_of l.event) (logs (suc unit))

-- the event of this number in a unit's log
abbrev pub unit_event_at : Logs → ℕ → ℕ → Option UnitEvent
unit_event_at logs unit event = option_and_then (λ l. unit_event_of l.event) (slice_get (logs (suc unit)) event)

-- the media: the chunks that the unit logs leave of an image
abbrev pub media : Image → Logs → Image
media i logs = record {
  shape = i.shape;
  units = map (λ unit. after_log i.shape unit.1 (unit_events logs unit.0)) (enumerate_from 0 i.units);
}

-- The engine's log.

abbrev pub engine_event_of : Event → Option EngineEvent
engine_event_of (Decides e) = Some e
engine_event_of (Does e maker) = None

-- what has become known of an event's log when it was made
abbrev pub knows_engine : Logged → ℕ
knows_engine l = known l 0
