-- How many stripes of a line have landed.
use Rattle.std.specs.Prelude.{ℕ, Bool, true, false, List, length}
use Rattle.std.specs.List.{filter}
use Rattle.pblk_world.specs.Events.{EngineEvent, Begin, Take, Open, Place, Landed, Lost, Again, ResetDone, Free, Logged}
use Rattle.pblk_world.specs.EngineLog.{Opening, stripes_of, has_landed}

abbrev pub landed_count : List Logged → Opening → ℕ
landed_count log o = length (filter (has_landed log) (stripes_of log o))

-- an event that neither places nor answers a stripe
abbrev pub keeps_landed : EngineEvent → Bool
keeps_landed (Begin b) = true
keeps_landed (Take entry mark) = true
keeps_landed (Open line start) = true
keeps_landed (Place stripe) = false
keeps_landed (Landed unit event) = false
keeps_landed (Lost unit event) = false
keeps_landed (Again unit event) = true
keeps_landed (ResetDone unit event) = true
keeps_landed (Free line) = true

-- an event that places a stripe
abbrev pub places : EngineEvent → Bool
places (Place stripe) = true
places e = false
