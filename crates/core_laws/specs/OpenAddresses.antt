-- Events that leave the data addresses of the opened lines as they are.
use Rattle.std.specs.Prelude.{Bool, true, false}
use Rattle.pblk_world.specs.Events.{EngineEvent, Begin, Take, Open, Place, Landed, Lost, Again, ResetDone, Free}

-- the event neither places a stripe nor tells of a loss
abbrev pub keeps_stripes : EngineEvent → Bool
keeps_stripes (Begin b) = true
keeps_stripes (Take entry mark) = true
keeps_stripes (Open line start) = true
keeps_stripes (Place stripe) = false
keeps_stripes (Landed unit event) = true
keeps_stripes (Lost unit event) = false
keeps_stripes (Again unit event) = true
keeps_stripes (ResetDone unit event) = true
keeps_stripes (Free line) = true

-- nor does it open or free a line
abbrev pub keeps_addresses : EngineEvent → Bool
keeps_addresses (Begin b) = true
keeps_addresses (Take entry mark) = true
keeps_addresses (Open line start) = false
keeps_addresses (Place stripe) = false
keeps_addresses (Landed unit event) = true
keeps_addresses (Lost unit event) = false
keeps_addresses (Again unit event) = true
keeps_addresses (ResetDone unit event) = true
keeps_addresses (Free line) = false

-- the event neither begins the mount, nor takes an entry, nor places a stripe
abbrev pub keeps_placed : EngineEvent → Bool
keeps_placed (Begin b) = false
keeps_placed (Take entry mark) = false
keeps_placed (Open line start) = true
keeps_placed (Place stripe) = false
keeps_placed (Landed unit event) = true
keeps_placed (Lost unit event) = true
keeps_placed (Again unit event) = true
keeps_placed (ResetDone unit event) = true
keeps_placed (Free line) = true
