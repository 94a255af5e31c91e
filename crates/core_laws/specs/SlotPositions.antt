-- The position that the map names of a sector.
use Rattle.std.specs.Prelude.{ℕ, Option, Some, None}
use Rattle.l2p_map.specs.declared.slot.Slot.{Slot}
use Rattle.l2p_map.specs.declared.slot.Slot.TheVariants.{Unwritten, Cached, Media}

-- that of its latest content, in the buffer or on the drive
abbrev pub position_of_slot : Slot → Option ℕ
position_of_slot Unwritten = None
position_of_slot (Cached position) = Some position
position_of_slot (Media line at position) = Some position
