-- The sector that a core copies next, and the place of its block.
use Rattle.std.specs.Prelude.{ℕ, ◌==◌, ◌&&◌, if◌then◌else◌, nat_lt, Bool, true, false, slice_get, Option, Some, None}
use Rattle.std.specs.FinMap as fin
use Rattle.std.specs.List.{slice_index_or}
use Rattle.std.specs.Option.{option_map}
use Rattle.pblk_model.specs.LineOrder.{line_order}
use Rattle.pblk_layout.specs.Online.{units_in}
use Rattle.l2p_map.specs.declared.slot.Slot.{Slot}
use Rattle.l2p_map.specs.declared.slot.Slot.TheVariants.{Unwritten, Cached, Media}
use Rattle.pblk_core.specs.Copies.{searched_to}
use Rattle.pblk_core.specs.Named.{may_copy}
use Rattle.pblk_core.specs.declared.collecting.CopyJob.{CopyJob}
use Rattle.pblk_core.specs.declared.target_core.Core.{Core}
use Rattle.pblk_engine.specs.declared.copying.CopyPlace.{CopyPlace}

abbrev pub at_place : CopyJob → ℕ × ℕ → CopyPlace
at_place job place = record { job = job; unit = place.0; block = place.1 }

-- the unit and the block of an address of a line, by the units that the core knows of it
abbrev pub place_of : Core → ℕ → ℕ → Option (ℕ × ℕ)
place_of c line at = slice_get (line_order c.layout (units_in (slice_index_or c.online.items line 0))) at

-- where a sector's slot is on the drive in this line, it is to be copied from there
abbrev pub copy_from : (ℕ → ℕ → Option (ℕ × ℕ)) → ℕ → ℕ → Option Slot → Option CopyPlace
copy_from place victim lba None = None
copy_from place victim lba (Some Unwritten) = None
copy_from place victim lba (Some (Cached position)) = None
copy_from place victim lba (Some (Media line at position)) =
    if line == victim then option_map (at_place (record { lba = lba; line = line; at = at; position = position })) (place line at) else None

-- where a copy may be begun, out of this victim
abbrev pub copy_by : (ℕ → ℕ → Option (ℕ × ℕ)) → Bool → Option ℕ → ℕ → Option Slot → Option CopyPlace
copy_by place false victim lba slot = None
copy_by place true None lba slot = None
copy_by place true (Some line) lba slot = copy_from place line lba slot

-- The sector to which the search has come, where it is on the drive in the victim at work and a
-- copy may be begun.
abbrev pub copy_of : Core → Option CopyPlace
copy_of c = copy_by (place_of c) (may_copy c && nat_lt (searched_to c) c.layout.capacity) c.collection.victim (searched_to c)
    (fin.get c.map (searched_to c))
