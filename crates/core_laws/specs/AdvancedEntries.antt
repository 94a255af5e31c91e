-- How far the entries of a window have come, and where the sectors of a map are, once more blocks
-- have landed.
use Rattle.std.specs.Prelude.{ℕ, Bool, true, map}
use Rattle.write_window.specs.declared.held.Progress.{Progress}
use Rattle.write_window.specs.declared.held.Progress.TheVariants.{Waiting, Landed, Readable}
use Rattle.core_laws.specs.WindowOf.{HeldSector, HeldSectors, progress_by}

-- The window.

-- an entry's progress once its block has landed or not, and can be read or not
abbrev pub advanced : Bool → Bool → Progress → Progress
advanced lands reads Waiting = progress_by lands reads
advanced lands reads Landed = progress_by true reads
advanced lands reads Readable = Readable

-- by the positions that have landed now, and those that can be read now
abbrev pub advanced_sector : (ℕ → Bool) → (ℕ → Bool) → HeldSector → HeldSector
advanced_sector lands reads h =
    record h { progress = advanced (lands h.position) (reads h.position) h.progress }

abbrev pub advanced_window : (ℕ → Bool) → (ℕ → Bool) → HeldSectors → HeldSectors
advanced_window lands reads w = record w { entries = map (advanced_sector lands reads) w.entries }
