-- What a step of a core leaves as it was.
use Rattle.std.specs.Prelude.{ℕ, ◌≤◌, ◌≡◌, Bool, false, length, max}
use Rattle.pblk_model.specs.Frames.{Region}
use Rattle.sector_pool.specs.declared.entry.Class.{Class}
use Rattle.sector_pool.specs.declared.entry.Class.TheVariants.{User, Copy}
use Rattle.write_window.specs.Window.{WindowView, AreOf}
use Rattle.pblk_core.specs.Copies.{is_copying, victim_asks}
use Rattle.pblk_core.specs.Landing.{AreKeptBeside}
use Rattle.pblk_core.specs.Named.{pad_of}
use Rattle.pblk_core.specs.declared.target_core.Core.{Core}

-- The pad target doesn't fall, and rises at most to what the victim at work then asks for.
pub record PadRises (old new : Core) : Type 0 where
  pub least : pad_of old ≤ pad_of new
  pub most : pad_of new ≤ max (pad_of old) (victim_asks new)

-- A step that neither places nor answers a stripe, and takes no entry.
pub record KeepsStripes (old new : Core) : Type 0 where
  -- each unit has the stripe that it had, under way or stopped as it was
  pub rows : new.placer.units ≡ old.placer.units
  -- a copy is under way exactly where one was
  pub copying : is_copying new ≡ is_copying old
  -- the pad target doesn't fall, and rises at most to what the victim asks for
  pub pad : PadRises old new

-- A step that places or answers a stripe of a unit.
pub record KeepsOtherStripes (unit : ℕ) (old new : Core) : Type 0 where
  -- each other unit has the stripe that it had, under way or stopped as it was
  pub rows : AreKeptBeside unit old new
  -- a copy is under way exactly where one was
  pub copying : is_copying new ≡ is_copying old
  -- the pad target doesn't fall, and rises at most to what the victim asks for
  pub pad : PadRises old new

-- whether a copy is under way once an entry of a class was taken: a copy's entry ends it
abbrev pub still_copying : Class → Bool → Bool
still_copying User copying = copying
still_copying Copy copying = false

-- A step that takes an entry of a class.
pub record KeepsStripesTaking (class : Class) (old new : Core) : Type 0 where
  -- each unit has the stripe that it had, under way or stopped as it was
  pub rows : new.placer.units ≡ old.placer.units
  -- a copy is under way where one was, unless this is its entry
  pub copying : is_copying new ≡ still_copying class (is_copying old)
  -- the pad target doesn't fall, and rises at most to what the victim asks for
  pub pad : PadRises old new

-- A window still holds the frames that it held.
pub record KeepsFrames (old new : WindowView) : Type 0 where
  -- all are of the pool of which they were
  pub own : (r : Region) → AreOf r old.entries → AreOf r new.entries
  -- and they are as many
  pub count : length new.entries ≡ length old.entries
