-- Entries that are taken from the ring.
use Rattle.std.specs.Prelude.{ℕ, ◌≡◌, ◌+◌, ◌<◌, ◌≤◌, true, length, slice_get, Some}
use mathlib.Core.List.{IsPrefix}
use Rattle.write_ring.specs.Handles.{IsSamePart}
use Rattle.write_ring.specs.Stock.{HasPut}
use Rattle.write_ring.specs.declared.view.Row.{Row}
use Rattle.write_ring.specs.declared.view.View.{View}
use Rattle.pblk_core.specs.Copies.{is_copying}
use Rattle.pblk_core.specs.Named.{pad_of}
use Rattle.chronicle.specs.Prefixes.{ArePrefixes, logs_of}
use Rattle.pblk_engine.specs.Asks.{IsRaisedByVictims}
use Rattle.pblk_engine.specs.Hearts.{HasDecided, HeartView, Parts}

-- The intake has taken this row since, and it stands at its place in the list of what was taken: one
-- place later for each position.
pub record HasTakenRow (old new : View) (r : Row) : Type 0 where
  pub at : ℕ
  pub place : at + old.intake.taken ≡ length old.intake.took + r.position
  pub there : slice_get new.intake.took at ≡ Some r

-- More entries were taken, or none was: then nothing changed but what the last loads found.
pub record TakesOn (old new : Parts) : Type 0 where
  pub decided : HasDecided old.author new.author
  pub took : IsPrefix old.intake.intake.took new.intake.intake.took
  pub rises : old.intake.intake.taken ≤ new.intake.intake.taken
  -- a row for each position
  pub count : length new.intake.intake.took + old.intake.intake.taken ≡ length old.intake.intake.took + new.intake.intake.taken
  -- what the intake itself put at a position that was taken is what was taken there
  pub as_put : (r : Row) → HasPut r new.intake.pass → old.intake.intake.taken ≤ r.position → r.position < new.intake.intake.taken
      → HasTakenRow old.intake new.intake r
  pub claimed : old.intake.found.claimed ≤ new.intake.found.claimed
  pub granted : old.intake.intake.granted ≤ new.intake.intake.granted
  pub pass : new.intake.pass ≡ old.intake.pass
  -- a copy that is under way is so from before
  pub copying : is_copying new.core ≡ true → is_copying old.core ≡ true
  pub pad : pad_of old.core ≤ pad_of new.core
  pub pads : IsRaisedByVictims new.author.past.image (logs_of new.author.known) (pad_of old.core) (pad_of new.core)
  pub none : new.intake.intake.taken ≡ old.intake.intake.taken → (new.core ≡ old.core) × (new.author ≡ old.author)
      × (new.intake.intake ≡ old.intake.intake)

-- All that was claimed was taken, as it was put, and nothing else changed but what loads found where
-- nothing was taken.
pub record TakesClaims (old new : HeartView) : Type 0 where
  pub keeps : ArePrefixes old.author.known new.author.known
  pub rises : old.intake.intake.taken ≤ new.intake.intake.taken
  pub reached : old.intake.found.claimed ≤ new.intake.intake.taken
  pub copies : IsSamePart old.intake.pass new.intake.pass
  pub none : new.intake.intake.taken ≡ old.intake.intake.taken → new.author ≡ old.author
  pub as_put : (r : Row) → HasPut r old.intake.pass → old.intake.intake.taken ≤ r.position → r.position < new.intake.intake.taken
      → HasTakenRow old.intake new.intake r
