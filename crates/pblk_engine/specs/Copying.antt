-- Blocks that are fetched to be copied.
use Rattle.std.specs.Prelude.{ℕ, ◌≡◌, ◌⊎◌, ◌+◌, ◌^◌, ◌<◌, ◌≤◌, ◌++◌, List, [], ◌∷◌, length, min, true, Some}
use Rattle.pblk_model.specs.Image.{Image}
use Rattle.pblk_world.specs.Reasons.{WasBegun}
use Rattle.pblk_world.specs.World.{Logs}
use Rattle.write_ring.specs.Steps.{LieBelow}
use Rattle.write_ring.specs.declared.view.Key.{Key}
use Rattle.write_ring.specs.declared.view.Row.{Row}
use Rattle.write_ring.specs.declared.view.View.{View}
use Rattle.pblk_core.specs.declared.collecting.CopyJob.{CopyJob}
use Rattle.pblk_engine.specs.Fetches.{IsReadableAt}
use Rattle.pblk_engine.specs.declared.copying.CopyPlace.{CopyPlace}

-- By these logs the block at this place can be read, and its sector is this.
pub record IsFetched (i : Image) (logs : Logs) (of : CopyPlace) (bytes : List ℕ) : Type 0 where
  pub there : IsReadableAt i logs of.unit of.job.line of.block
  pub sector : bytes ≡ there.block.sector

-- A copy of this sector from this source is begun at the length that the engine's log has.
pub record IsBegunNow (i : Image) (logs : Logs) (job : CopyJob) : Type 0 where
  pub begun : WasBegun i logs (length (logs 0)) job.lba (record { line = job.line; at = job.at; position = job.position })
  pub at : begun.at ≡ length (logs 0)

-- the row of a copy at a position
abbrev pub copy_row : CopyJob → ℕ → List ℕ → Row
copy_row job position sector = record {
  position = position;
  copy = true;
  lba = job.lba;
  source = Some (record { line = job.line; at = job.at; position = job.position });
  sector = sector;
}

-- The intake has claimed one position more, for a copy of this sector from its source, and put it
-- there with these bytes. No claim that it had before has a position from there on.
pub record HasClaimed (job : CopyJob) (sector : List ℕ) (old new : View) : Type 0 where
  pub first : ℕ
  pub past : old.found.claimed ≤ first
  pub put : new.pass ≡ record old.pass {
    claims = old.pass.claims ++ record { first = first; count = 1; copy = true } ∷ [];
    puts = old.pass.puts ++ copy_row job first sector ∷ [];
    next = first + 1;
    until = first + 1;
    copy = true;
  }
  pub own : LieBelow first old.pass.claims

-- The intake has claimed this position, for a copy of this sector from its source, and put it there
-- with these bytes. It had found no more claimed than that.
pub record HasPutAt (job : CopyJob) (at : ℕ) (sector : List ℕ) (old new : View) : Type 0 where
  pub past : old.found.claimed ≤ at
  pub claims : new.pass.claims ≡ old.pass.claims ++ record { first = at; count = 1; copy = true } ∷ []
  pub puts : new.pass.puts ≡ old.pass.puts ++ copy_row job at sector ∷ []

-- One try to claim a position for a copy was refused, by what it found: the claim would have ended
-- above the ring's room, or another claim came between.
abbrev pub WasRefused : Key → View → View → Type 0
WasRefused key old new =
    ((new.found.steps ≡ old.found.steps + 2) × (min (new.found.freed + key.size) (2 ^ 62) < new.found.claimed + 1))
    ⊎ ((new.found.steps ≡ old.found.steps + 3) × (new.found.claimed < new.found.met))
