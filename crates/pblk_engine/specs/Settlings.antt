-- To what an engine comes that is worked off.
use Rattle.std.specs.Prelude.{ℕ, ◌≡◌, ◌≤◌, ◌⊎◌, false, List, ◌++◌, length, max, Result, Ok, Err}
use Rattle.pblk_model.specs.Image.{Image}
use Rattle.pblk_world.specs.AtRest.{IsAtRest, IsWornFlush}
use Rattle.pblk_world.specs.Events.{Logged}
use Rattle.pblk_world.specs.Fronts.{synced, taken}
use Rattle.pblk_world.specs.Space.{is_due}
use Rattle.pblk_world.specs.World.{Logs}
use Rattle.unit_port.specs.Unit.{ModelUnit}
use Rattle.write_ring.specs.declared.view.Key.{Key}
use Rattle.write_ring.specs.declared.view.Part.{Part}
use Rattle.write_ring.specs.Handles.{AreAllClaims}
use Rattle.chronicle.specs.Prefixes.{Prefixes, logs_of, ArePrefixes}
use Rattle.pblk_engine.specs.Pumps.{IsFaultOf, NoFaults}
use Rattle.pblk_engine.specs.Workers.{Made, WorkerView}
use Rattle.pblk_engine.specs.declared.errors.SettleErr.{SettleErr}
use Rattle.pblk_engine.specs.declared.errors.SettleErr.TheVariants as errors

-- By this log of the engine all that was claimed is taken: each position from the ring's first one
-- to the front taken is in one claim of the pass or of the intake, and no other position is in any.
pub record IsAllTaken (key : Key) (pass : Part) (log : List Logged) : Type 0 where
  pub copies : Part
  pub claims : AreAllClaims key.first (taken log) pass copies

-- All below this position was taken and is on the drive, and collection isn't due or the engine's
-- log is at rest, at its length.
pub record IsWorkedOff (i : Image) (logs : Logs) (claimed : ℕ) : Type 0 where
  pub all_taken : claimed ≡ taken (logs 0)
  pub on_drive : synced i.shape (logs 0) ≡ taken (logs 0)
  pub resting : (is_due i logs ≡ false) ⊎ IsAtRest i logs 0 (length (logs 0))

-- All below this position was taken and asked for, not all of it is on the drive, and the engine's
-- log is at rest, at its length.
pub record IsWornAt (i : Image) (logs : Logs) (claimed have : ℕ) : Type 0 where
  pub all_taken : claimed ≡ taken (logs 0)
  pub worn : IsWornFlush i logs (length (logs 0)) claimed have

-- A worker went on. It may have asked for pads, up to the front taken.
pub record HasWorked (old new : WorkerView) (more : List Made) : Type 0 where
  pub number : new.number ≡ old.number
  pub keeps : ArePrefixes old.known new.known
  pub made : new.made ≡ old.made ++ more
  pub asked : new.asked ≤ max old.asked (taken (logs_of new.known 0))
  pub asked_before : old.asked ≤ new.asked

-- What the call tells of the logs that the worker knows at its end, with the commands that the
-- worker made in it: all that was claimed is on the drive, and collection isn't due or the engine
-- is at rest; or it is worn; or a command was lost.
abbrev pub TellsSettled : Image → Key → List ModelUnit → Part → Prefixes → List Made → Result (Unit {0}) SettleErr → Type 0
TellsSettled i key handed pass known more (Ok _) = NoFaults more × IsAllTaken key pass (logs_of known 0)
    × (synced i.shape (logs_of known 0) ≡ taken (logs_of known 0))
    × ((is_due i (logs_of known) ≡ false) ⊎ IsAtRest i (logs_of known) 0 (length (logs_of known 0)))
TellsSettled i key handed pass known more (Err (errors.Worn wanted have)) = NoFaults more × IsAllTaken key pass (logs_of known 0)
    × (wanted ≡ taken (logs_of known 0)) × IsWornFlush i (logs_of known) (length (logs_of known 0)) wanted have
TellsSettled i key handed pass known more (Err (errors.Drive unit event)) = IsFaultOf handed more (record { unit = unit; event = event })

pub record HasSettled (i : Image) (key : Key) (handed : List ModelUnit) (pass : Part) (old new : WorkerView)
    (result : Result (Unit {0}) SettleErr) : Type 0 where
  pub more : List Made
  pub on : HasWorked old new more
  pub tells : TellsSettled i key handed pass new.known more result
