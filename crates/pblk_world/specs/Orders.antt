-- In which order a target does its work, as facts of the engine's log: what holds of the logs as they
-- are before an event.
use Rattle.std.specs.Prelude.{ℕ, ◌<◌, ◌≡◌, ◌≢◌, true, ⊤, List, length, slice_get, Some}
use Rattle.pblk_model.specs.Image.{Image}
use Rattle.pblk_model.specs.StartRecord.{StartRecord}
use Rattle.pblk_world.specs.AtRest.{logs_at}
use Rattle.pblk_world.specs.Events.{EngineEvent, Begin, Open, Place, Free, Stripe, Decides}
use Rattle.pblk_world.specs.Freeing.{MayFree}
use Rattle.pblk_world.specs.Fronts.{waiting}
use Rattle.pblk_world.specs.Lines.{known_image, are_empty, is_given_up}
use Rattle.pblk_world.specs.Space.{open_addresses}
use Rattle.pblk_world.specs.World.{Logs}

-- No line may be freed.
abbrev pub NoneToFree : Image → Logs → Type 0
NoneToFree i logs = (line : ℕ) → ¬ MayFree i logs line

-- No reset is left to be made: each chunk of a line that was given up, freed or a stray, is Free or
-- Offline.
abbrev pub AreReset : Image → Logs → Type 0
AreReset i logs = (line : ℕ) → line < i.shape.chunks → is_given_up (logs 0) line ≡ true
    → are_empty (known_image i logs) line ≡ true

-- An entry waits, and no open line has an address left.
pub record LacksAddress (i : Image) (logs : Logs) : Type 0 where
  pub waits : 0 < length (waiting i.shape (logs 0))
  pub full : open_addresses i logs ≡ 0

-- Resets come first: each stripe was placed, and each line opened, where no chunk was to be reset.
pub record AreAfterResets (i : Image) (logs : Logs) : Type 0 where
  pub stripes : (k : ℕ) (knows : List ℕ) (stripe : Stripe)
      → slice_get (logs 0) k ≡ Some (record { event = Decides (Place stripe); knows = knows })
      → AreReset i (logs_at k logs)
  pub lines : (k : ℕ) (knows : List ℕ) (line : ℕ) (start : StartRecord)
      → slice_get (logs 0) k ≡ Some (record { event = Decides (Open line start); knows = knows })
      → AreReset i (logs_at k logs)

-- Each line was opened where an entry waited and no open line had an address left.
pub record AreOpenedFull (i : Image) (logs : Logs) : Type 0 where
  pub each : (k : ℕ) (knows : List ℕ) (line : ℕ) (start : StartRecord)
      → slice_get (logs 0) k ≡ Some (record { event = Decides (Open line start); knows = knows })
      → LacksAddress i (logs_at k logs)

-- Lines are freed at once: once the mount had begun, none might be freed before an event, unless that
-- event frees one.
pub record NoneWasLeft (i : Image) (logs : Logs) : Type 0 where
  pub each : (k : ℕ) (knows : List ℕ) (e : EngineEvent) → 0 < k
      → slice_get (logs 0) k ≡ Some (record { event = Decides e; knows = knows })
      → ((line : ℕ) → e ≢ Free line) → NoneToFree i (logs_at k logs)

-- All of these together: what holds before an event, by its kind.
abbrev pub IsInOrder : Image → Logs → EngineEvent → Type 0
IsInOrder i logs (Begin b) = ⊤
IsInOrder i logs (Open line start) = NoneToFree i logs × AreReset i logs × LacksAddress i logs
IsInOrder i logs (Place stripe) = NoneToFree i logs × AreReset i logs
IsInOrder i logs (Free line) = ⊤
IsInOrder i logs e = NoneToFree i logs

pub record AreInOrder (i : Image) (logs : Logs) : Type 0 where
  pub each : (k : ℕ) (knows : List ℕ) (e : EngineEvent) → 0 < k
      → slice_get (logs 0) k ≡ Some (record { event = Decides e; knows = knows })
      → IsInOrder i (logs_at k logs) e
