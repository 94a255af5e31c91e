-- Why entries are taken and why stripes are padded. That a number was granted, that a copy was begun
-- and that pads were asked for are no events of the engine's log. So each event that hangs on one of
-- these has its reason at an earlier length of that log.
use Rattle.std.specs.Prelude.{ℕ, ◌+◌, ◌<◌, ◌≤◌, ◌≡◌, ◌⊎◌, true, ⊤, List, take, slice_get, Option, Some, None}
use Rattle.std.specs.List.{list_any}
use Rattle.pblk_model.specs.declared.chunk.Mark.{Mark}
use Rattle.pblk_model.specs.Image.{Image}
use Rattle.pblk_world.specs.Events.{Entry, Source, Stripe, Logged, Take, Place, Decides}
use Rattle.pblk_world.specs.World.{Logs}
use Rattle.pblk_world.specs.EngineLog.{Taken, taken_by, bears_position}
use Rattle.pblk_world.specs.Fronts.{taken, last_take}
use Rattle.pblk_world.specs.Space.{room}
use Rattle.pblk_world.specs.Taking.{IsPlaceOfLatest}
use Rattle.pblk_world.specs.AtRest.{IsCopyDue, IsUrgent, logs_at, pad_target}

-- Users' entries.

-- There was room for all positions below this one, at a length of the engine's log that is at most n.
pub record WasRoom (i : Image) (logs : Logs) (n upto : ℕ) : Type 0 where
  pub at : ℕ
  pub has_begun : 0 < at
  pub within : at ≤ n
  pub room : upto ≤ room i (logs_at at logs)

-- Each user's entry was taken where there had been room for it.
pub record AreGranted (i : Image) (logs : Logs) : Type 0 where
  pub each : (k : ℕ) (knows : List ℕ) (entry : Entry) (mark : Mark)
      → slice_get (logs 0) k ≡ Some (record { event = Decides (Take entry mark); knows = knows })
      → entry.source ≡ None → WasRoom i logs k (entry.position + 1)

-- Copies.

abbrev IsOfCopy : Option Source → Type 0
IsOfCopy None = ⊥
IsOfCopy (Some source) = ⊤

-- an event that takes a copy
abbrev pub TakesCopy : Logged → Type 0
TakesCopy l = (t : Taken) × (taken_by l.event ≡ Some t) × IsOfCopy t.entry.source

-- A copy of this sector from this source was begun, at a length of the engine's log that is at most n.
-- There a copy was due, the source's line was the victim at work, and the sector's latest was there. No
-- other copy was taken from that length on, so one is under way at a time. Positions are claimed in
-- their order: users' entries that were taken from that length on had been granted there.
pub record WasBegun (i : Image) (logs : Logs) (n lba : ℕ) (source : Source) : Type 0 where
  pub at : ℕ
  pub has_begun : 0 < at
  pub within : at ≤ n
  pub due : IsCopyDue i (logs_at at logs)
  pub line : source.line ≡ due.line
  pub latest : IsPlaceOfLatest i (logs_at at logs) lba source (last_take (take at (logs 0)) lba)
  pub alone : (k : ℕ) (l : Logged) → at ≤ k → k < n → slice_get (logs 0) k ≡ Some l → ¬ TakesCopy l
  pub granted : (k : ℕ) (knows : List ℕ) (entry : Entry) (mark : Mark) → at ≤ k → k < n
      → slice_get (logs 0) k ≡ Some (record { event = Decides (Take entry mark); knows = knows })
      → entry.source ≡ None → WasRoom i logs at (entry.position + 1)

-- Each copy that was taken had been begun.
pub record AreBegun (i : Image) (logs : Logs) : Type 0 where
  pub each : (k : ℕ) (knows : List ℕ) (entry : Entry) (mark : Mark) (source : Source)
      → slice_get (logs 0) k ≡ Some (record { event = Decides (Take entry mark); knows = knows })
      → entry.source ≡ Some source → WasBegun i logs k entry.lba source

-- Pads.

-- Pads were asked for up to this position, at a length of the engine's log that is at most n: by a flush
-- or the close, where all of it was taken and no copy was due, or by the victim at work.
pub record WasAsked (i : Image) (logs : Logs) (n upto : ℕ) : Type 0 where
  pub at : ℕ
  pub has_begun : 0 < at
  pub within : at ≤ n
  pub why : ((upto ≤ taken (take at (logs 0))) × (¬ IsCopyDue i (logs_at at logs)))
      ⊎ (upto ≤ pad_target i (logs_at at logs) 0)

-- A stripe was placed at this length with entries: a full stripe of them waited, or one of them was below
-- a position up to which pads had been asked for.
pub record WasUrgent (i : Image) (logs : Logs) (n : ℕ) : Type 0 where
  pub upto : ℕ
  pub urgent : IsUrgent i.shape (take n (logs 0)) upto
  pub asked : 0 < upto → WasAsked i logs n upto

-- Each stripe with an entry was placed where it was urgent.
pub record AreUrgent (i : Image) (logs : Logs) : Type 0 where
  pub each : (k : ℕ) (knows : List ℕ) (stripe : Stripe) (position : ℕ)
      → slice_get (logs 0) k ≡ Some (record { event = Decides (Place stripe); knows = knows })
      → list_any (bears_position i.shape position) stripe.blocks ≡ true → WasUrgent i logs k

-- All that the engine did of these had its reason.
pub record HasReasons (i : Image) (logs : Logs) : Type 0 where
  pub granted : AreGranted i logs
  pub begun : AreBegun i logs
  pub urgent : AreUrgent i logs
