-- Images in which nothing failed before, and mounts in which nothing fails.
pub use Rattle.pblk_world.specs.Tidy.{HasWholeChunks, IsTidy, IsWholeChunk, has_free_chunks, is_free_state}
use Rattle.std.specs.Prelude.{ℕ, ◌<◌, ◌≡◌, ◌≢◌, suc, slice_index, Some}
use Rattle.std.specs.List.{Contains}
use Rattle.pblk_model.specs.Image.{Image, width}
use Rattle.pblk_model.specs.Shape.{units}
use Rattle.pblk_model.specs.UnitLog.{UnitEvent, Failed}
use Rattle.pblk_world.specs.EngineLog.{Begun, begun, named_events}
use Rattle.pblk_world.specs.World.{Logs, unit_event_at}

-- No event of a unit that the engine's log names failed. What a unit did beside these may be
-- anything.
pub record IsFaultless (logs : Logs) : Type 0 where
  pub none_failed : (unit number landed_before : ℕ) (e : UnitEvent)
      → Contains (named_events (logs 0) unit) number
      → unit_event_at logs unit number ≡ Some e → e.outcome ≢ Failed landed_before

-- No event of a unit failed that the mount had found when it began.
pub record IsFoundFaultless (logs : Logs) : Type 0 where
  pub none_failed : (b : Begun) → begun (logs 0) ≡ Some b
      → (unit number landed_before : ℕ) (e : UnitEvent)
      → number < slice_index b.knows (suc unit)
      → unit_event_at logs unit number ≡ Some e → e.outcome ≢ Failed landed_before

-- No line of the image is narrower than the drive: none of its chunks is Offline.
abbrev pub AreWide : Image → Type 0
AreWide i = (line : ℕ) → line < i.shape.chunks → width i line ≡ units i.shape
