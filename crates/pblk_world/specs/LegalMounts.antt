-- The mounts that the laws are about: every legal one. What a law needs beyond that is a fact of
-- the engine's log.
use Rattle.std.specs.Prelude.{◌≡◌, not, Bool, true, false, List}
use Rattle.std.specs.List.{AllByRecursion}
use Rattle.pblk_model.specs.Accepted.{IsAccepted}
use Rattle.pblk_model.specs.Image.{Image, IsFit}
use Rattle.pblk_world.specs.Events.{EngineEvent, Take, Lost, Free, Event, Decides, Does, Logged}
use Rattle.pblk_world.specs.Fronts.{is_users}
use Rattle.pblk_world.specs.World.{World}
use Rattle.pblk_world.specs.Legal.{IsLegal}

-- A legal world over an image of an accepted shape. Units may fail and stop, the engine may copy
-- and free.
pub record IsLegalMount (i : Image) (w : World) : Type 0 where
  pub accepted : IsAccepted i.shape
  pub fit : IsFit i
  pub legal : IsLegal i w

-- Facts of the engine's log alone.

-- the engine freed a line
abbrev pub is_freeing : EngineEvent → Bool
is_freeing (Free line) = true
is_freeing e = false

-- the engine took a copy
abbrev pub is_copying : EngineEvent → Bool
is_copying (Take entry mark) = not (is_users entry.source)
is_copying e = false

-- the engine heard that a program failed
abbrev pub is_losing : EngineEvent → Bool
is_losing (Lost unit event) = true
is_losing e = false

-- whether the event is such a decision
abbrev pub decides : (EngineEvent → Bool) → Event → Bool
decides test (Decides e) = test e
decides test (Does e maker) = false

abbrev pub HasNone : (EngineEvent → Bool) → List Logged → Type 0
HasNone test log = AllByRecursion (λ l. decides test l.event ≡ false) log

-- no entry is a copy, no stripe was lost
abbrev pub NoneCopied : List Logged → Type 0
NoneCopied log = HasNone is_copying log

abbrev pub NoStripeLost : List Logged → Type 0
NoStripeLost log = HasNone is_losing log
