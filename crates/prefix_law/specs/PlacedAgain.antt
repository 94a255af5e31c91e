-- What was lost was placed again.
use Rattle.std.specs.Prelude.{◌≡◌, true, false, List}
use Rattle.std.specs.List.{Contains}
use Rattle.pblk_model.specs.declared.shape.Shape.{Shape}
use Rattle.pblk_world.specs.Events.{Logged}
use Rattle.pblk_world.specs.EngineLog.{Taken, takes}
use Rattle.pblk_world.specs.Fronts.{waits, was_placed}

-- each entry that waits was never placed: none of them was lost
abbrev pub ArePlacedAgain : Shape → List Logged → Type 0
ArePlacedAgain s log = (t : Taken) → Contains (takes log) t → waits s log t ≡ true → was_placed s log t ≡ false
