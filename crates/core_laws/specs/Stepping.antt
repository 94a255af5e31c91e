-- One more event in the engine's log.
use Rattle.std.specs.Prelude.{ℕ, zero, suc, List, [], ◌∷◌, ◌++◌}
use Rattle.pblk_world.specs.Events.{EngineEvent, Decides}
use Rattle.pblk_world.specs.World.{Logs}

-- the logs after an event of the engine that names these prefixes
abbrev pub after : Logs → EngineEvent → List ℕ → Logs
after logs e knows zero = logs zero ++ record { event = Decides e; knows = knows } ∷ []
after logs e knows (suc unit) = logs (suc unit)
