-- What a stop of the drive adds to a unit's log.
use Rattle.std.specs.Prelude.{ℕ, ◌≡◌, ◌⊎◌, ⊤, List, [], ◌∷◌, Option, Some, None}
use Rattle.pblk_model.specs.declared.shape.Shape.{Shape}
use Rattle.pblk_model.specs.ChunkStep.{WritesBlocks}
use Rattle.pblk_model.specs.UnitLog.{Stopped, UnitEvent, InFlight}

-- what the command in flight writes are blocks of a drive of this shape
abbrev pub WritesInFlight : Shape → Option InFlight → Type 0
WritesInFlight s None = ⊤
WritesInFlight s (Some f) = WritesBlocks s f.command

-- no event, or one in which the command in flight is stopped
abbrev pub IsStopOf : Option InFlight → List UnitEvent → Type 0
IsStopOf None more = more ≡ []
IsStopOf (Some f) more = (more ≡ []) ⊎ ((k : ℕ) × (more ≡ record { chunk = f.chunk; command = f.command; outcome = Stopped k } ∷ []))
