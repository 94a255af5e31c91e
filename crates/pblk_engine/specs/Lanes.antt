-- What a lane or a collector did, from its start to its end.
use Rattle.std.specs.Prelude.{ℕ, ◌≡◌, true, false, List, [], ◌∷◌, ◌++◌}
use Rattle.std.specs.List.{AllByRecursion}
use Rattle.unit_port.specs.Armed.{is_stop}
use Rattle.pblk_engine.specs.Closings.{closing_of, set_of}
use Rattle.pblk_engine.specs.Pumps.{AreOfRole, GoesOn}
use Rattle.pblk_engine.specs.Workers.{Made, WorkerView}
use Rattle.pblk_engine.specs.declared.closing.Closing.{Closing}
use Rattle.pblk_engine.specs.declared.closing.LaneEnd.{LaneEnd}
use Rattle.pblk_engine.specs.declared.closing.LaneEnd.TheVariants as ends
use Rattle.pblk_engine.specs.declared.outcomes.Role.{Role}

-- none of these commands was stopped
abbrev pub NoStops : List Made → Type 0
NoStops more = AllByRecursion (λ m. is_stop m.event.outcome ≡ false) more

-- The last of these commands was stopped, and it is one of this unit. None of the others was.
pub record IsStopOf (more : List Made) (unit : ℕ) : Type 0 where
  pub others : List Made
  pub last : Made
  pub all : more ≡ others ++ last ∷ []
  pub none : NoStops others
  pub stopped : is_stop last.event.outcome ≡ true
  pub of : last.unit ≡ unit

-- How it ended, by the commands that its worker made: the closing was set, or a command of the unit
-- was stopped.
abbrev pub TellsLane : Closing → List Made → LaneEnd → Type 0
TellsLane closing more (ends.Closed s) = (set_of s ≡ closing_of closing) × NoStops more
TellsLane closing more (ends.Stopped unit) = IsStopOf more unit

-- A worker pumped in a role until this closing was set, or until a command was stopped.
pub record HasRunAs (role : Role) (closing : Closing) (old new : WorkerView) (end : LaneEnd) : Type 0 where
  pub more : List Made
  pub on : GoesOn old new more
  pub made : AreOfRole role more
  pub tells : TellsLane closing more end
