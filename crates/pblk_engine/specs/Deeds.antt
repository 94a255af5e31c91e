-- What a command leaves of a unit's arm and of the worker that made it.
use Rattle.std.specs.Prelude.{ℕ, suc, ◌≡◌, ◌-◌, ◌^◌, ◌<◌, ◌++◌, [], ◌∷◌, length, min}
use Rattle.pblk_model.specs.ChunkStep.{ChunkCommand, Write}
use Rattle.pblk_model.specs.UnitLog.{UnitEvent, UnitOutcome}
use Rattle.pblk_world.specs.Commanding.{ended_stripes}
use Rattle.pblk_world.specs.Events.{Does}
use Rattle.unit_port.specs.Unit.{Steps}
use Rattle.chronicle.specs.Prefixes.{Prefixes, logs_of, ArePrefixes, with_event}
use Rattle.pblk_engine.specs.Arms.{ArmView}
use Rattle.pblk_engine.specs.Workers.{WorkerView}
use Rattle.pblk_engine.specs.Ended.{TellsEnded}
use Rattle.pblk_engine.specs.declared.commands.Ended.{Ended}
use Rattle.pblk_engine.specs.declared.arm.Programmed.{Programmed}
use Rattle.pblk_engine.specs.declared.arm.Programmed.TheVariants as programmed

abbrev pub event_of : ℕ → ChunkCommand → UnitOutcome → UnitEvent
event_of chunk command outcome = record { chunk = chunk; command = command; outcome = outcome }

-- A worker had the unit do a command. The arm knew so much before it. It has noted the command with
-- its maker, and the worker knows that.
pub record HasDone (old new : ArmView) (was now : WorkerView) (before : Prefixes) (chunk : ℕ) (command : ChunkCommand)
    (tells : UnitOutcome → Type 0) : Type 0 where
  pub outcome : UnitOutcome
  pub told : tells outcome
  pub steps : Steps old.unit chunk command outcome new.unit
  pub known : new.known ≡ with_event before (suc old.number) (Does (event_of chunk command outcome) (record { worker = was.number; made = length was.made }))
  pub made : now.made ≡ was.made ++ record { unit = old.number; number = length (logs_of before (suc old.number)); event = event_of chunk command outcome } ∷ []
  pub stripe : now.stripe ≡ was.stripe
  pub asked : now.asked ≡ was.asked
  pub worker : now.number ≡ was.number
  pub keeps : ArePrefixes was.known now.known
  pub learns : ArePrefixes new.known now.known

-- The worker's stripe was programmed at its turn.
pub record HasProgrammed (old new : ArmView) (was now : WorkerView) (before : Prefixes) (how : Ended) : Type 0 where
  pub done : HasDone old new was now before was.stripe.stripe.chunk (Write was.stripe.stripe.at was.stripe.stripe.blocks)
      (TellsEnded was.stripe.shape.ws_min how)
  -- the mount had begun
  pub begun : 0 < length (logs_of before 0)
  -- so many of the unit's stripes had ended
  pub turn : ended_stripes (logs_of before (suc old.number)) ≡ was.stripe.turn
  pub below : was.stripe.turn < 2 ^ 64 - 1

-- The stripe has to wait, and nothing was done; or it was programmed. The event has this number in
-- the unit's log, from 1. From 2^64 - 1 on the number stands still.
abbrev pub IsProgrammed : ArmView → ArmView → WorkerView → WorkerView → Prefixes → Programmed → Type 0
IsProgrammed old new was now before programmed.Waits = (new ≡ record old { known = before }) × (now ≡ was)
IsProgrammed old new was now before (programmed.Made how event) =
    HasProgrammed old new was now before how × (event ≡ min (length new.unit.log) (2 ^ 64 - 1))
