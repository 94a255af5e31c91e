-- Pumps that a worker makes one after another, and how many of them did something.
use Rattle.std.specs.Prelude.{ℕ, ◌≡◌, Bool, true, false, List, [], ◌∷◌, length, Result, Ok, Err}
use Rattle.std.specs.List.{AllByRecursion, filter}
use Rattle.pblk_model.specs.Image.{Image}
use Rattle.pblk_world.specs.Events.{Logged}
use Rattle.unit_port.specs.Unit.{ModelUnit}
use Rattle.pblk_engine.specs.Pumps.{HasPumped}
use Rattle.pblk_engine.specs.Settlings.{HasWorked}
use Rattle.pblk_engine.specs.Stops.{is_stop_note}
use Rattle.pblk_engine.specs.Workers.{WorkerView}
use Rattle.pblk_engine.specs.declared.errors.DriveErr.{DriveErr}
use Rattle.pblk_engine.specs.declared.outcomes.Did.{Did}
use Rattle.pblk_engine.specs.declared.outcomes.Did.TheVariants as dids
use Rattle.pblk_engine.specs.declared.outcomes.Role.TheVariants as roles

-- a pump: its worker as it was before and after, and its answer
pub record Pump : Type 0 where
  pub before : WorkerView
  pub after : WorkerView
  pub answer : Result Did DriveErr

-- The worker made these pumps, one after another. Before each, and after the last, it took what was
-- filled and looked, which makes no command.
abbrev pub ArePumps : Image → List ModelUnit → WorkerView → List Pump → WorkerView → Type 0
ArePumps i handed old [] new = HasWorked old new []
ArePumps i handed old (p ∷ pumps) new = HasWorked old p.before [] × HasPumped i handed roles.All p.before p.after p.answer
    × ArePumps i handed p.after pumps new

-- What pumps did, by the engine's log.

-- whether a pump answers that it did something
abbrev pub is_work_told : Result Did DriveErr → Bool
is_work_told (Ok dids.NotCopied) = false
is_work_told (Ok dids.Other) = false
is_work_told (Ok (dids.Nothing why)) = false
is_work_told (Ok did) = true
is_work_told (Err e) = false

-- how many of these pumps did something
abbrev pub worked_of : List Pump → ℕ
worked_of pumps = length (filter (λ p. is_work_told p.answer) pumps)

-- by this log of the engine no program was stopped
abbrev pub NoneStopped : List Logged → Type 0
NoneStopped log = AllByRecursion (λ l. is_stop_note l.event ≡ false) log
