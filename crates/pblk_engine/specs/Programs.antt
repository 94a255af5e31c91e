-- What a worker made of its stripe.
use Rattle.std.specs.Prelude.{ℕ, ◌≡◌, List, [], ◌∷◌}
use Rattle.unit_port.specs.Unit.{ModelUnit}
use Rattle.chronicle.specs.Prefixes.{Prefixes}
use Rattle.pblk_engine.specs.Answers.{IsLastProgram}
use Rattle.pblk_engine.specs.Arms.{number_told}
use Rattle.pblk_engine.specs.Ended.{TellsEnded}
use Rattle.pblk_engine.specs.Pumps.{GoesOn, IsWrite}
use Rattle.pblk_engine.specs.Workers.{Made, WorkerView}
use Rattle.pblk_engine.specs.declared.arm.Programmed.{Programmed}
use Rattle.pblk_engine.specs.declared.arm.Programmed.TheVariants as programmed
use Rattle.pblk_engine.specs.declared.commands.Ended.{Ended}

-- The worker's stripe was programmed. The event has this number in its unit's log, from 1.
pub record HasMade (handed : List ModelUnit) (was now : WorkerView) (how : Ended) (event : ℕ) : Type 0 where
  pub made : Made
  pub on : GoesOn was now (made ∷ [])
  pub unit : made.unit ≡ was.stripe.stripe.unit
  pub command : IsWrite made.event.command
  pub tells : TellsEnded was.stripe.shape.ws_min how made.event.outcome
  pub number : event ≡ number_told handed made.unit made.number
  pub stripe : now.stripe ≡ was.stripe

-- The stripe has to wait; or it was programmed, and that is the last event of its unit that is
-- known then.
abbrev pub HasTried : List ModelUnit → WorkerView → WorkerView → Prefixes → ℕ → Programmed → Type 0
HasTried handed was now known stops programmed.Waits = now ≡ was
HasTried handed was now known stops (programmed.Made how event) =
    HasMade handed was now how event × IsLastProgram known was.stripe how stops
