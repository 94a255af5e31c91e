-- A unit's last event, once its chunk was reset.
use Rattle.std.proofs.Common.{◌≡◌, ℕ, suc, ◌+◌, ◌-◌, ◌<◌, List, [], ◌∷◌, length, length-append, ap, ap₂, ◌∙◌, arith}
use Rattle.std.specs.Prelude.{slice_get}
use Rattle.std.specs.Option.{unwrap_or}
use Rattle.std.proofs.lemmas.Option.{slice_get_within}
use Rattle.pblk_model.specs.ChunkStep.{ChunkCommand}
use Rattle.pblk_model.specs.UnitLog.{UnitEvent, UnitOutcome}
use Rattle.pblk_model.proofs.Parts.{get_last}
use Rattle.unit_port.specs.Unit.{ModelUnit, Steps}
use Rattle.chronicle.specs.Prefixes.{Prefixes, logs_of}
use Rattle.pblk_engine.specs.Arms.{last_event, some_event}
use Rattle.pblk_engine.specs.Deeds.{event_of}
use Rattle.pblk_engine.specs.Resets.{IsLastOf}

-- it is the command
pub last_of_steps : (old new : ModelUnit) (chunk : ℕ) (command : ChunkCommand) (outcome : UnitOutcome) → Steps old chunk command outcome new
    → last_event new ≡ event_of chunk command outcome
last_of_steps old new chunk command outcome steps =
    let e : UnitEvent = event_of chunk command outcome in
    let long : length new.log ≡ length old.log + 1 = ap (λ (log : List UnitEvent). length log) steps.log ∙ length-append old.log (e ∷ []) in
    let end : length new.log - 1 ≡ length old.log = omega arith in
    ap (λ o. unwrap_or o some_event) (ap₂ (λ (log : List UnitEvent) n. slice_get log n) steps.log end ∙ get_last old.log e)

-- the log isn't empty
pub last_there : (known : Prefixes) (number : ℕ) (u : ModelUnit) (worker count : ℕ) → IsLastOf known number u worker count
    → suc (length (logs_of known (suc number)) - 1) ≡ length (logs_of known (suc number))
last_there known number u worker count last =
    let within : length (logs_of known (suc number)) - 1 < length (logs_of known (suc number)) =
    slice_get_within (logs_of known (suc number)) (length (logs_of known (suc number)) - 1) last.logged last.there in
    omega arith
