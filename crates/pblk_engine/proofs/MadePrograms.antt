-- What a worker made of its stripe, as an arm tells it.
use Rattle.std.proofs.Common.{◌≡◌, ℕ, suc, ◌<◌, ◌≤◌, Result, Ok, Err, List, [], ◌∷◌, ◌++◌, length, refl, sym, subst, ap, ◌∙◌}
use Rattle.pblk_model.specs.Image.{Image}
use Rattle.pblk_model.specs.Shape.{units}
use Rattle.pblk_world.specs.Events.{Logged}
use Rattle.pblk_core.specs.Filling.{Filling}
use Rattle.unit_port.specs.Armed.{is_stop}
use Rattle.unit_port.specs.Unit.{ModelUnit}
use Rattle.chronicle.specs.Prefixes.{Prefixes, AreLegalLogs, ArePrefixes, logs_of, longer_of}
use Rattle.scan_recovery.proofs.Losses.{stop_lost}
use Rattle.pblk_engine.specs.Answers.{IsLastProgram}
use Rattle.pblk_engine.specs.Arms.{ArmView, number_told}
use Rattle.pblk_engine.specs.Deeds.{HasProgrammed, IsProgrammed}
use Rattle.pblk_engine.specs.Placements.{IsPlacedAs}
use Rattle.pblk_engine.specs.Programs.{HasMade, HasTried}
use Rattle.pblk_engine.specs.Pumps.{AreOfRole, HasPumped, TellsPump}
use Rattle.pblk_engine.specs.Stops.{stop_count}
use Rattle.pblk_engine.specs.WorkSince.{HasPlacedOn}
use Rattle.pblk_engine.specs.Workers.{Made, WorkerView}
use Rattle.pblk_engine.specs.declared.arm.Programmed.{Programmed}
use Rattle.pblk_engine.specs.declared.arm.Programmed.TheVariants as programmed
use Rattle.pblk_engine.specs.declared.commands.Ended.{Ended}
use Rattle.pblk_engine.specs.declared.commands.Ended.TheVariants as ended
use Rattle.pblk_engine.specs.declared.errors.DriveErr.{DriveErr}
use Rattle.pblk_engine.specs.declared.outcomes.Did.{Did}
use Rattle.pblk_engine.specs.declared.outcomes.Did.TheVariants as dids
use Rattle.pblk_engine.specs.declared.outcomes.Role.{Role}
use Rattle.pblk_engine.specs.declared.outcomes.Role.TheVariants as roles
use Rattle.pblk_engine.proofs.GoingOn.{fault_one, goes_learned, goes_one, goes_placed, write_kept}
use Rattle.pblk_engine.proofs.RoleCommands.{grown_of_role, write_of_lane}
use Rattle.pblk_engine.proofs.Stops.{count_grows}
use Rattle.pblk_engine.proofs.ToldPrograms.{answers_for}

module _ (i : Image) (handed : List ModelUnit) (engine told : Prefixes) (old new : ArmView) (was now : WorkerView) (stops : ℕ)
    (unit : was.stripe.stripe.unit ≡ old.number) where
  abbrev before : Prefixes
  before = longer_of old.known engine

  pub has_made : (how : Ended) (event : ℕ) → HasProgrammed old new was now before how
      → event ≡ number_told handed old.number (length (logs_of before (suc old.number))) → HasMade handed was now how event
  has_made how event is number =
      let done = is.done in
      record {
        made = record { unit = old.number; number = length (logs_of before (suc old.number)); event = _ };
        on = record { number = done.worker; keeps = done.keeps; made = done.made; asked = done.asked };
        unit = sym unit;
        command = (was.stripe.stripe.at, was.stripe.stripe.blocks, refl);
        tells = done.told;
        number = number;
        stripe = done.stripe;
      }

  -- the unit's arm met a note by which the stripe was placed
  pub has_tried : (how : Programmed) → IsProgrammed old new was now before how
      → ((ends : Ended) (event : ℕ) → how ≡ programmed.Made ends event → event ≡ number_told handed old.number (length (logs_of before (suc old.number))))
      → told ≡ new.known → AreLegalLogs i told → was.stripe.stripe.unit < units i.shape → IsPlacedAs (logs_of engine 0) was.stripe
      → stops ≤ stop_count (logs_of engine 0) was.stripe.stripe.unit → ArePrefixes engine new.known → HasTried handed was now told stops how
  has_tried programmed.Waits is number knows legal inside placed counted learns = is.1
  has_tried (programmed.Made how event) is number knows legal inside placed counted learns = (
    has_made how event is.0 (number how event refl),
    subst (λ (k : Prefixes). IsLastProgram k was.stripe how stops) (sym knows)
        (answers_for i engine before old new was now how stops (subst (AreLegalLogs i) knows legal) inside unit placed counted learns is.0),
  )

-- as many stops are noted later, or more
pub counted_later : (early late : Prefixes) (unit : ℕ) → ArePrefixes early late
    → stop_count (logs_of early 0) unit ≤ stop_count (logs_of late 0) unit
counted_later early late unit is =
    subst (λ (log : List Logged). stop_count (logs_of early 0) unit ≤ stop_count log unit) (is.each 0).1
    (count_grows (logs_of early 0) (is.each 0).0 unit)

-- ---- what a pump answers that placed a stripe and had it programmed

abbrev pub answer_of : Ended → ℕ → ℕ → Result Did DriveErr
answer_of ended.Done unit event = Ok dids.Programmed
answer_of (ended.Failed kept) unit event = Ok (dids.Lost unit)
answer_of ended.Stopped unit event = Err (record { unit = unit; event = event })

module _ (i : Image) (handed : List ModelUnit) (old placed made new : WorkerView) (place : placed ≡ record old { stripe = placed.stripe }) (event unit : ℕ)
    (learns : new ≡ record made { known = new.known }) (keeps : ArePrefixes made.known new.known) (on : unit ≡ made.stripe.stripe.unit) where
  -- what it made is a program
  pub lane_made : (how : Ended) → HasMade handed placed made how event → (more : List Made) → new.made ≡ old.made ++ more → AreOfRole roles.Lane more
  lane_made how is =
      grown_of_role roles.Lane old new (is.made ∷ [])
      (goes_one old placed made new is.made (goes_placed old placed place) is.on (goes_learned made new learns keeps))
      (write_of_lane is.made.event is.command, tt)

  pub pumped_made : (role : Role) (how : Ended) → HasMade handed placed made how event → HasPlacedOn unit old.known new.known
      → HasPumped i handed role old new (answer_of how unit event)
  pumped_made role how is worked = record {
    more = is.made ∷ [];
    on = goes_one old placed made new is.made (goes_placed old placed place) is.on (goes_learned made new learns keeps);
    tells = tells how is;
  }
    where
      its_unit : (how : Ended) (is : HasMade handed placed made how event) → is.made.unit ≡ unit
      its_unit how is = is.unit ∙ ap (λ (f : Filling). f.stripe.unit) (sym is.stripe) ∙ sym on

      tells : (how : Ended) (is : HasMade handed placed made how event)
          → TellsPump i handed role old.known new.known (is.made ∷ []) (answer_of how unit event)
      tells ended.Done is = (
        (write_kept is.made.event is.command (ap is_stop is.tells), tt),
        (
          record { made = is.made; only = refl; asked = is.command; told = is.tells },
          subst (λ n. HasPlacedOn n old.known new.known) (sym (its_unit ended.Done is)) worked,
        ),
      )
      tells (ended.Failed kept) is = (
        (write_kept is.made.event is.command (ap is_stop is.tells.1), tt),
        (record { made = is.made; only = refl; asked = is.command; told = (is.tells.0, is.tells.1) }, its_unit (ended.Failed kept) is, worked),
      )
      tells ended.Stopped is = (
        fault_one handed is.made (record { unit = unit; event = event }) (stop_lost is.made.event (ap is_stop is.tells.1)) (sym (its_unit ended.Stopped is))
            is.number,
        refl,
      )
