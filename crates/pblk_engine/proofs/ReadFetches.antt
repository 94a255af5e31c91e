-- What a worker's fetches of a read did, one after another.
use Rattle.std.proofs.Common.{◌≡◌, inl, inr, ℕ, suc, Bool, true, false, List, [], ◌∷◌, ◌++◌, append_assoc, length, refl, sym, subst, ap, ◌∙◌}
use Rattle.std.specs.Prelude.{Result, Ok, Err}
use Rattle.pblk_model.specs.declared.shape.Shape.{Shape}
use Rattle.pblk_model.specs.ChunkStep.{Read}
use Rattle.pblk_model.specs.UnitLog.{UnitOutcome}
use Rattle.pblk_model.proofs.Lists.{all_append}
use Rattle.scan_recovery.specs.DriveFaults.{is_drive_fault}
use Rattle.unit_port.specs.Armed.{is_fail, is_stop}
use Rattle.unit_port.specs.Unit.{ModelUnit}
use Rattle.chronicle.specs.Prefixes.{Prefixes, logs_of}
use Rattle.pblk_engine.specs.Arms.{ArmView, number_told}
use Rattle.pblk_engine.specs.Deeds.{HasDone, event_of}
use Rattle.pblk_engine.specs.Fetches.{HasSought, TellsFetch, TellsMarked}
use Rattle.pblk_engine.specs.Pumps.{GoesOn, NoFaults, fault_of}
use Rattle.pblk_engine.specs.Reads.{HasFetchedPlace, IsLostFetch, WentWell}
use Rattle.pblk_engine.specs.Workers.{Made, WorkerView}
use Rattle.pblk_engine.specs.declared.errors.DriveErr.{DriveErr}
use Rattle.pblk_engine.specs.declared.errors.FetchErr.{FetchErr}
use Rattle.pblk_engine.specs.declared.sector_looks.SectorPlace.{SectorPlace}
use Rattle.pblk_engine.proofs.GoingOn.{answer_kept, goes_still, goes_then}
use Rattle.pblk_engine.proofs.PumpSteps.{cause_lost, unanswered_lost}

-- ---- one after another

pub well_still : (w : WorkerView) → WentWell w w
well_still w = record { more = []; on = goes_still w; none = tt }

pub well_then : (a b c : WorkerView) (more : List Made) → WentWell a b → GoesOn b c more → NoFaults more → WentWell a c
well_then a b c more well on none = record {
  more = well.more ++ more;
  on = goes_then a b c well.more more well.on on;
  none = all_append (λ (m : Made). is_drive_fault m.event ≡ false) well.more more well.none none;
}

-- the lost one is the last also of more commands
pub lost_after : (handed : List ModelUnit) (unit line block : ℕ) (before more : List Made) (e : DriveErr) → NoFaults before
    → IsLostFetch handed unit line block more e → IsLostFetch handed unit line block (before ++ more) e
lost_after handed unit line block before more e none is = record {
  fault = record {
    others = before ++ is.fault.others;
    last = is.fault.last;
    all = ap (λ (ms : List Made). before ++ ms) is.fault.all ∙ sym (append_assoc before is.fault.others (is.fault.last ∷ []));
    none = all_append (λ (m : Made). is_drive_fault m.event ≡ false) before is.fault.others none is.fault.none;
    lost = is.fault.lost;
    unit = is.fault.unit;
    number = is.fault.number;
  };
  of_unit = is.of_unit;
  chunk = is.chunk;
  command = is.command;
}

-- ---- one fetch

abbrev answer_in : Result Bool DriveErr → Bool
answer_in (Ok b) = b
answer_in (Err e) = false

-- the answer is yes
pub is_yes : (b : Bool) → ◌≡◌ {A = Result Bool DriveErr} (Ok b) (Ok true) → b ≡ true
is_yes b same = ap answer_in same

module _ (handed : List ModelUnit) (p : SectorPlace) (old new : ArmView) (was now : WorkerView) (before : Prefixes) (on : old.number ≡ p.unit) where
  -- the command, with its outcome
  abbrev made_of : UnitOutcome → Made
  made_of outcome = record {
    unit = old.number;
    number = length (logs_of before (suc old.number));
    event = event_of p.sought.line (Read p.sought.block) outcome;
  }

  went : (tells : UnitOutcome → Type 0) (done : HasDone old new was now before p.sought.line (Read p.sought.block) tells)
      → GoesOn was now (made_of done.outcome ∷ [])
  went tells done = record { number = done.worker; keeps = done.keeps; made = done.made; asked = done.asked }

  its_lost : (outcome : UnitOutcome) (event : ℕ) → is_drive_fault (made_of outcome).event ≡ true
      → event ≡ number_told handed old.number (length (logs_of before (suc old.number)))
      → IsLostFetch handed p.unit p.sought.line p.sought.block (made_of outcome ∷ []) (record { unit = p.unit; event = event })
  its_lost outcome event lost number = record {
    fault = record {
      others = [];
      last = made_of outcome;
      all = refl;
      none = tt;
      lost = lost;
      unit = sym on;
      number = number;
    };
    of_unit = on;
    chunk = refl;
    command = refl;
  }

  -- under both locks
  pub held_done : HasDone old new was now before p.sought.line (Read p.sought.block)
      (TellsFetch old.number (number_told handed old.number (length (logs_of before (suc old.number)))) (Ok tt))
      → HasFetchedPlace {A = Unit {0}} handed p was now (Ok tt)
  held_done done = record {
    more = made_of done.outcome ∷ [];
    on = went _ done;
    tells = (answer_kept (made_of done.outcome).event (ap is_stop done.told.1) (ap is_fail done.told.1), tt);
  }

  pub held_lost : (e : FetchErr) → HasDone old new was now before p.sought.line (Read p.sought.block)
      (TellsFetch old.number (number_told handed old.number (length (logs_of before (suc old.number)))) (Err e))
      → HasFetchedPlace {A = Unit {0}} handed p was now (Err (fault_of e))
  held_lost e done = record {
    more = made_of done.outcome ∷ [];
    on = went _ done;
    tells = subst (λ (unit : ℕ). IsLostFetch handed p.unit p.sought.line p.sought.block (made_of done.outcome ∷ []) (record { unit = unit; event = e.event }))
        (sym (done.told.1 ∙ on))
        (its_lost done.outcome e.event (cause_lost (made_of done.outcome).event e.cause (p.sought.block, refl) done.told.0) done.told.2);
  }

  -- under the unit's lock alone
  module _ (s : Shape) (lba position : ℕ) (out : List ℕ) where
    abbrev pub Sought_so : Result Bool ℕ → Type 0
    Sought_so result = HasSought old new was now before p.sought.line p.sought.block
        (TellsMarked s lba position (number_told handed old.number (length (logs_of before (suc old.number)))) out result) result

    pub sought_done : (b : Bool) → Sought_so (Ok b) → HasFetchedPlace handed p was now (Ok b)
    sought_done b (inl none) = record { more = []; on = subst (λ (w : WorkerView). GoesOn was w []) (sym none.worker) (goes_still was); tells = tt }
    sought_done true (inr done) = record {
      more = made_of done.outcome ∷ [];
      on = went _ done;
      tells = (answer_kept (made_of done.outcome).event (ap is_stop done.told.1) (ap is_fail done.told.1), tt);
    }
    sought_done false (inr done) = record {
      more = made_of done.outcome ∷ [];
      on = went _ done;
      tells = (answer_kept (made_of done.outcome).event (ap is_stop done.told.1) (ap is_fail done.told.1), tt);
    }

    pub sought_lost : (event : ℕ) → Sought_so (Err event)
        → HasFetchedPlace {A = Bool} handed p was now (Err (record { unit = p.unit; event = event }))
    sought_lost event (inl none) = absurd (let no : Err event ≡ Ok false = none.refused in cc)
    sought_lost event (inr done) = record {
      more = made_of done.outcome ∷ [];
      on = went _ done;
      tells = its_lost done.outcome event (unanswered_lost (made_of done.outcome).event (p.sought.block, refl) done.told.0) done.told.1;
    }
