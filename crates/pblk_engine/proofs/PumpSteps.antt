-- What a pump answers, by what its worker made and learned.
use Rattle.std.proofs.Common.{◌≡◌, ◌≢◌, inl, inr, ℕ, suc, ◌≤◌, true, false, Result, Ok, Err, List, [], ◌∷◌, ◌++◌, length, refl, sym, subst, ap, ◌∙◌}
use Rattle.std.specs.Prelude.{IfOk}
use Rattle.pblk_model.specs.ChunkStep.{Gave, Read}
use Rattle.pblk_model.specs.Image.{Image}
use Rattle.pblk_model.specs.UnitLog.{UnitEvent, UnitOutcome, Answered, Failed, Stopped}
use Rattle.pblk_model.specs.StartRecord.{StartRecord}
use Rattle.pblk_world.specs.AtRest.{IsAtRest, IsCopyDue}
use Rattle.pblk_world.specs.Events.{EngineEvent, Open}
use Rattle.pblk_world.specs.Orders.{AreReset}
use Rattle.rest_laws.specs.Work.{is_work}
use Rattle.scan_recovery.specs.DriveFaults.{is_drive_fault, is_fetch}
use Rattle.scan_recovery.proofs.Losses.{stop_lost}
use Rattle.unit_port.specs.Armed.{is_fail, is_stop}
use Rattle.unit_port.specs.Did.{failed_or_stopped}
use Rattle.unit_port.specs.Unit.{ModelUnit}
use Rattle.unit_port.specs.declared.unit.UnitErr.{UnitErr}
use Rattle.unit_port.specs.declared.unit.UnitErr.TheVariants as causes
use Rattle.pblk_core.specs.declared.work.Why.{Why}
use Rattle.pblk_core.specs.declared.work.Why.TheVariants as whys
use Rattle.pblk_core.specs.declared.work.Work.{Work}
use Rattle.pblk_core.specs.declared.work.Work.TheVariants as works
use Rattle.chronicle.specs.Prefixes.{Prefixes, ArePrefixes, logs_of}
use Rattle.pblk_engine.specs.Arms.{ArmView, number_told}
use Rattle.pblk_engine.specs.ChunkResets.{HasReset}
use Rattle.pblk_engine.specs.Deeds.{HasDone}
use Rattle.pblk_engine.specs.Fetches.{TellsCause, TellsFetch}
use Rattle.pblk_engine.specs.WorkSince.{HasOpened, HasPlacedOn, HasWorkSince}
use Rattle.pblk_engine.specs.Pumps.{AreOfRole, GoesOn, HasCollected, HasComeOn, HasFetched, HasPumped, IsBusy, IsFetch, IsNothing, IsOnly, IsWork, IsWrite, NoFaults, WasCopyDue}
use Rattle.pblk_engine.specs.Pumps.{TellsPump, fault_of}
use Rattle.pblk_engine.specs.Workers.{Made, WorkerView}
use Rattle.pblk_engine.specs.declared.errors.DriveErr.{DriveErr}
use Rattle.pblk_engine.specs.declared.errors.FetchErr.{FetchErr}
use Rattle.pblk_engine.specs.declared.outcomes.Did.{Did}
use Rattle.pblk_engine.specs.declared.outcomes.Did.TheVariants as dids
use Rattle.pblk_engine.specs.declared.outcomes.Role.{Role}
use Rattle.pblk_engine.specs.declared.outcomes.Role.TheVariants as roles
use Rattle.chronicle.proofs.Rests.{still_begun}
use Rattle.pblk_engine.proofs.GoingOn.{all_known, answer_kept, fault_one, fetch_lost, goes_learned, goes_still, goes_then, reset_kept}
use Rattle.pblk_engine.proofs.WorkSince.{decided_later, opened_work, placed_later}

-- ---- fetches

-- a fetch that wasn't answered is lost
pub unanswered_lost : (e : UnitEvent) → IsFetch e.command → failed_or_stopped e.outcome ≡ true → is_drive_fault e ≡ true
unanswered_lost e fetch is = go e.outcome refl is
  where
    go : (o : UnitOutcome) → e.outcome ≡ o → failed_or_stopped o ≡ true → is_drive_fault e ≡ true
    go (Answered answer) same is = absurd (no is)
      where
        no : false ≡ true → ⊥
        no x = cc
    go (Failed k) same is = fetch_lost e (ap is_fetch fetch.1) (ap is_fail same)
    go (Stopped k) same is = stop_lost e (ap is_stop same)

-- a fetch whose cause is told is lost
pub cause_lost : (e : UnitEvent) (cause : UnitErr) → IsFetch e.command → TellsCause cause e.outcome → is_drive_fault e ≡ true
cause_lost e causes.Failed fetch is = fetch_lost e (ap is_fetch fetch.1) is
cause_lost e causes.Stopped fetch is = stop_lost e is

pub has_fetched : (handed : List ModelUnit) (old new : ArmView) (was now : WorkerView) (before : Prefixes) (line block unit : ℕ)
    (result : Result (Unit {0}) FetchErr)
    → old.number ≡ unit
    → HasDone old new was now before line (Read block) (TellsFetch old.number (number_told handed old.number (length (logs_of before (suc old.number)))) result)
    → HasFetched handed unit was now result
has_fetched handed old new was now before line block unit result on done = record {
  made = record { unit = old.number; number = length (logs_of before (suc old.number)); event = _ };
  on = record { number = done.worker; keeps = done.keeps; made = done.made; asked = done.asked };
  of = on;
  asked = (block, refl);
  tells = subst (λ n. TellsFetch n (number_told handed n (length (logs_of before (suc old.number)))) result done.outcome) on done.told;
}

module _ (i : Image) (handed : List ModelUnit) (role : Role) (old new : WorkerView) (unit : ℕ) where
  -- its command is a fetch
  fetch_only : (result : Result (Unit {0}) FetchErr) (is : HasFetched handed unit old new result) → AreOfRole roles.Collector (is.made ∷ [])
  fetch_only result is = (ap is_fetch is.asked.1, tt)

  -- a fetch that was lost
  pub collected_lost : (e : FetchErr) → HasFetched handed unit old new (Err e) → HasCollected i handed role old new (Err e)
  collected_lost e is = record {
    pumped = record {
      more = is.made ∷ [];
      on = is.on;
      tells = (
        fault_one handed is.made (fault_of e) (cause_lost is.made.event e.cause is.asked is.tells.0) (is.tells.1 ∙ sym is.of)
            (is.tells.2 ∙ ap (λ n. number_told handed n is.made.number) (sym is.of)),
        refl,
      );
    };
    fetched = fetch_only (Err e) is;
    caused = (is.tells.0, tt);
  }

  only_fetch : (is : HasFetched handed unit old new (Ok tt))
      → NoFaults (is.made ∷ []) × IsOnly (is.made ∷ []) IsFetch (λ outcome. (b : _) × (outcome ≡ Answered (Gave b)))
  only_fetch is = (
    (answer_kept is.made.event (ap is_stop is.tells.1) (ap is_fail is.tells.1), tt),
    record { made = is.made; only = refl; asked = is.asked; told = is.tells },
  )

  module _ (due : IsCopyDue i (logs_of old.known)) (reset : role ≡ roles.All → AreReset i (logs_of old.known)) (now : WorkerView)
      (learned : now ≡ record new { known = now.known }) (keeps : ArePrefixes new.known now.known) (is : HasFetched handed unit old new (Ok tt)) where
    -- a copy was due at the look, and the worker learned more since the fetch
    on_then : GoesOn old now (is.made ∷ [])
    on_then = goes_then old new now (is.made ∷ []) [] is.on (goes_learned new now learned keeps)

    due_then : WasCopyDue i role old.known now.known
    due_then = record { looked = old.known; since = all_known old.known; within = on_then.keeps; due = due; reset = reset }

    -- the copy was taken
    pub collected_copied : HasWorkSince old.known now.known → HasCollected i handed role old now (Ok dids.Copied)
    collected_copied worked = let it = only_fetch is in record {
      pumped = record { more = is.made ∷ []; on = on_then; tells = (it.0, (it.1, due_then, worked)) };
      fetched = fetch_only (Ok tt) is;
      caused = tt;
    }

    -- its claim was refused, or it isn't taken yet
    pub collected_refused : HasCollected i handed role old now (Ok dids.NotCopied)
    collected_refused = let it = only_fetch is in record {
      pumped = record { more = is.made ∷ []; on = on_then; tells = (it.0, (inr it.1, due_then)) };
      fetched = fetch_only (Ok tt) is;
      caused = tt;
    }

  -- ---- resets

  pub pumped_reset : (line : ℕ) → HasReset handed unit line old new (Ok tt) → HasWorkSince old.known new.known → HasPumped i handed role old new (Ok dids.Reset)
  pumped_reset line is worked = record {
    more = is.made ∷ [];
    on = is.on;
    tells = (
      (reset_kept is.made.event is.asked is.tells, tt),
      (record { made = is.made; only = refl; asked = is.asked; told = is.tells }, worked),
    );
  }

  pub pumped_stopped : (line event : ℕ) → HasReset handed unit line old new (Err event)
      → HasPumped i handed role old new (Err (record { unit = unit; event = event }))
  pumped_stopped line event is = record {
    more = is.made ∷ [];
    on = is.on;
    tells = (
      fault_one handed is.made (record { unit = unit; event = event }) (stop_lost is.made.event is.tells.0) (sym is.of)
          (is.tells.1 ∙ ap (λ n. number_told handed n is.made.number) (sym is.of)),
      refl,
    );
  }

-- ---- no command

module _ (i : Image) (handed : List ModelUnit) (role : Role) (w : WorkerView) where
  pub pumped_other : HasPumped i handed role w w (Ok dids.Other)
  pumped_other = record { more = []; on = goes_still w; tells = (tt, refl) }

  pub collected_full : IsCopyDue i (logs_of w.known) → (role ≡ roles.All → AreReset i (logs_of w.known)) → HasCollected i handed role w w (Ok dids.NotCopied)
  collected_full due reset = record {
    pumped = record {
      more = [];
      on = goes_still w;
      tells = (
        tt,
        (inl refl, record { looked = w.known; since = all_known w.known; within = all_known w.known; due = due; reset = reset }),
      );
    };
    fetched = tt;
    caused = tt;
  }

  pub collected_other : HasCollected i handed role w w (Ok dids.Other)
  collected_other = record { pumped = record { more = []; on = goes_still w; tells = (tt, refl) }; fetched = tt; caused = tt }

  pub pumped_nothing : (why : Why) → IsNothing i w.known why → HasPumped i handed role w w (Ok (dids.Nothing why))
  pumped_nothing why is = record { more = []; on = goes_still w; tells = (tt, (refl, is)) }

pub pumped_opened : (i : Image) (handed : List ModelUnit) (role : Role) (old new : WorkerView) → GoesOn old new [] → HasOpened old.known new.known
    → HasPumped i handed role old new (Ok dids.Opened)
pumped_opened i handed role old new on is = record { more = []; on = on; tells = (tt, (refl, is)) }

-- ---- a worker that learned before

due_since : (i : Image) (role : Role) (early old new : Prefixes) → ArePrefixes early old → WasCopyDue i role old new → WasCopyDue i role early new
due_since i role early old new keeps is =
    record { looked = is.looked; since = still_begun early old is.looked keeps is.since; within = is.within; due = is.due; reset = is.reset }

work_since : (early old new : Prefixes) → ArePrefixes early old → HasWorkSince old new → HasWorkSince early new
work_since early old new keeps is = decided_later (λ (e : EngineEvent). is_work e ≡ true) early old new keeps is

pub tells_since : (i : Image) (handed : List ModelUnit) (role : Role) (early old new : Prefixes) (more : List Made) (result : Result Did DriveErr)
    → ArePrefixes early old → TellsPump i handed role old new more result → TellsPump i handed role early new more result
tells_since i handed role early old new more (Err e) keeps is = is
tells_since i handed role early old new more (Ok dids.Opened) keeps is =
    (is.0, (is.1.0, decided_later (λ (e : EngineEvent). (line : ℕ) × (start : StartRecord) × (e ≡ Open line start)) early old new keeps is.1.1))
tells_since i handed role early old new more (Ok dids.Programmed) keeps is =
    (is.0, (is.1.0, placed_later is.1.0.made.unit early old new keeps is.1.1))
tells_since i handed role early old new more (Ok (dids.Lost unit)) keeps is =
    (is.0, (is.1.0, is.1.1, placed_later unit early old new keeps is.1.2))
tells_since i handed role early old new more (Ok dids.Reset) keeps is = (is.0, (is.1.0, work_since early old new keeps is.1.1))
tells_since i handed role early old new more (Ok dids.Copied) keeps is =
    (is.0, (is.1.0, due_since i role early old new keeps is.1.1, work_since early old new keeps is.1.2))
tells_since i handed role early old new more (Ok dids.NotCopied) keeps is = (is.0, (is.1.0, due_since i role early old new keeps is.1.1))
tells_since i handed role early old new more (Ok dids.Other) keeps is = is
tells_since i handed role early old new more (Ok (dids.Nothing why)) keeps is = is

pub pumped_since : (i : Image) (handed : List ModelUnit) (role : Role) (early old new : WorkerView) (result : Result Did DriveErr) → GoesOn early old []
    → HasPumped i handed role old new result → HasPumped i handed role early new result
pumped_since i handed role early old new result first is = record {
  more = is.more;
  on = goes_then early old new [] is.more first is.on;
  tells = tells_since i handed role early.known old.known new.known is.more result first.keeps is.tells;
}

-- ---- a pump that did something

-- the stripe that it programmed was placed, or had been stopped
placed_on : (old new : WorkerView) (more : List Made) (m : Made) → GoesOn old new more → more ≡ m ∷ [] → IsWrite m.event.command
    → HasPlacedOn m.unit old.known new.known → HasComeOn old new
placed_on old new more m on only write (inl work) = inl work
placed_on old new more m on only write (inr again) =
    inr (record { made = m; all = on.made ∙ ap (λ (ms : List Made). old.made ++ ms) only; command = write; again = again })

pub came_on : (i : Image) (handed : List ModelUnit) (role : Role) (old new : WorkerView) (did : Did) → IsWork did → HasPumped i handed role old new (Ok did)
    → HasComeOn old new
came_on i handed role old new dids.Programmed work is =
    placed_on old new is.more is.tells.1.0.made is.on is.tells.1.0.only is.tells.1.0.asked is.tells.1.1
came_on i handed role old new (dids.Lost unit) work is =
    placed_on old new is.more is.tells.1.0.made is.on is.tells.1.0.only is.tells.1.0.asked
    (subst (λ n. HasPlacedOn n old.known new.known) (sym is.tells.1.1) is.tells.1.2)
came_on i handed role old new dids.Reset work is = inl is.tells.1.1
came_on i handed role old new dids.Copied work is = inl is.tells.1.2
came_on i handed role old new dids.NotCopied work is = absurd (work.0 refl)
came_on i handed role old new dids.Opened work is = inl (opened_work old.known new.known is.tells.1.1)
came_on i handed role old new dids.Other work is = absurd (work.1 refl)
came_on i handed role old new (dids.Nothing why) work is = absurd (work.2 why refl)

-- of one that wasn't lost
pub came_on_then : (i : Image) (handed : List ModelUnit) (role : Role) (old new : WorkerView) (result : Result Did DriveErr)
    → HasPumped i handed role old new result → IfOk result (λ did. IsWork did → HasComeOn old new)
came_on_then i handed role old new (Ok did) is = λ work. came_on i handed role old new did work is
came_on_then i handed role old new (Err e) is = tt

-- ---- where there is nothing to do

pub is_nothing : (i : Image) (known : Prefixes) (work : Work) (pad : ℕ)
    → ((why : Why) → work ≡ works.Nothing why → why ≢ whys.Busy → (asked : ℕ) → asked ≤ pad
    → IsAtRest i (logs_of known) asked (length (logs_of known 0)))
    → (work ≡ works.Nothing whys.Busy → IsBusy i (logs_of known))
    → 0 ≤ pad → (why : Why) → work ≡ works.Nothing why → IsNothing i known why
is_nothing i known work pad rest busy low whys.Busy is = busy is
is_nothing i known work pad rest busy low whys.NoLine is = rest whys.NoLine is (λ same. cc) 0 low
is_nothing i known work pad rest busy low whys.Rest is = rest whys.Rest is (λ same. cc) 0 low
