-- A unit that is armed with no plan and no fuse does each command, and one with no plan fails none.
use Rattle.std.proofs.Common.{ap, ◌≡◌, ◌≢◌, ℕ, ◌+◌, Bool, true, false, Option, None, Some, Ok, Err, Result, List, [], refl, sym, subst, ap₂, ◌∙◌}
use Rattle.std.specs.Prelude.{IsOk}
use Rattle.std.specs.Option.{IsSome}
use Rattle.pblk_model.specs.declared.shape.Shape.{Shape}
use Rattle.pblk_model.specs.ChunkStep.{ChunkCommand, ChunkAnswer}
use Rattle.pblk_model.specs.UnitLog.{UnitOutcome, Answered, Failed, Stopped, UnitEvent}
use Rattle.unit_port.specs.declared.armed.CommandKind.{CommandKind}
use Rattle.unit_port.specs.declared.armed.FaultPlan.{FaultPlan}
use Rattle.unit_port.specs.declared.armed.Fuse.{Fuse}
use Rattle.unit_port.specs.declared.unit.UnitErr.{UnitErr}
use Rattle.unit_port.specs.declared.unit.UnitErr.TheVariants as errors
use Rattle.unit_port.specs.Armed.{Armed, IsUnarmed, events_since}
use Rattle.unit_port.specs.Unit.{TellsDone}
use Rattle.pblk_model.specs.declared.chunk.Got.{Got}
use Rattle.ocssd_drive.specs.Shown.{fetch_outcome}
use Rattle.ocssd_drive.specs.declared.fault.Fault.{Fault}
use Rattle.ocssd_drive.specs.declared.fault.Fault.TheVariants as faults
use Rattle.ocssd_drive.specs.Faults.{IsOutcomeBy, fault_of, fuse_cut, planned, plan_fault, first_fault, changes_of, count_of}
use Rattle.ocssd_drive.specs.Journal.{JournalView}
use Rattle.ocssd_drive.proofs.UnitSteps.{Finds}
use Rattle.ocssd_drive.specs.Arming.{finds as found_by}

no_fault : (a : Armed) (since : List UnitEvent) (found : Bool) (kind : CommandKind) → IsUnarmed a → (found ≡ true → IsSome a.fuse) → fault_of a since found kind ≡ faults.Nothing
no_fault a since true kind un word =
    let none : false ≡ true = subst {A = Option Fuse} IsSome un.1 (word refl) in absurd cc
no_fault a since false kind un word =
    ap₂ (λ (plans : List FaultPlan) (fuse : Option Fuse). first_fault (fuse_cut fuse a.unit kind (changes_of since)) (plan_fault (planned plans a.unit kind (count_of kind since + 1)))) un.0 un.1

pub befalls_nothing : (old : JournalView) (kind : CommandKind) (fault : Fault) (new : JournalView) → Finds old kind fault new → IsUnarmed old.armed → fault ≡ faults.Nothing
befalls_nothing old kind fault new finds un = finds.is ∙ no_fault old.armed (events_since old.armed old.log) (found_by new.seat) kind un finds.word

pub done_by : {T : Type 0} (s : Shape) (command : ChunkCommand) (fault : Fault) (outcome : UnitOutcome) (r : Result T UnitErr) → fault ≡ faults.Nothing → IsOutcomeBy s command fault outcome → TellsDone r outcome → IsOk r
done_by s command fault outcome (Ok x) none by tells = refl
done_by s command fault outcome (Err errors.Failed) none by tells =
    let h : (answer : ChunkAnswer) × (outcome ≡ Answered answer) = subst (λ f. IsOutcomeBy s command f outcome) none by in
    let e : Answered h.0 ≡ Failed tells.0 = sym h.1 ∙ tells.1 in absurd cc
done_by s command fault outcome (Err errors.Stopped) none by tells =
    let h : (answer : ChunkAnswer) × (outcome ≡ Answered answer) = subst (λ f. IsOutcomeBy s command f outcome) none by in
    let e : Answered h.0 ≡ Stopped tells.0 = sym h.1 ∙ tells.1 in absurd cc

pub got_by : (s : Shape) (command : ChunkCommand) (fault : Fault) (out : List ℕ) (r : Result Got UnitErr) → fault ≡ faults.Nothing → IsOutcomeBy s command fault (fetch_outcome out r) → IsOk r
got_by s command fault out (Ok x) none by = refl
got_by s command fault out (Err errors.Failed) none by =
    let h : (answer : ChunkAnswer) × (Failed 0 ≡ Answered answer) = subst (λ f. IsOutcomeBy s command f (Failed 0)) none by in absurd cc
got_by s command fault out (Err errors.Stopped) none by =
    let h : (answer : ChunkAnswer) × (Stopped 0 ≡ Answered answer) = subst (λ f. IsOutcomeBy s command f (Stopped 0)) none by in absurd cc

-- ---- with no plan

stops_or_nothing : (cut : Option ℕ) (fails : ℕ) → first_fault cut faults.Nothing ≢ faults.Fails fails
stops_or_nothing None fails e = absurd cc
stops_or_nothing (Some cut) fails e = absurd cc

none_fails : (a : Armed) (since : List UnitEvent) (found : Bool) (kind : CommandKind) (cut : ℕ) → a.plans ≡ []
    → fault_of a since found kind ≢ faults.Fails cut
none_fails a since true kind cut none e = absurd cc
none_fails a since false kind cut none e =
    stops_or_nothing (fuse_cut a.fuse a.unit kind (changes_of since)) cut
    (sym (ap (λ (plans : List FaultPlan). first_fault (fuse_cut a.fuse a.unit kind (changes_of since))
    (plan_fault (planned plans a.unit kind (count_of kind since + 1)))) none) ∙ e)

pub befalls_no_failure : (old : JournalView) (kind : CommandKind) (fault : Fault) (new : JournalView) → Finds old kind fault new
    → old.armed.plans ≡ [] → (cut : ℕ) → fault ≢ faults.Fails cut
befalls_no_failure old kind fault new finds none cut e =
    none_fails old.armed (events_since old.armed old.log) (found_by new.seat) kind cut none (sym finds.is ∙ e)

no_failure : (s : Shape) (command : ChunkCommand) (fault : Fault) (k : ℕ) → ((cut : ℕ) → fault ≢ faults.Fails cut)
    → IsOutcomeBy s command fault (Failed k) → ⊥
no_failure s command faults.Nothing k never by = let h : Failed k ≡ Answered by.0 = by.1 in absurd cc
no_failure s command (faults.Fails cut) k never by = never cut refl
no_failure s command (faults.Stops cut) k never by = absurd cc
no_failure s command faults.Stopped k never by = absurd cc

pub unfailing_by : {T : Type 0} (s : Shape) (command : ChunkCommand) (fault : Fault) (outcome : UnitOutcome) (r : Result T UnitErr)
    → ((cut : ℕ) → fault ≢ faults.Fails cut) → IsOutcomeBy s command fault outcome → TellsDone r outcome → r ≢ Err errors.Failed
unfailing_by s command fault outcome (Ok x) never by tells e = absurd cc
unfailing_by s command fault outcome (Err errors.Failed) never by tells e =
    no_failure s command fault tells.0 never (subst (λ (o : UnitOutcome). IsOutcomeBy s command fault o) tells.1 by)
unfailing_by s command fault outcome (Err errors.Stopped) never by tells e = absurd cc

pub unfailing_fetch : (s : Shape) (command : ChunkCommand) (fault : Fault) (out : List ℕ) (r : Result Got UnitErr)
    → ((cut : ℕ) → fault ≢ faults.Fails cut) → IsOutcomeBy s command fault (fetch_outcome out r) → r ≢ Err errors.Failed
unfailing_fetch s command fault out (Ok x) never by e = absurd cc
unfailing_fetch s command fault out (Err errors.Failed) never by e = no_failure s command fault 0 never by
unfailing_fetch s command fault out (Err errors.Stopped) never by e = absurd cc
