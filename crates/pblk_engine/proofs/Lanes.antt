-- Lanes and collectors, turn after turn.
use Rattle.std.proofs.Common.{◌≡◌, ◌||◌, ◌&&◌, Bool, true, false, Ok, Err, List, [], ◌∷◌, ◌++◌, append_assoc, refl, sym, subst, ap, ◌∙◌}
use Rattle.pblk_model.specs.Image.{Image}
use Rattle.pblk_model.specs.UnitLog.{UnitEvent, UnitOutcome, Answered, Failed, Stopped}
use Rattle.pblk_model.proofs.Lists.{all_append, all_imply, last_of}
use Rattle.scan_recovery.specs.DriveFaults.{is_drive_fault, is_fetch}
use Rattle.unit_port.specs.Armed.{is_fail, is_stop}
use Rattle.unit_port.specs.Unit.{ModelUnit}
use Rattle.unit_port.specs.declared.unit.UnitErr.TheVariants as causes
use Rattle.pblk_engine.specs.Closings.{closing_of, set_of}
use Rattle.pblk_engine.specs.Fetches.{TellsCause}
use Rattle.pblk_engine.specs.Lanes.{HasRunAs, NoStops}
use Rattle.pblk_engine.specs.Pumps.{AreOfRole, GoesOn, HasCollectedRun, HasPumped, IsFaultOf, NoFaults, fault_of}
use Rattle.pblk_engine.specs.Workers.{Made, WorkerView}
use Rattle.pblk_engine.specs.declared.closing.Closing.{Closing}
use Rattle.pblk_engine.specs.declared.closing.IsSet.{IsSet}
use Rattle.pblk_engine.specs.declared.closing.LaneEnd.TheVariants as ends
use Rattle.pblk_engine.specs.declared.errors.DriveErr.{DriveErr}
use Rattle.pblk_engine.specs.declared.errors.FetchErr.{FetchErr}
use Rattle.pblk_engine.specs.declared.outcomes.Did.{Did}
use Rattle.pblk_engine.specs.declared.outcomes.Role.{Role}
use Rattle.pblk_engine.specs.declared.outcomes.Role.TheVariants as roles
use Rattle.pblk_engine.proofs.GoingOn.{goes_still, goes_then}
use Rattle.pblk_engine.proofs.RoleCommands.{both_of_role, none_of_role}

-- ---- commands that were stopped, and others

first_false : (a b : Bool) → (a || b) ≡ false → a ≡ false
first_false true b is = is
first_false false b is = refl

-- what isn't lost wasn't stopped
pub kept_goes : (m : Made) → is_drive_fault m.event ≡ false → is_stop m.event.outcome ≡ false
kept_goes m is = first_false (is_stop m.event.outcome) (is_fetch m.event.command && is_fail m.event.outcome) is

pub no_stops : (more : List Made) → NoFaults more → NoStops more
no_stops more is = all_imply (λ (m : Made). is_drive_fault m.event ≡ false) (λ (m : Made). is_stop m.event.outcome ≡ false) kept_goes more is

first_true : (a : Bool) → (a || false) ≡ true → a ≡ true
first_true true is = refl
first_true false is = is

-- a lost command that isn't a fetch was stopped
lost_stopped : (e : UnitEvent) → is_fetch e.command ≡ false → is_drive_fault e ≡ true → is_stop e.outcome ≡ true
lost_stopped e other is =
    first_true (is_stop e.outcome) (sym (ap (λ b. is_stop e.outcome || (b && is_fail e.outcome)) other) ∙ is)

failed_goes : (o : UnitOutcome) → is_fail o ≡ true → is_stop o ≡ false
failed_goes (Answered answer) is = refl
failed_goes (Failed k) is = refl
failed_goes (Stopped k) is = sym is

-- ---- turn after turn

-- what is kept of the turns so far: none of the commands was stopped
pub record HasGone (role : Role) (old now : WorkerView) : Type 0 where
  pub more : List Made
  pub on : GoesOn old now more
  pub made : AreOfRole role more
  pub none : NoStops more

pub gone_still : (role : Role) (w : WorkerView) → HasGone role w w
gone_still role w = record { more = []; on = goes_still w; made = none_of_role role; none = tt }

gone_more : (role : Role) (a b c : WorkerView) (more : List Made) → HasGone role a b → GoesOn b c more → AreOfRole role more → NoStops more → HasGone role a c
gone_more role a b c more x on made none = record {
  more = x.more ++ more;
  on = goes_then a b c x.more more x.on on;
  made = both_of_role role x.more more x.made made;
  none = all_append (λ (m : Made). is_stop m.event.outcome ≡ false) x.more more x.none none;
}

pub gone_then : (role : Role) (i : Image) (handed : List ModelUnit) (a b c : WorkerView) (did : Did) → HasGone role a b → HasPumped i handed role b c (Ok did)
    → ((more : List Made) → c.made ≡ b.made ++ more → AreOfRole role more) → HasGone role a c
gone_then role i handed a b c did x is made = gone_more role a b c is.more x is.on (made is.more is.on.made) (no_stops is.more is.tells.0)

-- sectors were copied
pub gone_copied : (handed : List ModelUnit) (a b c : WorkerView) (did : Did) → HasGone roles.Collector a b → HasCollectedRun handed b c (Ok did)
    → HasGone roles.Collector a c
gone_copied handed a b c did x is = gone_more roles.Collector a b c is.more x is.on is.fetched (no_stops is.more is.tells.0)

-- a fetch failed, after others that gave their blocks
pub gone_failed : (handed : List ModelUnit) (a b c : WorkerView) (e : FetchErr) → HasGone roles.Collector a b → HasCollectedRun handed b c (Err e)
    → e.cause ≡ causes.Failed → HasGone roles.Collector a c
gone_failed handed a b c e x is failed =
    let fault = is.tells.0 in
    gone_more roles.Collector a b c is.more x is.on is.fetched
    (subst NoStops (sym fault.all)
    (all_append (λ (m : Made). is_stop m.event.outcome ≡ false) fault.others (fault.last ∷ []) (no_stops fault.others fault.none)
    (failed_goes fault.last.event.outcome (subst (λ cause. TellsCause cause fault.last.event.outcome) failed is.tells.1), tt)))

-- ---- how it ends

pub closed_then : (role : Role) (closing : Closing) (a b : WorkerView) (s : IsSet) → HasGone role a b → set_of s ≡ closing_of closing
    → HasRunAs role closing a b (ends.Closed s)
closed_then role closing a b s x set = record { more = x.more; on = x.on; made = x.made; tells = (set, x.none) }

-- the last command was stopped
stopped_then : (role : Role) (closing : Closing) (handed : List ModelUnit) (a b c : WorkerView) (more : List Made) (e : DriveErr) → HasGone role a b
    → GoesOn b c more → AreOfRole role more → (is : IsFaultOf handed more e) → is_stop is.last.event.outcome ≡ true
    → HasRunAs role closing a c (ends.Stopped e.unit)
stopped_then role closing handed a b c more e x on made is stop = record {
  more = x.more ++ more;
  on = goes_then a b c x.more more x.on on;
  made = both_of_role role x.more more x.made made;
  tells = record {
    others = x.more ++ is.others;
    last = is.last;
    all = ap (λ (ms : List Made). x.more ++ ms) is.all ∙ sym (append_assoc x.more is.others (is.last ∷ []));
    none = all_append (λ (m : Made). is_stop m.event.outcome ≡ false) x.more is.others x.none (no_stops is.others is.none);
    stopped = stop;
    of = sym is.unit;
  };
}

pub lane_stopped : (closing : Closing) (i : Image) (handed : List ModelUnit) (a b c : WorkerView) (e : DriveErr) → HasGone roles.Lane a b
    → HasPumped i handed roles.Lane b c (Err e) → ((more : List Made) → c.made ≡ b.made ++ more → AreOfRole roles.Lane more)
    → HasRunAs roles.Lane closing a c (ends.Stopped e.unit)
lane_stopped closing i handed a b c e x is made =
    let fault = is.tells.0 in
    let its = made is.more is.on.made in
    stopped_then roles.Lane closing handed a b c is.more e x is.on its fault
    (lost_stopped fault.last.event
    (last_of (λ (m : Made). is_fetch m.event.command ≡ false) fault.others fault.last (subst (AreOfRole roles.Lane) fault.all its)) fault.lost)

pub collector_stopped : (closing : Closing) (handed : List ModelUnit) (a b c : WorkerView) (e : FetchErr) → HasGone roles.Collector a b
    → HasCollectedRun handed b c (Err e) → e.cause ≡ causes.Stopped → HasRunAs roles.Collector closing a c (ends.Stopped e.unit)
collector_stopped closing handed a b c e x is stopped =
    let fault = is.tells.0 in
    stopped_then roles.Collector closing handed a b c is.more (fault_of e) x is.on is.fetched fault
    (subst (λ cause. TellsCause cause fault.last.event.outcome) stopped is.tells.1)
