use Rattle.std.proofs.Common.{◌≡◌, ℕ, List, ◌∙◌, ap, subst, map, length, slice_get, Some}
use Rattle.unit_port.specs.Unit.{IsStopped}
use Rattle.ocssd_drive.specs.Drive.{DriveView, FuseFell, with_units}
use Rattle.ocssd_drive.specs.DriveFields.{drive_view}
use Rattle.ocssd_drive.specs.Outcomes.{GoesByArms}
use Rattle.ocssd_drive.specs.Units.{WornUnit, disarmed}
use Rattle.ocssd_drive.proofs.Drives.{length-disarmed, shapes_disarmed, whole_with, written_over}
use Rattle.ocssd_drive.proofs.drive.Drive.disarm.Goals as goal
use Rattle.ocssd_drive.proofs.drive.Drive.disarm.Goals.{After-disarm_units}

pub invariant_of-self : goal.invariant_of-self
invariant_of-self c =
    let d : DriveView = drive_view c.self.inside in
    let new_is = c.disarm_units.ensures.units ∙ ap (map disarmed) c.deref_mut.ensures.value in
    let same = ap length new_is ∙ length-disarmed d.units in
    rw (written_over c.self.inside.units c.disarm_units.new.units same, new_is)
    (whole_with d (map disarmed d.units) c.self.invariant (length-disarmed d.units) (shapes_disarmed _ d.units c.self.invariant.fit))

pub returns-clause-units : goal.returns-clause-units
returns-clause-units c =
    let d : DriveView = drive_view c.self.inside in
    let new_is = c.disarm_units.ensures.units ∙ ap (map disarmed) c.deref_mut.ensures.value in
    let same = ap length new_is ∙ length-disarmed d.units in
    rw (written_over c.self.inside.units c.disarm_units.new.units same, new_is) (ap (λ (x : DriveView). with_units (map disarmed x.units) x) c.self.view_is)

pub returns-clause-stopped : goal.returns-clause-stopped
returns-clause-stopped c = subst (λ (x : DriveView). (i : ℕ) (u : WornUnit) → slice_get x.units i ≡ Some u → IsStopped u.unit → FuseFell x.units u.unit.armed)
    c.self.view_is
    (subst (λ (units : _). (i : ℕ) (u : WornUnit) → slice_get units i ≡ Some u → IsStopped u.unit → FuseFell units u.unit.armed) c.deref_mut.ensures.value
    c.disarm_units.ensures.stopped)

-- what each unit of the drive did
by_arms : (c : After-disarm_units) → (i : ℕ) (u : WornUnit) → slice_get c.args.self.now.units i ≡ Some u → GoesByArms u
by_arms c = subst (λ (x : DriveView). (i : ℕ) (u : WornUnit) → slice_get x.units i ≡ Some u → GoesByArms u) c.self.view_is
    (subst (λ (units : List WornUnit). (i : ℕ) (u : WornUnit) → slice_get units i ≡ Some u → GoesByArms u) c.deref_mut.ensures.value
    c.disarm_units.ensures.by_arms)

pub returns-clause-calm : goal.returns-clause-calm
returns-clause-calm c = λ i u there. (by_arms (goal.at.returns-clause-calm c).After-disarm_units i u there).calm

pub returns-clause-outcomes : goal.returns-clause-outcomes
returns-clause-outcomes c = λ i u there. (by_arms (goal.at.returns-clause-outcomes c).After-disarm_units i u there).outcomes

pub returns-clause-whole : goal.returns-clause-whole
returns-clause-whole c = invariant_of-self c
