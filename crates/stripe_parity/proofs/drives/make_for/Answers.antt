use Rattle.std.proofs.Common.{◌≡◌, map, sym, ap, subst, ◌∙◌}
use Rattle.std.specs.Prelude.{IfOk}
use Rattle.std.specs.Vec.{with_items}
use Rattle.pblk_model.specs.declared.shape.Shape.{Shape}
use Rattle.pblk_model.specs.Accepted.{IsAccepted}
use Rattle.pblk_model.specs.Image.{Image}
use Rattle.world_laws.specs.Finding.{NoneOpen}
use Rattle.ocssd_drive.specs.Drive.{DriveView, with_units}
use Rattle.ocssd_drive.specs.DriveFields.{drive_view}
use Rattle.ocssd_drive.specs.Units.{WornUnit}
use Rattle.scan_recovery.specs.Fetches.{WereFetched}
use Rattle.scan_recovery.proofs.UnitsLemmas.{drive_fits}
use Rattle.stripe_parity.specs.ParityFile.{parity_of}
use Rattle.stripe_parity.specs.Refusals.{fetch_error}
use Rattle.stripe_parity.proofs.Refused.{image_from, image_kept, made_wanting}
use Rattle.stripe_parity.proofs.Wholes.{fetched_again, wear_again, whole_again}
use Rattle.stripe_parity.proofs.drives.make_for.Goals as goal
use Rattle.stripe_parity.proofs.drives.make_for.Goals.{After-make}

pub make-requires-clause-accepted : goal.make-requires-clause-accepted
make-requires-clause-accepted c = subst IsAccepted (sym c.shape-shape.ensures.shape) c.shape-shape.ensures.whole.accepted

pub make-requires-clause-fit : goal.make-requires-clause-fit
make-requires-clause-fit c =
    rw c.deref_mut.ensures.value (drive_fits c.args.drive.now
    (drive_view c.drive.inside) c.shape-shape.result c.drive.view_is c.shape-shape.ensures.shape c.shape-shape.ensures.whole)

pub make-requires-clause-closed : goal.make-requires-clause-closed
make-requires-clause-closed c =
    subst NoneOpen
    (sym (image_from c.shape-shape.result c.args.drive.now c.deref_mut.result.now c.shape-shape.ensures.shape
    (c.deref_mut.ensures.value ∙ ap (λ (d : DriveView). d.units) c.drive.view_is))) c.requires.closed

-- the units that were lent are the drive's
lent_units : (c : After-make) → c.deref_mut.result.now ≡ c.args.drive.now.units
lent_units c = c.deref_mut.ensures.value ∙ ap (λ (d : DriveView). d.units) c.drive.view_is

-- what was fetched of the drive's units
ran : (c : After-make) → WereFetched c.shape-shape.result (map (λ (u : WornUnit). u.unit) c.args.drive.now.units)
    (map (λ (u : WornUnit). u.unit) (with_items c.drive.inside.units c.make.new.units).items) (fetch_error c.make.result)
ran c =
    fetched_again c.drive.inside.units c.deref_mut.result.now c.make.new.units c.deref_mut.ensures.value c.make.ensures.kept
    c.args.drive.now c.shape-shape.result (fetch_error c.make.result) (lent_units c) c.make.ensures.fetched

pub invariant_of-drive : goal.invariant_of-drive
invariant_of-drive c =
    whole_again c.drive.inside.units c.deref_mut.result.now c.make.new.units c.deref_mut.ensures.value c.make.ensures.kept
    (drive_view c.drive.inside) c.deref_mut.ensures.value c.drive.invariant c.make.ensures.wear

pub returns-clause-parity : goal.returns-clause-parity
returns-clause-parity c =
    subst (λ (i : Image). IfOk c.make.result (λ p. p ≡ parity_of i))
    (image_from c.shape-shape.result c.args.drive.now c.deref_mut.result.now c.shape-shape.ensures.shape
    (lent_units (goal.at.returns-clause-parity c).After-make))
    c.make.ensures.parity

pub returns-clause-fetched : goal.returns-clause-fetched
returns-clause-fetched c =
    subst (λ (s : Shape). WereFetched s (map (λ (u : WornUnit). u.unit) c.args.drive.now.units)
    (map (λ (u : WornUnit). u.unit) (with_items c.drive.inside.units c.make.new.units).items) (fetch_error c.make.result))
    c.shape-shape.ensures.shape (ran (goal.at.returns-clause-fetched c).After-make)

pub returns-clause-wear : goal.returns-clause-wear
returns-clause-wear c =
    wear_again c.drive.inside.units c.deref_mut.result.now c.make.new.units c.deref_mut.ensures.value c.make.ensures.kept
    c.args.drive.now (lent_units (goal.at.returns-clause-wear c).After-make) c.make.ensures.wear

pub returns-clause-numbers : goal.returns-clause-numbers
returns-clause-numbers c =
    let new = (with_items c.drive.inside.units c.make.new.units).items in
    ap (λ (v : DriveView). with_units new v) c.drive.view_is

pub returns-clause-whole : goal.returns-clause-whole
returns-clause-whole c = invariant_of-drive c

pub returns-clause-untouched : goal.returns-clause-untouched
returns-clause-untouched c =
    image_kept c.shape-shape.result c.args.drive.now _ (fetch_error c.make.result) c.shape-shape.ensures.shape (returns-clause-numbers c)
    (ran (goal.at.returns-clause-untouched c).After-make)

pub returns-clause-wanting : goal.returns-clause-wanting
returns-clause-wanting c = λ calm.
    made_wanting c.shape-shape.result _ _ c.make.result calm c.make.ensures.refused (ran (goal.at.returns-clause-wanting c).After-make)
