use Rattle.std.specs.Option.{is_some}
use Rattle.std.proofs.Common.{◌≡◌, ◌∙◌, ap, sym, length}
use Rattle.ocssd_drive.specs.Drive.{DriveView, armed_units, fitting_fuse, shape_of, with_units}
use Rattle.ocssd_drive.specs.DriveFields.{drive_view}
use Rattle.ocssd_drive.proofs.Drives.{armed_together, length-armed, shapes_armed, whole_with, written_over, fits_again}
use Rattle.ocssd_drive.proofs.drive.Drive.arm.Goals as goal

pub invariant_of-self : goal.invariant_of-self
invariant_of-self c =
    let d : DriveView = drive_view c.self.inside in
    let plans = c.args.plans.now in
    let fuse = c.fitting-fuse.result in
    let word = c.in_ok-armings.ensures.each.0 in
    let new_is = c.install.ensures word c.in_ok-armings.ensures.each.2 ∙ ap (armed_units plans fuse word) c.deref_mut.ensures.value in
    let same = ap length new_is ∙ length-armed plans fuse word d.units in
    rw (written_over c.self.inside.units c.install.new.units same, new_is) (whole_with d (armed_units plans fuse word d.units) c.self.invariant (length-armed plans fuse word d.units) (shapes_armed plans fuse word _ d.units c.self.invariant.fit))

pub returns-clause-armed : goal.returns-clause-armed
returns-clause-armed c =
    let d : DriveView = drive_view c.self.inside in
    let plans = c.args.plans.now in
    let fuse = c.fitting-fuse.result in
    let word = c.in_ok-armings.ensures.each.0 in
    let new_is = c.install.ensures word c.in_ok-armings.ensures.each.2 ∙ ap (armed_units plans fuse word) c.deref_mut.ensures.value in
    let same = ap length new_is ∙ length-armed plans fuse word d.units in
    let fuse_is : fuse ≡ fitting_fuse (length d.units) c.args.fuse = c.fitting-fuse.ensures ∙ ap (λ n. fitting_fuse n c.args.fuse) (c.len.ensures ∙ c.self.inside.units.ok.0) in
    (word, c.in_ok-armings.ensures.each.1 ∙ ap is_some (fuse_is ∙ ap (λ (x : DriveView). fitting_fuse (length x.units) c.args.fuse) c.self.view_is), rw (written_over c.self.inside.units c.install.new.units same, new_is, fuse_is) (ap (λ (x : DriveView). with_units (armed_units plans (fitting_fuse (length x.units) c.args.fuse) word x.units) x) c.self.view_is))

pub returns-clause-together : goal.returns-clause-together
returns-clause-together c =
    let d : DriveView = drive_view c.self.inside in
    let plans = c.args.plans.now in
    let fuse = c.fitting-fuse.result in
    let word = c.in_ok-armings.ensures.each.0 in
    let new_is = c.install.ensures word c.in_ok-armings.ensures.each.2 ∙ ap (armed_units plans fuse word) c.deref_mut.ensures.value in
    let same = ap length new_is ∙ length-armed plans fuse word d.units in
    let fuse_is : fuse ≡ fitting_fuse (length d.units) c.args.fuse = c.fitting-fuse.ensures ∙ ap (λ n. fitting_fuse n c.args.fuse) (c.len.ensures ∙ c.self.inside.units.ok.0) in
    rw (written_over c.self.inside.units c.install.new.units same, new_is) (armed_together plans fuse word d.units c.in_ok-armings.ensures.each.1 (fits_again (length d.units) c.args.fuse fuse fuse_is))

pub returns-clause-whole : goal.returns-clause-whole
returns-clause-whole c = invariant_of-self c

pub make_armings-requires : goal.make_armings-requires
make_armings-requires c = fits_again c.len-2.result c.args.fuse c.fitting-fuse.result (c.fitting-fuse.ensures ∙ ap (λ n. fitting_fuse n c.args.fuse) (c.len.ensures ∙ sym c.len-2.ensures))

pub install-requires-clause-count : goal.install-requires-clause-count
install-requires-clause-count c = c.in_ok-armings.ensures.count ∙ c.len-2.ensures ∙ sym c.deref_mut.ensures.len

pub install-requires-clause-each : goal.install-requires-clause-each
install-requires-clause-each c = c.in_ok-armings.ensures.each

pub returns-clause-refused : goal.returns-clause-refused
returns-clause-refused c = tt

pub returns-clause-numbers : goal.returns-clause-numbers
returns-clause-numbers c = ap shape_of c.self.view_is
