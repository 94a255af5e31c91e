use Rattle.std.proofs.Common.{◌≡◌, map, sym, ap, subst, ◌∙◌}
use Rattle.std.specs.Prelude.{IfOk}
use Rattle.std.specs.Vec.{with_items}
use Rattle.pblk_model.specs.Image.{Image}
use Rattle.ocssd_chunks.specs.DriveChunk.{DriveChunk}
use Rattle.ocssd_drive.specs.Drive.{DriveView, IsWhole, with_units}
use Rattle.ocssd_drive.specs.DriveFields.{drive_view}
use Rattle.scan_recovery.specs.Fetches.{error_of}
use Rattle.scan_recovery.proofs.UnitsLemmas.{drive_fits}
use Rattle.stripe_parity.specs.Rebuilding.{AreAsKept, AreRebuilt}
use Rattle.stripe_parity.proofs.Refused.{image_from}
use Rattle.stripe_parity.proofs.Wholes.{fetched_again, wear_again, whole_again}
use Rattle.stripe_parity.proofs.rebuilding.lost_chunks.Goals as goal
use Rattle.stripe_parity.proofs.rebuilding.lost_chunks.Goals.{After-unit_chunks}

pub unit_chunks-requires-clause-fit : goal.unit_chunks-requires-clause-fit
unit_chunks-requires-clause-fit c =
    rw c.deref_mut.ensures.value (drive_fits c.args.drive.now (drive_view c.drive.inside) c.args.parity.now.shape c.drive.view_is c.requires.shape
    (subst IsWhole c.drive.view_is c.drive.invariant))

pub unit_chunks-requires-clause-same : goal.unit_chunks-requires-clause-same
unit_chunks-requires-clause-same c =
    subst (λ (i : Image). AreAsKept c.args.parity.now.chunks i c.args.lost)
    (sym (image_from c.args.parity.now.shape c.args.drive.now c.deref_mut.result.now c.requires.shape
    (c.deref_mut.ensures.value ∙ ap (λ (d : DriveView). d.units) c.drive.view_is))) c.requires.same

-- the units that were lent are the drive's
lent_units : (c : After-unit_chunks) → c.deref_mut.result.now ≡ c.args.drive.now.units
lent_units c = c.deref_mut.ensures.value ∙ ap (λ (d : DriveView). d.units) c.drive.view_is

pub invariant_of-drive : goal.invariant_of-drive
invariant_of-drive c =
    whole_again c.drive.inside.units c.deref_mut.result.now c.unit_chunks.new.units c.deref_mut.ensures.value c.unit_chunks.ensures.kept
    (drive_view c.drive.inside) c.deref_mut.ensures.value c.drive.invariant c.unit_chunks.ensures.wear

pub returns-clause-chunks : goal.returns-clause-chunks
returns-clause-chunks c =
    subst (λ (i : Image). IfOk c.unit_chunks.result (λ cs. AreRebuilt c.args.parity.now i c.args.lost (map (λ (x : DriveChunk). x.chunk) cs.items)))
    (image_from c.args.parity.now.shape c.args.drive.now c.deref_mut.result.now c.requires.shape
    (lent_units (goal.at.returns-clause-chunks c).After-unit_chunks)) c.unit_chunks.ensures.chunks

pub returns-clause-fetched : goal.returns-clause-fetched
returns-clause-fetched c =
    fetched_again c.drive.inside.units c.deref_mut.result.now c.unit_chunks.new.units c.deref_mut.ensures.value c.unit_chunks.ensures.kept
    c.args.drive.now c.args.parity.now.shape (error_of c.unit_chunks.result) (lent_units (goal.at.returns-clause-fetched c).After-unit_chunks)
    c.unit_chunks.ensures.fetched

pub returns-clause-wear : goal.returns-clause-wear
returns-clause-wear c =
    wear_again c.drive.inside.units c.deref_mut.result.now c.unit_chunks.new.units c.deref_mut.ensures.value c.unit_chunks.ensures.kept
    c.args.drive.now (lent_units (goal.at.returns-clause-wear c).After-unit_chunks) c.unit_chunks.ensures.wear

pub returns-clause-numbers : goal.returns-clause-numbers
returns-clause-numbers c =
    let new = (with_items c.drive.inside.units c.unit_chunks.new.units).items in
    ap (λ (v : DriveView). with_units new v) c.drive.view_is

pub returns-clause-whole : goal.returns-clause-whole
returns-clause-whole c = invariant_of-drive c
