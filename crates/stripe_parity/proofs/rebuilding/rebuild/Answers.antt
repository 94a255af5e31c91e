use Rattle.std.proofs.Common.{◌≡◌, ◌<◌, length, map, sym, ap, subst, ◌∙◌, arith}
use Rattle.std.proofs.lemmas.List.{length-map}
use Rattle.std.proofs.lemmas.Result.{err_from_is_err_and}
use Rattle.pblk_model.specs.declared.shape.Shape.{Shape}
use Rattle.pblk_model.specs.Image.{Image}
use Rattle.pblk_model.specs.Shape.{units}
use Rattle.ocssd_chunks.specs.DriveChunk.{DriveChunk}
use Rattle.unit_port.specs.Unit.{ModelUnit}
use Rattle.ocssd_drive.specs.Drive.{DriveView, IsWhole, shape_of, with_units}
use Rattle.ocssd_drive.specs.DriveFields.{drive_view}
use Rattle.ocssd_drive.specs.Units.{WornUnit}
use Rattle.scan_recovery.proofs.FetchSteps.{none_fetched}
use Rattle.scan_recovery.proofs.UnitsLemmas.{drive_fits}
use Rattle.stripe_parity.specs.Rebuilding.{AreAsKept, IsFirstDifference, drive_image, with_unit}
use Rattle.stripe_parity.proofs.Refused.{fetched_as, image_from, image_kept, no_difference, refused_as, wanting}
use Rattle.stripe_parity.proofs.RebuiltUnits.{image_is, put_is}
use Rattle.stripe_parity.proofs.rebuilding.rebuild.Goals as goal

pub differs-requires : goal.differs-requires
differs-requires c =
    rw c.deref.ensures.value (record {
      fit = drive_fits c.args.drive.now (drive_view c.drive.inside) c.args.parity.now.shape c.drive.view_is c.requires.shape
          (subst IsWhole c.drive.view_is c.drive.invariant);
    })

pub lost_chunks-requires-clause-same : goal.lost_chunks-requires-clause-same
lost_chunks-requires-clause-same c =
    subst (λ (i : Image). AreAsKept c.args.parity.now.chunks i c.args.lost)
    (image_from c.args.parity.now.shape c.args.drive.now c.deref.result.now c.requires.shape
    (c.deref.ensures.value ∙ ap (λ (d : DriveView). d.units) c.drive.view_is)) c.in_default.ensures.none

pub put_chunks-requires-clause-accepted : goal.put_chunks-requires-clause-accepted
put_chunks-requires-clause-accepted c = rw c.shape-shape.ensures.shape c.shape-shape.ensures.parity.accepted

pub put_chunks-requires-clause-shape : goal.put_chunks-requires-clause-shape
put_chunks-requires-clause-shape c = c.shape-shape.ensures.shape ∙ c.requires.shape ∙ sym (ap shape_of c.in_ok-chunks.ensures.numbers)

pub put_chunks-requires-clause-lost : goal.put_chunks-requires-clause-lost
put_chunks-requires-clause-lost c = rw c.shape-shape.ensures.shape c.requires.lost

pub put_chunks-requires-clause-count : goal.put_chunks-requires-clause-count
put_chunks-requires-clause-count c =
    sym (length-map c.in_ok-chunks.chunks.items (λ (x : DriveChunk). x.chunk)) ∙ c.in_ok-chunks.ensures.chunks.count
    ∙ ap (λ (s : Shape). s.chunks) (sym c.shape-shape.ensures.shape)

pub put_chunks-requires-clause-fits : goal.put_chunks-requires-clause-fits
put_chunks-requires-clause-fits c = rw c.shape-shape.ensures.shape c.in_ok-chunks.ensures.fits

pub returns-in-Some-clause-wanting : goal.returns-in-Some-clause-wanting
returns-in-Some-clause-wanting c = λ first fit is agree calm.
    absurd (no_difference c.args.parity.now first (drive_image c.args.drive.now) c.args.lost c.in-Some.unit c.in-Some.chunk is agree
    (subst (λ (i : Image). IsFirstDifference c.args.parity.now.chunks i c.args.lost c.in-Some.unit c.in-Some.chunk)
    (image_from c.args.parity.now.shape c.args.drive.now c.deref.result.now c.requires.shape
    (c.deref.ensures.value ∙ ap (λ (d : DriveView). d.units) c.drive.view_is)) c.in-Some.ensures.first))

pub returns-in-Some-clause-refused : goal.returns-in-Some-clause-refused
returns-in-Some-clause-refused c =
    subst (λ (i : Image). IsFirstDifference c.args.parity.now.chunks i c.args.lost c.in-Some.unit c.in-Some.chunk)
    (image_from c.args.parity.now.shape c.args.drive.now c.deref.result.now c.requires.shape
    (c.deref.ensures.value ∙ ap (λ (d : DriveView). d.units) c.drive.view_is)) c.in-Some.ensures.first

pub returns-in-Some-clause-fetched : goal.returns-in-Some-clause-fetched
returns-in-Some-clause-fetched c = none_fetched c.args.parity.now.shape (map (λ (u : WornUnit). u.unit) c.args.drive.now.units)

pub returns-in_err-chunks-clause-wanting : goal.returns-in_err-chunks-clause-wanting
returns-in_err-chunks-clause-wanting c =
    let p = err_from_is_err_and c.from_residual.result c.from_residual.ensures.1 in
    rw (p.1, p.2) (λ first fit is agree calm.
    wanting c.args.parity.now.shape (map (λ (u : WornUnit). u.unit) c.args.drive.now.units)
    (map (λ (u : WornUnit). u.unit) c.lost_chunks.new.drive.units) c.in_err-chunks.field-0.0 calm c.in_err-chunks.ensures.fetched)

pub returns-in_err-chunks-clause-refused : goal.returns-in_err-chunks-clause-refused
returns-in_err-chunks-clause-refused c =
    let p = err_from_is_err_and c.from_residual.result c.from_residual.ensures.1 in
    rw (p.1, p.2) (refused_as c.args.parity.now (drive_image c.args.drive.now) c.args.lost c.in_err-chunks.field-0.0
    (subst (λ (i : Image). AreAsKept c.args.parity.now.chunks i c.args.lost)
    (image_from c.args.parity.now.shape c.args.drive.now c.deref.result.now c.requires.shape
    (c.deref.ensures.value ∙ ap (λ (d : DriveView). d.units) c.drive.view_is)) c.in_default.ensures.none))

pub returns-in_err-chunks-clause-fetched : goal.returns-in_err-chunks-clause-fetched
returns-in_err-chunks-clause-fetched c =
    let p = err_from_is_err_and c.from_residual.result c.from_residual.ensures.1 in
    rw (p.1, p.2) (fetched_as c.args.parity.now.shape (map (λ (u : WornUnit). u.unit) c.args.drive.now.units)
    (map (λ (u : WornUnit). u.unit) c.lost_chunks.new.drive.units) c.in_err-chunks.field-0.0 c.in_err-chunks.ensures.fetched)

pub returns-in_err-chunks-clause-untouched : goal.returns-in_err-chunks-clause-untouched
returns-in_err-chunks-clause-untouched c =
    let p = err_from_is_err_and c.from_residual.result c.from_residual.ensures.1 in
    rw p.1 (image_kept c.args.parity.now.shape c.args.drive.now c.lost_chunks.new.drive _ c.requires.shape c.in_err-chunks.ensures.numbers
    c.in_err-chunks.ensures.fetched)

pub returns-clause-anew : goal.returns-clause-anew
returns-clause-anew c =
    let old = drive_image c.args.drive.now in
    let cs = map (λ (x : DriveChunk). x.chunk) c.in_ok-chunks.chunks.items in
    let kept = image_kept c.args.parity.now.shape c.args.drive.now c.lost_chunks.new.drive _ c.requires.shape c.in_ok-chunks.ensures.numbers
    c.in_ok-chunks.ensures.fetched in
    let whole = subst IsWhole c.drive.view_is c.drive.invariant in
    let us = c.args.drive.now.units in
    let low : c.args.lost < units (shape_of c.args.drive.now) = subst (λ (s : Shape). c.args.lost < units s) c.requires.shape c.requires.lost in
    let within : c.args.lost < length old.units =
    omega (
      arith,
      low,
      whole.count,
      length-map us (λ (u : WornUnit). u.unit),
      length-map (map (λ (u : WornUnit). u.unit) us) (λ (u : ModelUnit). u.media),
    ) in
    put_is c.args.parity.now old (drive_image c.put_chunks.new.drive) c.args.lost cs within
    (c.put_chunks.ensures.put ∙ ap (with_unit c.args.lost cs) kept) c.in_ok-chunks.ensures.chunks

pub returns-clause-rebuilt : goal.returns-clause-rebuilt
returns-clause-rebuilt c = λ first fit is agree.
    let old = drive_image c.args.drive.now in
    let low : c.args.lost < units (shape_of c.args.drive.now) = subst (λ (s : Shape). c.args.lost < units s) c.requires.shape c.requires.lost in
    let count : length first.units ≡ units first.shape = fit.units in
    let within : c.args.lost < length first.units = subst (λ n. c.args.lost < n) (ap (λ (s : Shape). units s) agree.shape ∙ sym count) low in
    image_is first old (drive_image c.put_chunks.new.drive) c.args.parity.now c.args.lost fit is agree within (returns-clause-anew c)

pub returns-clause-wear : goal.returns-clause-wear
returns-clause-wear c = c.put_chunks.ensures.wear ∙ c.in_ok-chunks.ensures.wear

pub returns-clause-numbers : goal.returns-clause-numbers
returns-clause-numbers c =
    let first = c.put_chunks.ensures.numbers ∙ ap (with_units c.put_chunks.new.drive.units) c.in_ok-chunks.ensures.numbers in
    first

pub returns-clause-same : goal.returns-clause-same
returns-clause-same c =
    subst (λ (i : Image). AreAsKept c.args.parity.now.chunks i c.args.lost)
    (image_from c.args.parity.now.shape c.args.drive.now c.deref.result.now c.requires.shape
    (c.deref.ensures.value ∙ ap (λ (d : DriveView). d.units) c.drive.view_is)) c.in_default.ensures.none
