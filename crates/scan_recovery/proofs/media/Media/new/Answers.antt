use Rattle.std.proofs.Common.{◌<◌, ◌^◌, map, sym, ap, subst, ◌∙◌}
use Rattle.std.specs.List.{AllByRecursion}
use Rattle.pblk_model.specs.declared.shape.Shape.{Shape}
use Rattle.pblk_model.specs.Accepted.{IsAccepted}
use Rattle.pblk_model.specs.Image.{line_units}
use Rattle.pblk_model.specs.Shape.{units}
use Rattle.pblk_layout.specs.Online.{units_in}
use Rattle.ocssd_drive.specs.Drive.{DriveView}
use Rattle.ocssd_drive.specs.Units.{WornUnit}
use Rattle.scan_recovery.specs.Units.{image_of}
use Rattle.scan_recovery.proofs.MediaLines.{image_is, units_fit}
use Rattle.scan_recovery.proofs.PadLoops.{fit_image}
use Rattle.scan_recovery.proofs.media.Media.new.Goals as goal
use Rattle.pblk_model.specs.Tables.{IsTable}

pub online_by_line-requires : goal.online_by_line-requires
online_by_line-requires c = record {
  accepted = subst IsAccepted (sym c.shape-shape.ensures.shape) c.shape-shape.ensures.whole.accepted;
  fit = units_fit c.args.drive.now c.shape-shape.result c.as_slice-units.result.now c.shape-shape.ensures.whole c.shape-shape.ensures.shape
      (c.as_slice-units.ensures.value ∙ ap (λ (d : DriveView). d.units) c.drive.view_is);
}

pub invariant_of-result : goal.invariant_of-result
invariant_of-result c =
    let of-drive = c.new.ensures ∙ c.shape-shape.ensures.shape in
    let us = c.as_slice-units.result.now in
    record {
      accepted = subst IsAccepted (sym of-drive) c.shape-shape.ensures.whole.accepted;
      fit = units_fit c.args.drive.now c.new.result us c.shape-shape.ensures.whole of-drive
          (c.as_slice-units.ensures.value ∙ ap (λ (d : DriveView). d.units) c.drive.view_is);
      online = subst (λ (s : Shape). IsTable s.chunks (line_units (image_of s (map (λ (u : WornUnit). u.unit) us))) (map units_in c.in_ok-online.online.items))
          (sym c.new.ensures) c.in_ok-online.ensures.units;
      below = subst (λ (s : Shape). AllByRecursion (λ live. live < 2 ^ units s) c.in_ok-online.online.items) (sym c.new.ensures) c.in_ok-online.ensures.below;
    }

pub returns-clause-image : goal.returns-clause-image
returns-clause-image c = image_is c.args.drive.now c.new.result c.as_slice-units.result.now c.shape-shape.ensures.whole
    (c.new.ensures ∙ c.shape-shape.ensures.shape)
    (c.as_slice-units.ensures.value ∙ ap (λ (d : DriveView). d.units) c.drive.view_is)

pub returns-clause-fit : goal.returns-clause-fit
returns-clause-fit c =
    fit_image c.new.result (map (λ (u : WornUnit). u.unit) c.as_slice-units.result.now)
    (units_fit c.args.drive.now c.new.result c.as_slice-units.result.now c.shape-shape.ensures.whole (c.new.ensures ∙ c.shape-shape.ensures.shape)
    (c.as_slice-units.ensures.value ∙ ap (λ (d : DriveView). d.units) c.drive.view_is))
