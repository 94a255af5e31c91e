-- Lemmas on the words of Units.
use Rattle.std.proofs.Common.{map, subst, sym, ◌∙◌, ◌≡◌}
use Rattle.std.proofs.lemmas.List.{length-map}
use Rattle.ocssd_drive.specs.Drive.{DriveView, IsWhole, shape_of}
use Rattle.ocssd_drive.specs.Units.{WornUnit}
use Rattle.pblk_model.specs.declared.shape.Shape.{Shape}
use Rattle.scan_recovery.proofs.SharedLemmas.{fit_at}
use Rattle.scan_recovery.specs.Units.{AreFit}

-- by a shape and units that are the drive's
pub drive_fits : (d e : DriveView) (s : Shape) → e ≡ d → s ≡ shape_of d → IsWhole d → AreFit s (map (λ (u : WornUnit). u.unit) e.units)
drive_fits d e s same shape whole =
    let own : AreFit (shape_of d) (map (λ (u : WornUnit). u.unit) d.units) = record {
      count = length-map d.units (λ (u : WornUnit). u.unit) ∙ whole.count;
      each = fit_at (shape_of d) d.units whole.fit;
    } in
    subst (λ (x : DriveView). AreFit s (map (λ (u : WornUnit). u.unit) x.units)) (sym same)
    (subst (λ (x : Shape). AreFit x (map (λ (u : WornUnit). u.unit) d.units)) (sym shape) own)
