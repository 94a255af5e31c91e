-- Drives whose units are handed to a target: they fit their shape, and nothing arms them.
use Rattle.std.proofs.Common.{◌≡◌, ℕ, zero, suc, List, [], ◌∷◌, map, Some, slice_get, refl, sym, subst, ap, ◌∙◌}
use Rattle.std.specs.List.{AllByRecursion}
use Rattle.std.proofs.lemmas.Option.{none-some, same_Some}
use Rattle.pblk_model.specs.Chunk.{Chunk}
use Rattle.pblk_model.specs.ImageFile as image_file
use Rattle.unit_port.specs.Armed.{IsUnarmed}
use Rattle.unit_port.specs.Unit.{ModelUnit}
use Rattle.ocssd_drive.specs.Drive.{DriveView, IsWhole, shape_of, stored}
use Rattle.ocssd_drive.specs.Units.{WornUnit}
use Rattle.drive_image.specs.Quiet.{IsQuiet, IsQuietUnit}
use Rattle.scan_recovery.specs.Units as scan
use Rattle.unit_port.specs.Commands.{AreUnarmed}
use Rattle.pblk_cli.proofs.StoredUnits.{image_units}

unarmed_at : (us : List WornUnit) → AllByRecursion IsQuietUnit us → (k : ℕ) (m : ModelUnit) → slice_get (map (λ (u : WornUnit). u.unit) us) k ≡ Some m
    → IsUnarmed m.armed
unarmed_at [] quiet k m there = absurd (none-some m there)
unarmed_at (u ∷ us) quiet zero m there = subst (λ (x : ModelUnit). IsUnarmed x.armed) (same_Some u.unit m there)
    (ap (λ a. a.plans) quiet.0.armed, ap (λ a. a.fuse) quiet.0.armed)
unarmed_at (u ∷ us) quiet (suc k) m there = unarmed_at us quiet.1 k m there

pub unarmed_of : (d e : DriveView) → e ≡ d → IsQuiet d → AreUnarmed (map (λ (u : WornUnit). u.unit) e.units)
unarmed_of d e same quiet = subst (λ (x : DriveView). AreUnarmed (map (λ (u : WornUnit). u.unit) x.units)) (sym same) (unarmed_at d.units quiet)

-- the image on the units of a drive is that of the drive

pub media_mapped : (us : List WornUnit) → map (λ (u : ModelUnit). u.media) (map (λ (u : WornUnit). u.unit) us) ≡ map (λ (u : WornUnit). u.unit.media) us
media_mapped [] = refl
media_mapped (u ∷ us) = ap (λ (cs : List (List Chunk)). u.unit.media ∷ cs) (media_mapped us)

pub image_handed : (d : DriveView) → IsWhole d → scan.image_of (shape_of d) (map (λ (u : WornUnit). u.unit) d.units) ≡ image_file.image_of (stored d)
image_handed d whole = ap (λ (us : List (List Chunk)). record { shape = shape_of d; units = us }) (media_mapped d.units ∙ sym (image_units d whole))
