use Rattle.std.proofs.Common.{◌≡◌, ◌∙◌, sym, subst}
use Rattle.std.proofs.lemmas.Option.{same_Some}
use Rattle.pblk_model.specs.CommandText.{created_drive, created_geometry}
use Rattle.pblk_model.specs.Geometry.{shape_with}
use Rattle.pblk_model.specs.Image.{IsFit}
use Rattle.pblk_model.specs.ImageFile.{IsImage, image_bytes}
use Rattle.pblk_laws.proofs.BlankImages.{blank_fit}
use Rattle.pblk_laws.proofs.ImageBytesOne.{one_drive}
use Rattle.pblk_cli.proofs.CreatedDrives.{blank_image}
use Rattle.pblk_cli.proofs.laws.the_first_run_is_on_the_drive_made.Goals as goal

pub returns : goal.returns
returns c = λ image script n options status again text more old mid new told made after.
    let bytes : after.input.drive_is.bytes ≡ image_bytes (created_drive n) =
    same_Some after.input.drive_is.bytes (image_bytes (created_drive n)) (sym (after.input.drive_is.read told) ∙ made.2.0 told) in
    one_drive (image_bytes (created_drive n)) after.input.drive (created_drive n)
    (subst (λ b. IsImage b after.input.drive) bytes after.input.drive_is.is) made.5 after.run.world.legal.fit
    (subst IsFit (sym (blank_image (created_geometry n) n.sector n.capacity n.ring)) (blank_fit (shape_with (created_geometry n) n.sector n.capacity n.ring)))
