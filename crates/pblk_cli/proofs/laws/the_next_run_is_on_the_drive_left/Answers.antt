use Rattle.std.proofs.Common.{◌≡◌, ◌∙◌, sym, subst}
use Rattle.std.proofs.lemmas.Option.{same_Some}
use Rattle.pblk_model.specs.Image.{IsFit}
use Rattle.pblk_model.specs.ImageFile.{IsImage, image_bytes, image_of}
use Rattle.pblk_laws.proofs.ImageBytesOne.{one_drive}
use Rattle.world_laws.proofs.FitMedia.{media_fit}
use Rattle.pblk_cli.proofs.laws.the_next_run_is_on_the_drive_left.Goals as goal

pub returns : goal.returns
returns c = λ image script next options later status again text more old mid new told made after.
    let bytes : after.input.drive_is.bytes ≡ image_bytes made.left =
    same_Some after.input.drive_is.bytes (image_bytes made.left) (sym (after.input.drive_is.read told) ∙ made.stored.0 told) in
    let mount = made.run.world.legal in
    one_drive (image_bytes made.left) after.input.drive made.left (subst (λ b. IsImage b after.input.drive) bytes after.input.drive_is.is) made.run.spelled
    after.run.world.legal.fit
    (subst IsFit (sym made.run.world.media_are) (media_fit (image_of made.input.drive) made.run.world.world mount.accepted mount.fit mount.legal))
