-- What is said of bytes that were judged, and of others that are the same.
use Rattle.std.proofs.Common.{◌≡◌, ℕ, None, IfOk, Result, List, subst}
use Rattle.std.proofs.lemmas.Result.{IfOk-weaker}
use Rattle.pblk_model.specs.declared.image.ImageErr.{ImageErr}
use Rattle.pblk_model.specs.ImageFile.{IsImage, IsImageOf, image_refusal}
use Rattle.ocssd_drive.specs.Drive.{DriveView, stored}

-- a drive of which the copied bytes are an image is the one of the bytes that were accepted
pub image_of : (b image : List ℕ) (r : Result DriveView ImageErr) → image ≡ b → image_refusal b ≡ None → IfOk r (λ d. IsImageOf image (stored d))
    → IfOk r (λ d. IsImage b (stored d))
image_of b image r is accepted of = IfOk-weaker r (λ d. IsImageOf image (stored d)) (λ d. IsImage b (stored d))
    (λ d of. record { accepted = accepted; of = subst (λ b. IsImageOf b (stored d)) is of }) of
