-- What making a certificate of an image's bytes, and checking one against them, come to.
use Rattle.std.specs.Prelude.{ℕ, ◌≡◌, ⊤, List, Some}
use Rattle.pblk_model.specs.ImageFile.{Drive, IsImage, image_of, image_refusal}
use Rattle.pblk_cli.specs.Commands.{IsCheckedOf, RefusesCertificate}
use Rattle.pblk_cli.specs.Telling.{Reason, Image, Certificate, Check, Memory}

-- the bytes of the second file are a certificate that is right for the image in those of the first
pub record IsChecked (image bytes : List ℕ) (status : ℕ) (text : List ℕ) : Type 0 where
  pub drive : Drive
  pub drive_is : IsImage image drive
  pub checked : IsCheckedOf (image_of drive) bytes status text

-- the image is accepted, and the bytes of the second file are refused as a certificate of it
pub record RefusesFor (image bytes : List ℕ) (reason : Reason) : Type 0 where
  pub drive : Drive
  pub drive_is : IsImage image drive
  pub why : RefusesCertificate (image_of drive) bytes reason

abbrev pub RefusesChecked : List ℕ → List ℕ → Reason → Type 0
RefusesChecked image bytes (Image e) = image_refusal image ≡ Some e
RefusesChecked image bytes (Certificate line) = RefusesFor image bytes (Certificate line)
RefusesChecked image bytes (Check e) = RefusesFor image bytes (Check e)
RefusesChecked image bytes Memory = ⊤
RefusesChecked image bytes reason = ⊥
