-- What a parity, and a unit that is made anew from one, come to before a file is written.
use Rattle.std.specs.Prelude.{ℕ, ◌≤◌, ◌≡◌, ◌⊎◌, ⊤, List, length, map, codes}
use Rattle.pblk_model.specs.CommandText.{number_line}
use Rattle.pblk_model.specs.Image.{Image as ModelImage}
use Rattle.pblk_model.specs.ImageFile.{Drive, image_bytes, image_of, shape_of as stored_shape}
use Rattle.pblk_model.specs.Shape.{units}
use Rattle.ocssd_drive.specs.Drive.{DriveView, IsWhole, shape_of, with_units}
use Rattle.ocssd_drive.specs.Units.{WornUnit}
use Rattle.stripe_parity.specs.declared.error.ParityErr.{ParityErr}
use Rattle.stripe_parity.specs.declared.error.ParityErr.TheVariants as errors
use Rattle.stripe_parity.specs.ParityFile.{IsParity, ParityFile, parity_of}
use Rattle.stripe_parity.specs.Rebuilding.{AreAsKept, IsRebuilt, drive_image, kept_blocks}
use Rattle.pblk_cli.specs.Commands.{IsPadded, IsRebuiltFrom, IsRefusedParity, parity_file_of}
use Rattle.pblk_cli.specs.Parities.{IsFileOf, IsLostOf, RefusesParity}
use Rattle.pblk_cli.specs.Telling.{Reason, Memory, OfParity, Words}

-- what is made of a drive whose Open chunks were closed: the bytes of its image, and those of its parity
pub record IsParityStored (found : Drive) (image parity text : List ℕ) : Type 0 where
  pub left : Drive
  pub padded : IsPadded found left
  pub image_is : image ≡ image_bytes left
  pub is_parity : IsParity (parity_of (image_of left))
  pub parity_is : parity ≡ parity_file_of left
  pub says : text ≡ number_line (codes "parity") (length (parity_file_of left))

-- A unit of a drive was made anew from the file of a parity, with so many blocks.
pub record IsAnew (found left : DriveView) (bytes : List ℕ) (unit blocks : ℕ) : Type 0 where
  pub parity : ParityFile
  pub file : IsFileOf (shape_of found) bytes parity
  pub same : AreAsKept parity.chunks (drive_image found) unit
  pub anew : IsRebuilt parity unit (drive_image found) (drive_image left)
  pub first : (i : ModelImage) → IsLostOf i (drive_image found) unit bytes → drive_image left ≡ i
  pub blocks_are : blocks ≡ kept_blocks parity.chunks unit
  pub numbers : left ≡ with_units left.units found
  pub wear : map (λ (u : WornUnit). u.wear) left.units ≡ map (λ (u : WornUnit). u.wear) found.units
  pub whole : IsWhole left

-- why it wasn't: for want of memory, or the parity is refused
abbrev pub IsRefusedAs : ModelImage → ℕ → List ℕ → ParityErr → Type 0
IsRefusedAs i unit bytes e = (e ≡ errors.Memory) ⊎ (RefusesParity i unit bytes e × ((first : ModelImage) → IsLostOf first i unit bytes → ⊥))

-- the bytes of the drive whose unit was made anew, and what is told
pub record IsRebuiltStored (found : Drive) (bytes : List ℕ) (unit status : ℕ) (text stored : List ℕ) : Type 0 where
  pub left : Drive
  pub rebuilt : IsRebuiltFrom found bytes unit text left
  pub status_is : status ≡ 0
  pub stored_is : stored ≡ image_bytes left

-- why there are none: the drive hasn't the unit, or the parity is refused, or there was no memory
abbrev pub RefusesRebuild : Drive → List ℕ → ℕ → Reason → Type 0
RefusesRebuild found bytes unit Words = units (stored_shape found) ≤ unit
RefusesRebuild found bytes unit (OfParity e) = IsRefusedParity found bytes unit e
RefusesRebuild found bytes unit Memory = ⊤
RefusesRebuild found bytes unit reason = ⊥
