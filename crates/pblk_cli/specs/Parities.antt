-- The files of parities: whose they are, why one is refused, and what is told of it.
use Rattle.std.specs.Prelude.{ℕ, ◌≡◌, List, [], ◌∷◌, ◌++◌, codes}
use Rattle.pblk_model.specs.CommandText.{memory_line}
use Rattle.pblk_model.specs.Image.{Image, IsFit}
use Rattle.pblk_model.specs.Text.{newline, spaced}
use Rattle.pblk_model.specs.declared.shape.Shape.{Shape}
use Rattle.stripe_parity.specs.declared.error.ParityErr.{ParityErr}
use Rattle.stripe_parity.specs.declared.error.ParityErr.TheVariants as errors
use Rattle.stripe_parity.specs.ParityBytes.{IsFileRefusal, parity_bytes}
use Rattle.stripe_parity.specs.ParityFile.{IsParity, ParityFile, parity_of}
use Rattle.stripe_parity.specs.Rebuilding.{AgreeBut, IsFirstDifference}

-- the bytes are the file of this parity, of a drive of this shape
pub record IsFileOf (s : Shape) (bytes : List ℕ) (p : ParityFile) : Type 0 where
  pub parity : IsParity p
  pub shape : p.shape ≡ s
  pub spelled : parity_bytes p ≡ bytes

-- The bytes are the file of the parity of a first drive, with which the drive found agrees on all units but one.
pub record IsLostOf (first found : Image) (unit : ℕ) (bytes : List ℕ) : Type 0 where
  pub fits : IsFit first
  pub parity : IsParity (parity_of first)
  pub spelled : parity_bytes (parity_of first) ≡ bytes
  pub agree : AgreeBut unit first found

-- The bytes are no file of a parity of this drive's shape, or another unit of the drive isn't as the parity says.
abbrev pub RefusesParity : Image → ℕ → List ℕ → ParityErr → Type 0
RefusesParity i unit bytes (errors.Differs other chunk) = (p : ParityFile) × IsFileOf i.shape bytes p × IsFirstDifference p.chunks i unit other chunk
RefusesParity i unit bytes errors.Magic = IsFileRefusal i.shape bytes errors.Magic
RefusesParity i unit bytes errors.Version = IsFileRefusal i.shape bytes errors.Version
RefusesParity i unit bytes errors.Numbers = IsFileRefusal i.shape bytes errors.Numbers
RefusesParity i unit bytes (errors.Short length) = IsFileRefusal i.shape bytes (errors.Short length)
RefusesParity i unit bytes errors.Long = IsFileRefusal i.shape bytes errors.Long
RefusesParity i unit bytes (errors.State other chunk) = IsFileRefusal i.shape bytes (errors.State other chunk)
RefusesParity i unit bytes (errors.Drive other event) = ⊥
RefusesParity i unit bytes errors.Memory = ⊥

-- The line of a parity that is refused. The last two kinds are no refusal of a command.
abbrev pub parity_line : ParityErr → List ℕ
parity_line errors.Magic = codes "parity Magic" ++ newline
parity_line errors.Version = codes "parity Version" ++ newline
parity_line errors.Numbers = codes "parity Numbers" ++ newline
parity_line (errors.Short bytes) = codes "parity Short" ++ spaced (bytes ∷ []) ++ newline
parity_line errors.Long = codes "parity Long" ++ newline
parity_line (errors.State unit chunk) = codes "parity State" ++ spaced (unit ∷ chunk ∷ []) ++ newline
parity_line (errors.Differs unit chunk) = codes "parity Differs" ++ spaced (unit ∷ chunk ∷ []) ++ newline
parity_line (errors.Drive unit event) = codes "parity Drive" ++ spaced (unit ∷ event ∷ []) ++ newline
parity_line errors.Memory = memory_line
