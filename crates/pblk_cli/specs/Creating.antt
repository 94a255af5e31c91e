-- Why no image is made.
use Rattle.std.specs.Prelude.{◌≡◌, Some, None}
use Rattle.pblk_model.specs.declared.image.ImageErr.{ImageErr}
use Rattle.pblk_model.specs.declared.image.ImageErr.TheVariants as errors
use Rattle.pblk_model.specs.CommandText.{CreateNumbers}
use Rattle.pblk_model.specs.CommandText.{created_refusal}

-- by the numbers; or there was no memory, for numbers that aren't refused
abbrev pub MakesNothing : CreateNumbers → ImageErr → Type 0
MakesNothing n errors.Memory = created_refusal n ≡ None
MakesNothing n e = created_refusal n ≡ Some e
