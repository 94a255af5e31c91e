-- The refusals of an image, by the parts in which they are found.
use Rattle.std.specs.Prelude.{ℕ, ◌==◌, nat_le, List, [], ◌∷◌, map, length, take, Option, codes}
use Rattle.std.specs.Int.{w32}
use Rattle.std.specs.List.{range_with_len}
use Rattle.std.specs.Option.{option_map}
use Rattle.std.specs.Str.{bytes_eq}
use Rattle.pblk_model.specs.declared.image.ImageErr.{ImageErr}
use Rattle.pblk_model.specs.declared.image.ImageErr.TheVariants as errors
use Rattle.pblk_model.specs.Accepted.{settings_checks}
use Rattle.pblk_model.specs.Bytes.{number_at}
use Rattle.pblk_model.specs.Checks.{first_failing, first_refusal, unless}
use Rattle.pblk_model.specs.Geometry.{geometry_refusal}
use Rattle.pblk_model.specs.ImageFile.{blocks_end, chunk_refusal, chunks_at, descriptors_end, geometry_at, shape_at, short_of}

-- of the header, but for its settings
abbrev pub header_refusals : List ℕ → List (Option ImageErr)
header_refusals b = short_of b 32
    ∷ unless (bytes_eq (take 8 b) (codes "PBLKOCSD")) errors.Magic
    ∷ unless (number_at w32 8 b == 1) errors.Version
    ∷ []

-- of the numbers: of the geometry and of the settings
abbrev pub number_refusals : List ℕ → List (Option ImageErr)
number_refusals b = short_of b 4128
    ∷ option_map errors.Geometry (geometry_refusal (geometry_at b))
    ∷ option_map errors.Settings (first_failing (settings_checks (shape_at b)))
    ∷ []

-- why a descriptor among the first n is refused
abbrev pub descriptor_refusal : List ℕ → ℕ → Option ImageErr
descriptor_refusal b n = first_refusal (map (chunk_refusal b) (range_with_len 0 n))

-- of the descriptors and of the blocks' length
abbrev pub chunk_refusals : List ℕ → List (Option ImageErr)
chunk_refusals b = short_of b (descriptors_end b)
    ∷ descriptor_refusal b (chunks_at b)
    ∷ short_of b (blocks_end b)
    ∷ unless (nat_le (length b) (blocks_end b)) errors.Long
    ∷ []
