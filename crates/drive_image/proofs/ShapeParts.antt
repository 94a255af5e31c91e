-- The shape that an image's first two parts say.
use Rattle.std.proofs.Common.{◌≡◌, ℕ, List, refl}
use Rattle.std.specs.Int.{w32, w64}
use Rattle.pblk_model.specs.Bytes.{number_at}
use Rattle.pblk_model.specs.Geometry.{Geometry, shape_with}
use Rattle.pblk_model.specs.ImageFile.{geometry_at, shape_at}

-- these are its numbers
pub record AreNumbers (b : List ℕ) (g : Geometry) (sector capacity ring : ℕ) : Type 0 where
  pub geometry : g ≡ geometry_at b
  pub sector_is : sector ≡ number_at w32 12 b
  pub capacity_is : capacity ≡ number_at w64 16 b
  pub ring_is : ring ≡ number_at w64 24 b

pub shape_same : (b : List ℕ) (g : Geometry) (sector capacity ring : ℕ) → AreNumbers b g sector capacity ring → shape_with g sector capacity ring ≡ shape_at b
shape_same b g sector capacity ring is = rw (is.geometry, is.sector_is, is.capacity_is, is.ring_is) refl
