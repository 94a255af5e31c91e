-- Which addresses are a vector, and which refusal others get.
use Rattle.std.specs.Prelude.{ℕ, ◌<◌, ◌≤◌, ◌≡◌, List, length, slice_get, Some}
use Rattle.pblk_model.specs.declared.shape.Address.{Address}
use Rattle.pblk_model.specs.Geometry.{Geometry, IsAddress}
use Rattle.vector_io.specs.declared.vector.VectorErr.{VectorErr}
use Rattle.vector_io.specs.declared.vector.VectorErr.TheVariants as errors

-- a vector: the geometry of its drive, and its addresses
pub record ModelVector : Type 0 where
  pub geometry : Geometry
  pub addresses : List Address

abbrev pub IsCount : ℕ → Type 0
IsCount n = (0 < n) × (n ≤ 64)

-- all are addresses of blocks of the drive
abbrev pub AreInside : Geometry → List Address → Type 0
AreInside g addresses = (i : ℕ) (a : Address) → slice_get addresses i ≡ Some a → IsAddress g a

-- the address with this index stood before
pub record IsRepeated (addresses : List Address) (i : ℕ) : Type 0 where
  pub index : ℕ
  pub address : Address
  pub before : index < i
  pub there : slice_get addresses index ≡ Some address
  pub again : slice_get addresses i ≡ Some address

abbrev pub AreApart : List Address → Type 0
AreApart addresses = (i : ℕ) → ¬ IsRepeated addresses i

pub record IsVector (g : Geometry) (addresses : List Address) : Type 0 where
  pub count : IsCount (length addresses)
  pub inside : AreInside g addresses
  pub apart : AreApart addresses

-- the address with this index isn't one of the drive, and all before it are
pub record IsFirstOutside (g : Geometry) (addresses : List Address) (i : ℕ) : Type 0 where
  pub address : Address
  pub there : slice_get addresses i ≡ Some address
  pub outside : ¬ IsAddress g address
  pub before : (j : ℕ) (a : Address) → j < i → slice_get addresses j ≡ Some a → IsAddress g a

-- the address with this index stood before, and none before it did
pub record IsFirstRepeated (addresses : List Address) (i : ℕ) : Type 0 where
  pub repeated : IsRepeated addresses i
  pub before : (j : ℕ) → j < i → ¬ IsRepeated addresses j

-- the refusal of addresses that are no vector
abbrev pub IsRefused : Geometry → List Address → VectorErr → Type 0
IsRefused g addresses errors.Count = ¬ IsCount (length addresses)
IsRefused g addresses (errors.Address i) = IsCount (length addresses) × IsFirstOutside g addresses i
IsRefused g addresses (errors.Repeated i) = IsCount (length addresses) × AreInside g addresses
    × IsFirstRepeated addresses i
IsRefused g addresses errors.Memory = ⊥
