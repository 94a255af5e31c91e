-- The length of a sector, from the lengths of all.
use Rattle.std.proofs.Common.{ℕ, ◌+◌, ◌*◌, ◌/◌, ◌<◌, ◌≡◌, List, [], ◌∷◌, length, slice_get, Some, refl, sym, ap, ◌∙◌, arith}
use Rattle.std.proofs.lemmas.Nat.{div-mul-add, mul-lt}
use Rattle.std.proofs.Math.Nat.{mul_comm}
use Rattle.pblk_model.specs.declared.shape.Address.{Address}
use Rattle.pblk_model.specs.Geometry.{Geometry}
use Rattle.unit_port.specs.Unit.{ModelUnit}
use Rattle.vector_io.specs.Addresses.{IsVector, AreInside}
use Rattle.unit_port.specs.Commands.{AreUnitsOf}
use Rattle.vector_io.specs.Plans.{HaveSectors}

quotient : (size count s : ℕ) → 0 < count → size ≡ count * s → size / count ≡ s
quotient size count s some is =
    let e : size ≡ s * count + 0 = is ∙ mul_comm count s ∙ omega arith in
    ap (λ n. n / count) e ∙ div-mul-add s count 0 some

pub sector_is : (units : List ModelUnit) (size count : ℕ) → 0 < count → HaveSectors size count units → (i : ℕ) (u : ModelUnit) → slice_get units i ≡ Some u
    → u.shape.sector ≡ size / count
sector_is units size count some h i u there = sym (quotient size count u.shape.sector some (h i u there))

some_product : (g p : ℕ) (a b : ℕ) → a < g → b < p → 0 < g * p
some_product g p a b in_g in_p = mul-lt 0 0 g p (omega arith) (omega arith)

first_address : (g : Geometry) (xs : List Address) → 0 < length xs → AreInside g xs → 0 < g.groups * g.pus
first_address g [] some inside = absurd (omega arith)
first_address g (a ∷ xs) some inside = let h = inside 0 a refl in some_product g.groups g.pus a.group a.pu h.group h.pu

pub some_unit : (units : List ModelUnit) (n : ℕ) → length units ≡ n → 0 < n → (u : ModelUnit) × (slice_get units 0 ≡ Some u)
some_unit [] n len some = absurd (omega arith)
some_unit (u ∷ units) n len some = (u, refl)

pub whole_sectors : (g : Geometry) (xs : List Address) (units : List ModelUnit) (size count : ℕ) → IsVector g xs → AreUnitsOf g units → 0 < count
    → HaveSectors size count units → size ≡ count * (size / count)
whole_sectors g xs units size count v fits some h =
    let u = some_unit units (g.groups * g.pus) fits.count (first_address g xs v.count.0 v.inside) in
    h 0 u.0 u.1 ∙ ap (λ n. count * n) (sym (quotient size count u.0.shape.sector some (h 0 u.0 u.1)))
