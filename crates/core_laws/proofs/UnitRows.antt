-- One unit's row changed, and the others kept.
use Rattle.std.proofs.Common.{◌≡◌, ◌≢◌, ℕ, ◌==◌, ◌||◌, not, nat_eq, Bool, true, false, cond, List, [], ◌∷◌, refl, sym, ap, ◌∙◌}
use Rattle.std.proofs.lemmas.Bool.{eqb-true}
use Rattle.stripe_placer.specs.Placing.{Program}
use Rattle.stripe_placer.specs.Placing.UnitRow.{UnderWay, Stopped}
use Rattle.core_laws.specs.PlacerOf.{contains_unit, without_unit, row_of_program}
use Rattle.pblk_model.proofs.Tests.{other_number}

-- ---- sets of units

pub not_without : (unit : ℕ) (units : List ℕ) → contains_unit (without_unit unit units) unit ≡ false
not_without unit [] = refl
not_without unit (u ∷ us) = go (nat_eq u unit) refl (not_without unit us)
  where
    go : (b : Bool) → nat_eq u unit ≡ b → contains_unit (without_unit unit us) unit ≡ false
        → contains_unit (cond (not b) (u ∷ without_unit unit us) (without_unit unit us)) unit ≡ false
    go true e rest = rest
    go false e rest = ap (λ b. b || contains_unit (without_unit unit us) unit) e ∙ rest

pub others_within : (unit : ℕ) (units : List ℕ) (v : ℕ) → v ≢ unit → contains_unit (without_unit unit units) v ≡ contains_unit units v
others_within unit [] v other = refl
others_within unit (u ∷ us) v other = go (nat_eq u unit) refl (others_within unit us v other)
  where
    go : (b : Bool) → nat_eq u unit ≡ b → contains_unit (without_unit unit us) v ≡ contains_unit us v
        → contains_unit (cond (not b) (u ∷ without_unit unit us) (without_unit unit us)) v ≡ contains_unit (u ∷ us) v
    go true e rest =
        let same : u ≡ unit = eqb-true u unit e in
        rest ∙ ap (λ b. b || contains_unit us v) (sym (other_number u v (λ f. other (sym f ∙ same))))
    go false e rest = ap (λ b. (u == v) || b) rest

-- ---- programs

pub under_way_is : (stopped : Bool) (p of : Program) → row_of_program stopped p ≡ UnderWay of → p ≡ of
under_way_is true p of e = absurd cc
under_way_is false p of e = cc

pub stopped_is : (stopped : Bool) (p of : Program) → row_of_program stopped p ≡ Stopped of → (stopped ≡ true) × (p ≡ of)
stopped_is true p of e = (refl, cc)
stopped_is false p of e = absurd cc
