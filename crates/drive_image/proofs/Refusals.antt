-- Refusals that are judged in order.
use Rattle.std.proofs.Common.{◌≡◌, ℕ, eqb, Option, Some, None, Ok, Err, List, [], ◌∷◌, ◌++◌, length, refl, ap, ◌∙◌}
use Rattle.std.proofs.lemmas.Bool.{cond-true, eq-eqb}
use Rattle.pblk_model.specs.declared.shape.GeometryErr.{GeometryErr}
use Rattle.pblk_model.specs.declared.shape.GeometryErr.TheVariants.{Length}
use Rattle.pblk_model.specs.Checks.{first_refusal}
use Rattle.pblk_model.specs.Geometry.{Geometry, geometry_in, geometry_refusal, unless_refused, read_geometry}

pub first_some : {E : Type 0} (r : Option E) (e : E) (rs : List (Option E)) → r ≡ Some e → first_refusal (r ∷ rs) ≡ Some e
first_some r e rs is = ap (λ r. first_refusal (r ∷ rs)) is

pub first_none : {E : Type 0} (r : Option E) (rs : List (Option E)) → r ≡ None → first_refusal (r ∷ rs) ≡ first_refusal rs
first_none r rs is = ap (λ r. first_refusal (r ∷ rs)) is

pub append_some : {E : Type 0} (xs ys : List (Option E)) (e : E) → first_refusal xs ≡ Some e → first_refusal (xs ++ ys) ≡ Some e
append_some [] ys e is = absurd cc
append_some (None ∷ xs) ys e is = append_some xs ys e is
append_some (Some x ∷ xs) ys e is = is

pub append_none : {E : Type 0} (xs ys : List (Option E)) → first_refusal xs ≡ None → first_refusal (xs ++ ys) ≡ first_refusal ys
append_none [] ys is = refl
append_none (None ∷ xs) ys is = append_none xs ys is
append_none (Some x ∷ xs) ys is = absurd cc

-- What bytes of the length of a geometry are read as.

pub read_judges : (bytes : List ℕ) → length bytes ≡ 4096 → read_geometry bytes ≡ unless_refused (geometry_in bytes) (geometry_refusal (geometry_in bytes))
read_judges bytes size = cond-true (eqb (length bytes) 4096) (unless_refused (geometry_in bytes) (geometry_refusal (geometry_in bytes))) (Err Length)
    (eq-eqb (length bytes) 4096 size)

ok_of : (g x : Geometry) (r : Option GeometryErr) → Ok x ≡ unless_refused g r → (r ≡ None) × (x ≡ g)
ok_of g x None is = (refl, cc)
ok_of g x (Some e) is = absurd cc

err_of : (g : Geometry) (e : GeometryErr) (r : Option GeometryErr) → Err e ≡ unless_refused g r → r ≡ Some e
err_of g e None is = absurd cc
err_of g e (Some x) is = cc

pub read_ok : (bytes : List ℕ) (g : Geometry) → length bytes ≡ 4096 → Ok g ≡ read_geometry bytes → (geometry_refusal (geometry_in bytes) ≡ None)
    × (g ≡ geometry_in bytes)
read_ok bytes g size is = ok_of (geometry_in bytes) g (geometry_refusal (geometry_in bytes)) (is ∙ read_judges bytes size)

pub read_err : (bytes : List ℕ) (e : GeometryErr) → length bytes ≡ 4096 → Err e ≡ read_geometry bytes → geometry_refusal (geometry_in bytes) ≡ Some e
read_err bytes e size is = err_of (geometry_in bytes) e (geometry_refusal (geometry_in bytes)) (is ∙ read_judges bytes size)
