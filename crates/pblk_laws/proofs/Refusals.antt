-- No refusal of an image, or of the numbers of one that is to be made, is want of memory.
use Rattle.std.proofs.Common.{◌≡◌, ℕ, Bool, true, false, List, [], ◌∷◌, map, Option, Some, None, refl, subst}
use Rattle.std.specs.List.{AllByRecursion, range_with_len}
use Rattle.std.specs.Option.{option_map}
use Rattle.std.specs.Prelude.{◌≢◌, ⊤}
use Rattle.pblk_model.specs.declared.image.ImageErr.{ImageErr}
use Rattle.pblk_model.specs.declared.image.ImageErr.TheVariants as errors
use Rattle.pblk_model.specs.Checks.{first_failing, first_refusal, unless}
use Rattle.pblk_model.specs.CommandText.{CreateNumbers, created_geometry, created_refusal}
use Rattle.pblk_model.specs.Geometry.{geometry_refusal, shape_with}
use Rattle.pblk_model.specs.ImageFile.{chunk_refusal, chunks_at, geometry_at, image_refusal, image_refusals, shape_at}
use Rattle.pblk_model.specs.Accepted.{settings_checks}

-- what holds of a refusal, if there is one
abbrev Fits : {E : Type 0} → (E → Type 0) → Option E → Type 0
Fits P None = ⊤
Fits P (Some e) = P e

first_fits : {E : Type 0} (P : E → Type 0) (rs : List (Option E)) → AllByRecursion (Fits P) rs → (e : E) → first_refusal rs ≡ Some e → P e
first_fits P [] all e is = absurd (cc)
first_fits P (None ∷ rs) all e is = first_fits P rs all.1 e is
first_fits P (Some x ∷ rs) all e is = let same : x ≡ e = cc in subst P same all.0

list_fits : {E : Type 0} (P : E → Type 0) (rs : List (Option E)) → AllByRecursion (Fits P) rs → Fits P (first_refusal rs)
list_fits P [] all = tt
list_fits P (None ∷ rs) all = list_fits P rs all.1
list_fits P (Some x ∷ rs) all = all.0

unless_fits : {E : Type 0} (P : E → Type 0) (b : Bool) (e : E) → P e → Fits P (unless b e)
unless_fits P true e h = tt
unless_fits P false e h = h

mapped_fits : {A E : Type 0} (P : E → Type 0) (f : A → E) (o : Option A) → ((x : A) → P (f x)) → Fits P (option_map f o)
mapped_fits P f None h = tt
mapped_fits P f (Some x) h = h x

each_fits : {A E : Type 0} (P : E → Type 0) (f : A → Option E) (xs : List A) → ((x : A) → Fits P (f x)) → AllByRecursion (Fits P) (map f xs)
each_fits P f [] h = tt
each_fits P f (x ∷ xs) h = (h x, each_fits P f xs h)

abbrev IsOther : ImageErr → Type 0
IsOther e = e ≢ errors.Memory

pub image_refused : (bytes : List ℕ) → image_refusal bytes ≢ Some errors.Memory
image_refused bytes is = first_fits IsOther (image_refusals bytes) (
  unless_fits IsOther _ _ (λ e. cc),
  (
    unless_fits IsOther _ _ (λ e. cc),
    (
      unless_fits IsOther _ _ (λ e. cc),
      (
        unless_fits IsOther _ _ (λ e. cc),
        (
          mapped_fits IsOther errors.Geometry (geometry_refusal (geometry_at bytes)) (λ x e. cc),
          (
            mapped_fits IsOther errors.Settings (first_failing (settings_checks (shape_at bytes))) (λ x e. cc),
            (
              unless_fits IsOther _ _ (λ e. cc),
              (
                list_fits IsOther (map (chunk_refusal bytes) (range_with_len 0 (chunks_at bytes)))
                    (each_fits IsOther (chunk_refusal bytes) (range_with_len 0 (chunks_at bytes)) (λ n. mapped_fits IsOther _ _ (λ x e. cc))),
                (
                  unless_fits IsOther _ _ (λ e. cc),
                  (
                    unless_fits IsOther _ _ (λ e. cc),
                    tt,
                  ),
                ),
              ),
            ),
          ),
        ),
      ),
    ),
  ),
) errors.Memory is refl

pub created_refused : (n : CreateNumbers) → created_refusal n ≢ Some errors.Memory
created_refused n is = first_fits IsOther (
    option_map errors.Geometry (geometry_refusal (created_geometry n))
    ∷ option_map errors.Settings (first_failing (settings_checks (shape_with (created_geometry n) n.sector n.capacity n.ring)))
    ∷ []
    ) (
      mapped_fits IsOther errors.Geometry (geometry_refusal (created_geometry n)) (λ x e. cc),
      (mapped_fits IsOther errors.Settings (first_failing (settings_checks (shape_with (created_geometry n) n.sector n.capacity n.ring))) (λ x e. cc), tt),
    ) errors.Memory is refl
