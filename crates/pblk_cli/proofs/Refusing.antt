-- What the refusal of an image's bytes is.
use Rattle.std.proofs.Common.{inl, inr, ◌≡◌, List, ℕ, Option, Some, None, Result, Ok, Err, refl, sym, subst, ◌∙◌, ap}
use Rattle.std.specs.Prelude.{◌⊎◌}
use Rattle.std.specs.Result.{IfErr, IsErrAnd, IsOkUnless}
use Rattle.pblk_model.specs.declared.image.ImageErr.{ImageErr}
use Rattle.pblk_model.specs.declared.image.ImageErr.TheVariants as errors
use Rattle.pblk_model.specs.ImageFile.{image_refusal}
use Rattle.pblk_laws.proofs.Refusals.{created_refused, image_refused}
use Rattle.pblk_cli.specs.declared.refusal.Refusal.{Refusal}
use Rattle.pblk_cli.specs.declared.refusal.Refusal.TheVariants as refusals
use Rattle.pblk_cli.specs.Endings.{reason_of}
use Rattle.pblk_cli.specs.Reading.{RefusesBytes}
use Rattle.pblk_model.specs.CommandText.{CreateNumbers}
use Rattle.pblk_model.specs.CommandText.{created_refusal}
use Rattle.pblk_cli.specs.Creating.{MakesNothing}

-- an error is want of memory, or the refusal
of_error_at : {D : Type 0} (found at : Option ImageErr) → found ≡ at → (r : Result D ImageErr) (e : ImageErr) → r ≡ Err e
    → ((x : ImageErr) → found ≡ Some x → r ≡ Err x) → (found ≡ None → IsOkUnless r errors.Memory)
    → ((e ≡ errors.Memory) × (found ≡ None)) ⊎ (found ≡ Some e)
of_error_at found (Some x) is r e at refused taken = let same : x ≡ e = cc (refused x is, at) in inr (is ∙ ap Some same)
of_error_at {D} found None is r e at refused taken = inl (subst (λ (s : Result D ImageErr). IsOkUnless s errors.Memory) at (taken is), is)

pub of_error : {D : Type 0} (found : Option ImageErr) (r : Result D ImageErr) (e : ImageErr) → r ≡ Err e
    → ((x : ImageErr) → found ≡ Some x → r ≡ Err x) → (found ≡ None → IsOkUnless r errors.Memory)
    → ((e ≡ errors.Memory) × (found ≡ None)) ⊎ (found ≡ Some e)
of_error found r e at refused taken = of_error_at found found refl r e at refused taken

-- with a value there is no refusal
of_value_at : {D : Type 0} (found at : Option ImageErr) → found ≡ at → (r : Result D ImageErr) (d : D) → r ≡ Ok d
    → ((x : ImageErr) → found ≡ Some x → r ≡ Err x) → found ≡ None
of_value_at found (Some x) is r d at refused = absurd (cc (refused x is, at))
of_value_at found None is r d at refused = is

pub of_value : {D : Type 0} (found : Option ImageErr) (r : Result D ImageErr) (d : D) → r ≡ Ok d
    → ((x : ImageErr) → found ≡ Some x → r ≡ Err x) → found ≡ None
of_value found r d at refused = of_value_at found found refl r d at refused

-- what an error says of the numbers of a drive that is to be made
pub makes_nothing : (n : CreateNumbers) (e : ImageErr) → ((e ≡ errors.Memory) × (created_refusal n ≡ None)) ⊎ (created_refusal n ≡ Some e) → MakesNothing n e
makes_nothing n errors.Memory (inl memory) = memory.1
makes_nothing n errors.Memory (inr is) = absurd (created_refused n is)
makes_nothing n errors.Magic (inl memory) = absurd (cc (memory.0))
makes_nothing n errors.Magic (inr is) = is
makes_nothing n errors.Version (inl memory) = absurd (cc (memory.0))
makes_nothing n errors.Version (inr is) = is
makes_nothing n (errors.Geometry x) (inl memory) = absurd (cc (memory.0))
makes_nothing n (errors.Geometry x) (inr is) = is
makes_nothing n (errors.Short x) (inl memory) = absurd (cc (memory.0))
makes_nothing n (errors.Short x) (inr is) = is
makes_nothing n errors.Long (inl memory) = absurd (cc (memory.0))
makes_nothing n errors.Long (inr is) = is
makes_nothing n (errors.Chunk x y z) (inl memory) = absurd (cc (memory.0))
makes_nothing n (errors.Chunk x y z) (inr is) = is
makes_nothing n (errors.Settings x) (inl memory) = absurd (cc (memory.0))
makes_nothing n (errors.Settings x) (inr is) = is

pub error_holds : {T : Type 0} (P : ImageErr → Type 0) (e : ImageErr) (r : Result T ImageErr) → IsErrAnd r (λ x. x ≡ e) → P e → IfErr r P
error_holds P e (Ok x) h k = tt
error_holds P e (Err x) h k = subst P (sym h) k

-- what `refusal_of` answers
pub record IsRefusalOf (e : ImageErr) (q : Refusal) : Type 0 where
  pub memory : e ≡ errors.Memory → q ≡ refusals.Memory
  pub image : (e ≡ errors.Memory → ⊥) → q ≡ refusals.Image e

of_image : (bytes : List ℕ) (e : ImageErr) → image_refusal bytes ≡ Some e → (q : Refusal) → IsRefusalOf e q → RefusesBytes bytes (reason_of q)
of_image bytes errors.Memory is q h = absurd (image_refused bytes is)
of_image bytes errors.Magic is q h = rw (h.image (λ no. cc)) is
of_image bytes errors.Version is q h = rw (h.image (λ no. cc)) is
of_image bytes (errors.Geometry x) is q h = rw (h.image (λ no. cc)) is
of_image bytes (errors.Short x) is q h = rw (h.image (λ no. cc)) is
of_image bytes errors.Long is q h = rw (h.image (λ no. cc)) is
of_image bytes (errors.Chunk x y z) is q h = rw (h.image (λ no. cc)) is
of_image bytes (errors.Settings x) is q h = rw (h.image (λ no. cc)) is

pub refuses : {D : Type 0} (bytes : List ℕ) (r : Result D ImageErr) (e : ImageErr) → r ≡ Err e
    → ((x : ImageErr) → image_refusal bytes ≡ Some x → r ≡ Err x) → (image_refusal bytes ≡ None → IsOkUnless r errors.Memory)
    → (q : Refusal) → IsRefusalOf e q → RefusesBytes bytes (reason_of q)
refuses bytes r e at refused taken q h = elim (of_error (image_refusal bytes) r e at refused taken) [
  | inl memory ↦ rw (h.memory memory.0) memory.1
  | inr is ↦ of_image bytes e is q h
]
