-- A ring's size that has more than 32 bits is refused as 0 is.
use Rattle.std.proofs.Common.{◌≡◌, ℕ, ◌^◌, ◌<◌, ◌≤◌, false, refl, ap, ◌∙◌, inl, inr, arith}
use Rattle.std.proofs.lemmas.Bool.{cases_lt, ne_eqb}
use Rattle.pblk_model.specs.Accepted.{IsAccepted, is_ring_power, settings_checks}
use Rattle.pblk_model.specs.Checks.{first_failing}
use Rattle.pblk_model.specs.Geometry.{Geometry, shape_with}

pub large_is_no_power : (n : ℕ) → 2 ^ 32 ≤ n → is_ring_power n ≡ false
large_is_no_power n h = rw (
  ne_eqb n 1 (λ e. omega arith),
  ne_eqb n 2 (λ e. omega arith),
  ne_eqb n 4 (λ e. omega arith),
  ne_eqb n 8 (λ e. omega arith),
  ne_eqb n 16 (λ e. omega arith),
  ne_eqb n 32 (λ e. omega arith),
  ne_eqb n 64 (λ e. omega arith),
  ne_eqb n 128 (λ e. omega arith),
  ne_eqb n 256 (λ e. omega arith),
  ne_eqb n 512 (λ e. omega arith),
  ne_eqb n 1024 (λ e. omega arith),
  ne_eqb n 2048 (λ e. omega arith),
  ne_eqb n 4096 (λ e. omega arith),
  ne_eqb n 8192 (λ e. omega arith),
  ne_eqb n 16384 (λ e. omega arith),
) refl

-- the checks of the settings but for the last
same_refusal_0 : (g : Geometry) (sector capacity ring : ℕ) → 2 ^ 32 ≤ ring
    → first_failing (settings_checks (shape_with g sector capacity 0)) ≡ first_failing (settings_checks (shape_with g sector capacity ring))
same_refusal_0 g sector capacity ring h = rw (large_is_no_power ring h) refl

-- what the ring's size is read as
pub record IsRingOf (ring read : ℕ) : Type 0 where
  pub fits : ring < 2 ^ 32 → read ≡ ring
  pub large : 2 ^ 32 ≤ ring → read ≡ 0

pub same_refusal : (g : Geometry) (sector capacity ring read : ℕ) → IsRingOf ring read
    → first_failing (settings_checks (shape_with g sector capacity read)) ≡ first_failing (settings_checks (shape_with g sector capacity ring))
same_refusal g sector capacity ring read is = elim (cases_lt ring (2 ^ 32)) [
  | inl small ↦ ap (λ r. first_failing (settings_checks (shape_with g sector capacity r))) (is.fits small)
  | inr large ↦ ap (λ r. first_failing (settings_checks (shape_with g sector capacity r))) (is.large large) ∙ same_refusal_0 g sector capacity ring large
]

-- a ring that is accepted fits
pub accepted_ring : (g : Geometry) (sector capacity ring read : ℕ) → IsRingOf ring read → IsAccepted (shape_with g sector capacity read) → read ≡ ring
accepted_ring g sector capacity ring read is accepted = elim (cases_lt ring (2 ^ 32)) [
  | inl small ↦ is.fits small
  | inr large ↦ absurd (omega (arith, accepted.target.ring_low, is.large large))
]
