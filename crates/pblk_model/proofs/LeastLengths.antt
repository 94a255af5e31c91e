-- The least whole stripes that hold a record.
use Rattle.std.proofs.Common.{ℕ, ◌+◌, ◌-◌, ◌*◌, ◌<◌, ◌≤◌, refl, subst, arith}
use Rattle.std.specs.Int.{div_ceil}
use Rattle.std.proofs.lemmas.Grind.{div_ceil_times}
use Rattle.std.proofs.Math.Nat.{lt_of_mul-lt-mul_right, mul-le-mul_left, mul-le-mul_right, mul-pos, pos_of_ne-zero}
use Rattle.pblk_model.specs.declared.shape.Shape.{Shape}
use Rattle.pblk_model.specs.Accepted.{IsAccepted}
use Rattle.pblk_model.specs.LineOrder.{IsLeastMultiple, HoldsStart, HoldsEnd, start_len, end_len}
use Rattle.pblk_model.proofs.Numbers.{sector_is_long}

pub ceil_holds : (x d : ℕ) → 0 < d → x ≤ div_ceil x d * d
ceil_holds x d h = (div_ceil_times x d h).0

pub ceil_least : (x d k : ℕ) → 0 < d → x ≤ k * d → div_ceil x d ≤ k
ceil_least x d k h fits =
    let short : div_ceil x d * d < x + d = (div_ceil_times x d h).1 in
    let more : div_ceil x d * d < (k + 1) * d = omega arith in
    let below : div_ceil x d < k + 1 = lt_of_mul-lt-mul_right d more in
    omega arith

pub ceil_positive : (x d : ℕ) → 0 < d → 0 < x → 0 < div_ceil x d
ceil_positive x d h some = pos_of_ne-zero (λ e. let none : x ≤ 0 * d = subst (λ (c : ℕ). x ≤ c * d) e (ceil_holds x d h) in omega arith)

pub sector_at_least : (s : Shape) → IsAccepted s → 512 ≤ s.sector
sector_at_least s accepted = sector_is_long s.sector accepted.target.sector

pub start_len_least : (s : Shape) → 0 < s.ws_opt → 0 < s.sector → IsLeastMultiple s.ws_opt (HoldsStart s) (start_len s)
start_len_least s stripes sectors =
    let bytes : ℕ = 64 + 24 * (s.chunks - 1) in
    let stripe : ℕ = s.ws_opt * s.sector in
    let some : 0 < s.ws_opt * s.sector = mul-pos stripes sectors in
    record {
      multiple = (div_ceil bytes stripe, ceil_positive bytes stripe some (omega arith), refl);
      holds = (let h : bytes ≤ div_ceil bytes stripe * stripe = ceil_holds bytes stripe some in omega arith);
      least = λ k positive h. mul-le-mul_left s.ws_opt (ceil_least bytes stripe k some (omega arith));
    }

pub start_len_positive : (s : Shape) → IsAccepted s → 0 < start_len s
start_len_positive s accepted =
    let sectors : 0 < s.sector = omega (arith, sector_at_least s accepted) in
    mul-pos accepted.drive.ws_opt (ceil_positive (64 + 24 * (s.chunks - 1)) (s.ws_opt * s.sector) (mul-pos accepted.drive.ws_opt sectors) (omega arith))

-- The marks of b blocks between the records, but for e that the end record takes itself.
pub marks_fit : (b n sector : ℕ) → 32 ≤ sector → 0 < n → 32 + 16 * b ≤ n * (sector + 16) → 32 + 16 * (b - n) ≤ n * sector
marks_fit b n sector large some h =
    let product : 1 * sector ≤ n * sector = mul-le-mul_right sector some in
    omega arith

pub end_len_least : (s : Shape) (g : ℕ) → 0 < s.ws_opt → 32 ≤ s.sector → IsLeastMultiple s.ws_opt (HoldsEnd s g) (end_len s g)
end_len_least s g stripes sectors =
    let between : ℕ = g * s.clba - start_len s in
    let bytes : ℕ = 32 + 16 * (g * s.clba - start_len s) in
    let stripe : ℕ = s.ws_opt * (s.sector + 16) in
    let some : 0 < s.ws_opt * (s.sector + 16) = mul-pos stripes (omega arith) in
    let positive : 0 < div_ceil bytes stripe = ceil_positive bytes stripe some (omega arith) in
    let whole : bytes ≤ div_ceil bytes stripe * stripe = ceil_holds bytes stripe some in
    record {
      multiple = (div_ceil bytes stripe, positive, refl);
      holds = marks_fit (g * s.clba - start_len s) (end_len s g) s.sector sectors (mul-pos stripes positive) (omega arith);
      least = λ k more h. mul-le-mul_left s.ws_opt (ceil_least bytes stripe k some (omega arith));
    }
