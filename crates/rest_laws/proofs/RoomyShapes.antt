-- What an accepted shape says of its lines: too few sectors can be live for all but five lines to
-- have more than a line's data less a stripe.
use Rattle.std.proofs.Common.{◌≡◌, ℕ, ◌+◌, ◌-◌, ◌*◌, ◌<◌, ◌≤◌, arith}
use Rattle.std.proofs.Math.Nat.{add-mul, le_of_mul-le-mul_left, mul_assoc, mul_left_comm, mul-le-mul_right}
use Rattle.pblk_model.specs.Accepted.{IsAccepted}
use Rattle.pblk_model.specs.declared.shape.Shape.{Shape}
use Rattle.pblk_world.specs.Space.{full_data}

eight_times : (w d : ℕ) → (16 + w) * w ≤ 2 * d → 8 * w ≤ d
eight_times w d room =
    let split : (16 + w) * w ≡ 16 * w + w * w = add-mul 16 w w in
    omega arith

-- a full line has data for eight stripes
pub eight_stripes : (s : Shape) → IsAccepted s → 8 * s.ws_opt ≤ full_data s
eight_stripes s is = eight_times s.ws_opt (full_data s) is.target.room

pub some_data : (s : Shape) → IsAccepted s → 0 < full_data s
some_data s is =
    let eight : 8 * s.ws_opt ≤ full_data s = eight_stripes s is in
    let one : 0 < s.ws_opt = is.drive.ws_opt in
    omega arith

-- n lines with k live sectors each, of which U is the most, and 3/4 of the data d of so many lines
too_few : (n k d lines most : ℕ) → 8 ≤ lines → lines ≤ n + 5 → n * k ≤ most → 4 * most ≤ 3 * (lines - 5) * d → 4 * k ≤ 3 * d
too_few n k d lines most some few live spare =
    let left : n * (4 * k) ≡ 4 * (n * k) = mul_left_comm n 4 k in
    let right : n * (3 * d) ≡ 3 * (n * d) = mul_left_comm n 3 d in
    let whole : 3 * n * d ≡ 3 * (n * d) = mul_assoc 3 n d in
    let wider : 3 * (lines - 5) * d ≤ 3 * n * d = mul-le-mul_right d (omega arith) in
    let both : n * (4 * k) ≤ n * (3 * d) = omega arith in
    le_of_mul-le-mul_left both (omega arith)

pub share_of_live : (s : Shape) (n k : ℕ) → IsAccepted s → s.chunks ≤ n + 5 → n * k ≤ s.capacity → 4 * k ≤ 3 * full_data s
share_of_live s n k is most within = too_few n k (full_data s) s.chunks s.capacity is.drive.lines_low most within is.target.spare

-- So many lines, all but five, can't each have more live sectors than a line's data less a stripe.
pub too_few_live : (s : Shape) (n : ℕ) → IsAccepted s → s.chunks ≤ n + 5 → n * (full_data s + 1 - s.ws_opt) ≤ s.capacity → ⊥
too_few_live s n is most within =
    let eight : 8 * s.ws_opt ≤ full_data s = eight_stripes s is in
    let four : 4 * (full_data s + 1 - s.ws_opt) ≤ 3 * full_data s = share_of_live s n (full_data s + 1 - s.ws_opt) is most within in
    let some : 0 < s.ws_opt = is.drive.ws_opt in
    by_numbers (full_data s) s.ws_opt eight four some
  where
    by_numbers : (d w : ℕ) → 8 * w ≤ d → 4 * (d + 1 - w) ≤ 3 * d → 0 < w → ⊥
    by_numbers d w eight four some = omega arith
