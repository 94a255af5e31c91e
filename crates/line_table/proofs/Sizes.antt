-- How many sectors a target may have.
use Rattle.std.proofs.Common.{◌≡◌, ℕ, ◌-◌, ◌*◌, ◌<◌, ◌≤◌, ◌^◌, ◌⊎◌, inl, inr, Bool, true, false, cond, arith}
use Rattle.std.proofs.Math.Nat.{mul-le-mul_left, mul-le-mul_right}
use Rattle.std.specs.Prelude.{nat_lt}
use Rattle.pblk_model.specs.declared.shape.Shape.{Shape}
use Rattle.pblk_model.specs.Shape.{units}
use Rattle.pblk_model.specs.Accepted.{IsAccepted}
use Rattle.pblk_model.specs.LineOrder.{start_len, end_len, data_len}

some_sector : (n : ℕ) → (n ≡ 512) ⊎ (n ≡ 4096) → 1 ≤ n
some_sector n (inl e) = omega arith
some_sector n (inr e) = omega arith

at_most : (b : Bool) (n m : ℕ) → n ≤ m → cond b 0 n ≤ m
at_most true n m h = omega arith
at_most false n m h = h

data_at_most : (s : Shape) (g : ℕ) → data_len s g ≤ g * s.clba
data_at_most s g = at_most (nat_lt (g * s.clba - start_len s - end_len s g) s.ws_opt) (g * s.clba - start_len s - end_len s g) (g * s.clba) (omega arith)

few_sectors : (u k b s d c : ℕ) → 1 ≤ s → u * k * b * s ≤ 268435456 → d ≤ u * b → 4 * c ≤ 3 * (k - 5) * d → c < 2 ^ 32
few_sectors u k b s d c some size within spare =
    let h1 : 3 * (k - 5) * d ≤ 3 * (k - 5) * (u * b) = mul-le-mul_left (3 * (k - 5)) within in
    let lines : 3 * (k - 5) ≤ 3 * k = omega arith in
    let h2 : 3 * (k - 5) * (u * b) ≤ 3 * k * (u * b) = mul-le-mul_right (u * b) lines in
    let h3 : u * k * b * 1 ≤ u * k * b * s = mul-le-mul_left (u * k * b) some in
    omega arith

pub capacity_is_small : (s : Shape) → IsAccepted s → s.capacity < 2 ^ 32
capacity_is_small s accepted = few_sectors (units s) s.chunks s.clba s.sector (data_len s (units s)) s.capacity
    (some_sector s.sector accepted.target.sector) accepted.target.size (data_at_most s (units s)) accepted.target.spare
