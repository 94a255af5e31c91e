-- How large the numbers of an accepted shape are.
use Rattle.std.proofs.Common.{◌≡◌, ℕ, ◌+◌, ◌-◌, ◌*◌, ◌/◌, ◌^◌, ◌<◌, ◌≤◌, refl, arith}
use Rattle.std.proofs.Math.Nat.{mul-le-mul_right, div-le_self}
use Rattle.std.specs.Int.{div_ceil}
use Rattle.pblk_model.specs.declared.shape.Shape.{Shape}
use Rattle.pblk_model.specs.Shape.{units}
use Rattle.pblk_model.specs.Accepted.{IsAccepted}
use Rattle.pblk_model.specs.LineOrder.{start_len, end_len}
use Rattle.pblk_model.proofs.AcceptedLemmas.{line_is_short}

pub blocks_are_few : (s : Shape) (n g b : ℕ) → IsAccepted s → n ≤ units s → g ≡ n → b ≡ s.clba → g * b ≤ 65536
blocks_are_few s n g b accepted few g-is b-is = rw (g-is, b-is) (line_is_short s n accepted few)

-- and whole stripes for so many bytes are few blocks
pub stripes_are_short : (w x y d : ℕ) → d ≡ div_ceil x y → w ≤ 64 → w * d ≤ 64 * (x + 1)
stripes_are_short w x y d d-is short =
    let h1 : w * d ≤ 64 * d = mul-le-mul_right d short in
    let h2 : x / y ≤ x = div-le_self x y in
    let h3 : d ≤ x + 1 = omega arith in
    omega arith

-- and so are those of an end record
pub end_is_short : (s : Shape) (g : ℕ) → IsAccepted s → g ≤ units s → end_len s g < 2 ^ 31
end_is_short s g accepted few =
    let short = line_is_short s g accepted few in
    let bound = stripes_are_short s.ws_opt (32 + 16 * (g * s.clba - start_len s)) (s.ws_opt * (s.sector + 16)) _ refl accepted.drive.short_stripes in
    omega (arith, short, bound)
