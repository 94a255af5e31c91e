-- How large the numbers of an accepted shape are.
use Rattle.std.proofs.Common.{ℕ, ◌*◌, ◌<◌, ◌≤◌, arith}
use Rattle.std.proofs.Math.Nat.{mul-pos}
use Rattle.pblk_model.specs.declared.shape.Shape.{Shape}
use Rattle.pblk_model.specs.Shape.{units}
use Rattle.pblk_model.specs.Accepted.{IsAccepted}

-- a line has few blocks
abbrev pub ShortLaw : Type 0
ShortLaw = (s : Shape) (g : ℕ) → IsAccepted s → g ≤ units s → g * s.clba ≤ 65536

some_units : (g p : ℕ) → 0 < g → 0 < p → 1 ≤ g * p
some_units g p some_groups some_pus = omega (arith, mul-pos some_groups some_pus)

-- and so has a chunk
pub clba_is_short : ShortLaw → (s : Shape) → IsAccepted s → s.clba ≤ 65536
clba_is_short law s accepted =
    let one : 1 ≤ units s = some_units s.groups s.pus accepted.drive.groups accepted.drive.pus in
    let line : 1 * s.clba ≤ 65536 = law s 1 accepted one in
    omega arith
