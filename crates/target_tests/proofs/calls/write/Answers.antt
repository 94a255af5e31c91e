use Rattle.std.proofs.Common.{arith, sym, ◌∙◌, ◌≡◌}
use Rattle.target_tests.proofs.calls.write.Goals as goal

pub write-requires : goal.write-requires
write-requires g c =
    let size : (g.P.Port.model c.args.port.now).sector ≡ 512 = sym c.sector-size.ensures.sector ∙ c.if-size-ne512.false in
    record { sectors = record { count = 2; some = omega arith; few = omega arith; whole = omega (arith, size) } }
