use Rattle.std.proofs.Common.{◌<◌, length, refl, arith}
use Rattle.stripe_placer.proofs.Rising.{first_below}
use Rattle.stripe_placer.proofs.queue.is_first_below.Goals as goal

pub returns-in-Some : goal.returns-in-Some
returns-in-Some c =
    let xs = c.args.queue.now.items in
    let some : 0 < length xs = omega (arith, c.in-Some.ensures.variant.0 refl, c.args.queue.now.ok.0) in
    first_below c.args.position c.in-Some.first.now xs c.requires.rise some c.in-Some.ensures.lookup
