use Rattle.std.proofs.Common.{◌<◌, length, arith}
use Rattle.stripe_parity.proofs.XorLaws.{mixed_next}
use Rattle.stripe_parity.proofs.xoring.xor_bytes.Goals as goal

pub loop-i-preserved : goal.loop-i-preserved
loop-i-preserved c =
    let inside : c.loop-i.i < length c.args.out.now = omega arith in
    mixed_next c.args.out.now c.args.with.now c.loop-i.out c.loop-i.i inside c.requires c.loop-i.invariant
