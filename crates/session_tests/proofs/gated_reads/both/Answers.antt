use Rattle.std.proofs.Common.{arith}
use Rattle.session_tests.proofs.Pairs.{pair_is}
use Rattle.session_tests.proofs.gated_reads.both.Goals as goal

pub returns : goal.returns
returns c =
    let len = c.len.ensures in
    let is = c.if-len-ne2.false in
    pair_is c.args.units.items c.take_last-second.new.units.items c.take_last-first.new.units.items c.take_last-first.result c.take_last-second.result
    (omega (arith, len, is)) c.take_last-second.ensures c.take_last-first.ensures
