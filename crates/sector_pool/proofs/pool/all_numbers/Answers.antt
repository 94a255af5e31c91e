use Rattle.std.proofs.Common.{arith}
use Rattle.sector_pool.proofs.Stacks.{put_next}
use Rattle.sector_pool.proofs.pool.all_numbers.Goals as goal

pub loop-number-preserved : goal.loop-number-preserved
loop-number-preserved c =
    let old = c.loop-number.numbers in
    let inv = c.loop-number.invariant in
    let put = c.put.ensures in
    (put_next old.items c.put.new.numbers.items c.loop-number.number put.items inv.0, omega (arith, put.len, inv.1), omega (arith, inv.2, put.capacity))
