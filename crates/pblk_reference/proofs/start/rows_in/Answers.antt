use Rattle.pblk_reference.proofs.Starts.{rows_go_on, rows_are_read}
use Rattle.std.proofs.Common.{arith}
use Rattle.pblk_model.specs.StartRecord.{rows_in}
use Rattle.pblk_reference.proofs.start.rows_in.Goals as goal

pub loop-preserved : goal.loop-preserved
loop-preserved c = record {
  rows = rows_go_on c.loop.rows.items c.push.new.self.items c.args.count c.loop.counter c.u32_at-line.result c.u64_at-seq.result c.u64_at-bound.result
      c.loop.rest.now c.after-rest.result.now
      (rows_in c.args.count c.args.bytes.now) c.loop-test.true c.u32_at-line.ensures c.u64_at-seq.ensures c.u64_at-bound.ensures c.after-rest.ensures
      c.in_ok-push.ensures.items c.loop.invariant.rows;
  len = omega (arith, c.in_ok-push.ensures.len, c.loop.invariant.len);
}

pub returns-clause-rows : goal.returns-clause-rows
returns-clause-rows c = rows_are_read c.loop.rows.items c.args.count c.loop.counter c.loop.rest.now
    (rows_in c.args.count c.args.bytes.now) c.loop-test.false c.loop.invariant.rows
