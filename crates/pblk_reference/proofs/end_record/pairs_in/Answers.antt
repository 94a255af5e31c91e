use Rattle.std.proofs.Common.{arith}
use Rattle.pblk_model.specs.EndRecord.{pairs_in}
use Rattle.pblk_reference.proofs.end_record.pairs_in.Goals as goal
use Rattle.pblk_model.proofs.EndRecordLemmas.{pairs_are_read, pairs_go_on}

pub loop-preserved : goal.loop-preserved
loop-preserved c = record {
  pairs = pairs_go_on c.loop.pairs.items c.push.new.self.items c.args.count c.loop.counter c.u64_at-lba.result c.u64_at-position.result c.loop.rest.now
      c.after-rest.result.now (pairs_in c.args.count c.args.bytes.now) c.loop-test.true c.u64_at-lba.ensures c.u64_at-position.ensures c.after-rest.ensures
      c.in_ok-push.ensures.items c.loop.invariant.pairs;
  len = omega (arith, c.in_ok-push.ensures.len, c.loop.invariant.len);
}

pub returns-clause-pairs : goal.returns-clause-pairs
returns-clause-pairs c = pairs_are_read c.loop.pairs.items c.args.count c.loop.counter c.loop.rest.now
    (pairs_in c.args.count c.args.bytes.now) c.loop-test.false c.loop.invariant.pairs
