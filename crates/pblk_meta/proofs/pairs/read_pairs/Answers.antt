use Rattle.std.proofs.Common.{arith, length-drop}
use Rattle.pblk_model.specs.EndRecord.{pairs_in}
use Rattle.pblk_meta.proofs.pairs.read_pairs.Goals as goal
use Rattle.pblk_model.proofs.EndRecordLemmas.{pairs_are_read, pairs_go_on}

pub loop-preserved : goal.loop-preserved
loop-preserved c = record {
  long = rw c.after-rest.ensures (simp length-drop (omega (arith, c.loop.invariant.long)));
  pairs = pairs_go_on c.loop.pairs c.push.new.self c.args.count c.loop.counter c.u64_at-lba.result c.u64_at-position.result c.loop.rest.now
      c.after-rest.result.now (pairs_in c.args.count c.args.bytes.now) c.loop-test.true c.u64_at-lba.ensures c.u64_at-position.ensures c.after-rest.ensures
      c.in_ok-push.ensures.ok c.loop.invariant.pairs;
}

pub returns : goal.returns
returns c = pairs_are_read c.loop.pairs c.args.count c.loop.counter c.loop.rest.now
    (pairs_in c.args.count c.args.bytes.now) c.loop-test.false c.loop.invariant.pairs
