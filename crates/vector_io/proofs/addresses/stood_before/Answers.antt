use Rattle.std.proofs.Common.{arith}
use Rattle.std.proofs.lemmas.Bool.{false≢true}
use Rattle.vector_io.proofs.Refusals.{unlike_more, not_repeated}
use Rattle.vector_io.proofs.addresses.stood_before.Goals as goal

pub loop-j-preserved : goal.loop-j-preserved
loop-j-preserved c = unlike_more c.args.addresses.now c.args.index c.loop-j.j _ c.requires c.loop-j-test.true c.loop-j.invariant
    (λ same. false≢true (c.if-is_same.ensures.1 same))

pub returns : goal.returns
returns c = (
  λ is. absurd (false≢true is),
  λ h. absurd (not_repeated c.args.addresses.now c.args.index (λ k a below. c.loop-j.invariant k a (omega arith)) h),
)
