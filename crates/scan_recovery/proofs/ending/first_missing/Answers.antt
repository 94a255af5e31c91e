use Rattle.std.proofs.Common.{◌+◌, true, false, length, ap, ◌∙◌, arith}
use Rattle.scan_recovery.proofs.Tables.{flag_at}
use Rattle.scan_recovery.proofs.ending.first_missing.Goals as goal
use Rattle.pblk_model.proofs.ContentsLemmas.{missing_goes_on, missing_is, missing_stops}

pub returns-then-not-seen : goal.returns-then-not-seen
returns-then-not-seen c = λ f table.
    missing_stops f (length c.args.borne.now) c.loop-seen.seen-index c.loop-seen.position _ c.loop-seen-test.true
    (ap f c.loop-seen.invariant.low
    ∙ flag_at (length c.args.borne.now)
    (λ k. f (c.args.front + k)) c.args.borne.now c.loop-seen.seen-index false table c.loop-seen-test.true c.if-not-seen.true)
    (c.loop-seen.invariant.rest f table)

pub loop-seen-preserved : goal.loop-seen-preserved
loop-seen-preserved c = record {
  low = omega (arith, c.loop-seen.invariant.low);
  rest = λ f table. missing_goes_on f (length c.args.borne.now) c.loop-seen.seen-index c.loop-seen.position _ c.loop-seen-test.true
      (ap f c.loop-seen.invariant.low
      ∙ flag_at (length c.args.borne.now)
      (λ k. f (c.args.front + k)) c.args.borne.now c.loop-seen.seen-index true table c.loop-seen-test.true c.if-not-seen.false)
      (c.loop-seen.invariant.rest f table);
}

pub returns : goal.returns
returns c = λ f table. missing_is f (length c.args.borne.now) c.loop-seen.seen-index c.loop-seen.position _ c.loop-seen-test.false
    (c.loop-seen.invariant.rest f table)
