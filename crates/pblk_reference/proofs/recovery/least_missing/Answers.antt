use Rattle.std.proofs.Common.{length, sym, ◌∙◌, arith}
use Rattle.pblk_model.specs.Contents.{is_borne, least_missing}
use Rattle.pblk_reference.proofs.recovery.least_missing.Goals as goal
use Rattle.pblk_model.proofs.ContentsLemmas.{missing_goes_on, missing_is, missing_stops}

pub loop-preserved : goal.loop-preserved
loop-preserved c =
    let borne = is_borne c.args.records.now c.args.head.now in
    let n = length c.args.records.now in
    record {
      rest = missing_goes_on borne n c.loop.counter c.loop.position (least_missing borne n c.args.head.now.front) c.loop-test.true
          (sym c.is_borne.ensures ∙ c.if-not-is_borne.false) c.loop.invariant.rest;
      low = omega (arith, c.loop.invariant.low);
    }

pub returns-then-not-is_borne : goal.returns-then-not-is_borne
returns-then-not-is_borne c =
    let borne = is_borne c.args.records.now c.args.head.now in
    let n = length c.args.records.now in
    missing_stops borne n c.loop.counter c.loop.position (least_missing borne n c.args.head.now.front) c.loop-test.true
    (sym c.is_borne.ensures ∙ c.if-not-is_borne.true) c.loop.invariant.rest

pub returns : goal.returns
returns c =
    let borne = is_borne c.args.records.now c.args.head.now in
    let n = length c.args.records.now in
    missing_is borne n c.loop.counter c.loop.position (least_missing borne n c.args.head.now.front) c.loop-test.false c.loop.invariant.rest
