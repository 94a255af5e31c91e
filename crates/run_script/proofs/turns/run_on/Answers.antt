use Rattle.std.proofs.Common.{true, false}
use Rattle.std.proofs.lemmas.List.{nil_from_length}
use Rattle.run_script.proofs.RunOn.{passes_as}
use Rattle.run_script.proofs.RunOnLoops.{run_on-goes, run_on-stops, run_on-ends}
use Rattle.run_script.proofs.turns.run_on.Goals as goal

pub loop-numbered-preserved : goal.loop-numbered-preserved
loop-numbered-preserved c =
    let first = c.in-Some.ensures in
    run_on-goes c.args.names.now c.loop-numbered.names c.passes.new.names c.args.thread.now c.loop-numbered.left.now
    c.in-Some.rest.now c.in-Some.numbered.now.0 c.in-Some.numbered.now.1 c.loop-numbered.invariant first.cases.0
    (passes_as c.loop-numbered.names c.passes.new.names c.in-Some.numbered.now.1 c.passes.result true c.passes.ensures c.if-not-passes.false)

pub returns-then-not-passes-clause-rest : goal.returns-then-not-passes-clause-rest
returns-then-not-passes-clause-rest c =
    let first = c.in-Some.ensures in
    run_on-stops c.args.names.now c.loop-numbered.names c.passes.new.names c.args.thread.now c.loop-numbered.left.now
    c.in-Some.rest.now c.in-Some.numbered.now.0 c.in-Some.numbered.now.1 c.loop-numbered.invariant first.cases.0
    (passes_as c.loop-numbered.names c.passes.new.names c.in-Some.numbered.now.1 c.passes.result false c.passes.ensures c.if-not-passes.true)

pub returns-in_default-clause-rest : goal.returns-in_default-clause-rest
returns-in_default-clause-rest c =
    run_on-ends c.args.names.now c.loop-numbered.names c.args.thread.now c.loop-numbered.left.now c.loop-numbered.invariant
    (nil_from_length c.loop-numbered.left.now c.in_default.ensures.cases)
