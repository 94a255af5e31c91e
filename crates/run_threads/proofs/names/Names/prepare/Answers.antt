use Rattle.std.proofs.Common.{◌++◌, subst, arith}
use Rattle.std.proofs.lemmas.List.{take_all}
use Rattle.run_threads.specs.Names.{AreNames}
use Rattle.run_threads.proofs.Placed.{one_more}
use Rattle.run_threads.proofs.names.Names.prepare.Goals as goal

pub loop-command-preserved : goal.loop-command-preserved
loop-command-preserved c = λ before rest h once.
    let l = c.loop-command in
    one_more l.self c.prepare_one.new.self before c.args.commands.now rest l.command-index c.command-item.result c.loop-command-test.true c.command-item.is
    c.in_ok-prepare_one.ensures (l.invariant before rest h once) once

pub returns : goal.returns
returns c = λ before rest h once.
    let l = c.loop-command in
    subst (λ xs. AreNames l.self (before ++ xs)) (take_all l.command-index c.args.commands.now (omega arith)) (l.invariant before rest h once)
